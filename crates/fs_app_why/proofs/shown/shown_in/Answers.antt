use Rattle.std.proofs.Common.{◌∙◌, ap, map, sym}
use Rattle.fs_cert_evidence.specs.WitnessFile.{in_range}
use Rattle.fs_app_why.proofs.shown.shown_in.Goals as goal

pub returns-clause-some : goal.returns-clause-some
returns-clause-some c = λ w chosen listed.
    c.shown_by.ensures.some w (record {
      choices = c.in_ok-file.ensures.choices ∙ sym chosen;
      order = c.in_ok-file.ensures.order ∙ ap (map in_range) (sym listed);
    })
