use Rattle.std.proofs.Common.{◌∙◌, ap, refl}
use Rattle.std.specs.Arc.{arc_value}
use Rattle.fs_model.specs.declared.test.Test.{Test}
use Rattle.fs_cert_evidence.specs.Inferences.{cycles_of}
use Rattle.fs_app_why.specs.Forbidden.{cycles_text}
use Rattle.fs_app_audit_json_and_why.proofs.refutation.refuted_by.Goals as goal

pub returns-clause-told : goal.returns-clause-told
returns-clause-told c =
    let lines = c.args.lines.now in
    let telling = c.args.telling in
    let cycles = cycles_of c.args.cycles.now in (
      record {
        cycles = cycles;
        kinds = c.in_ok-kinds.kinds.items;
        shows = c.requires.shows;
        are_kinds = c.in_ok-kinds.ensures.ok;
        told = c.in_ok-text.ensures ∙ ap (λ (t : Test). cycles_text t lines telling cycles c.deref-2.result.now) c.deref.ensures
            ∙ ap (cycles_text (arc_value c.args.test.now) lines telling cycles) c.deref-2.ensures.value;
      },
      refl,
    )
