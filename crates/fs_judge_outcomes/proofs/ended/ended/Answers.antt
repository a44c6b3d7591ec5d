use Rattle.std.proofs.Common.{◌∙◌, ap, refl, map}
use Rattle.fs_model.specs.Witness.{Witness}
use Rattle.fs_cert_evidence.specs.WitnessFile.{in_range}
use Rattle.fs_judge_outcomes.proofs.Asking.{at_some}
use Rattle.fs_judge_outcomes.proofs.ended.ended.Goals as goal

pub returns-clause-some : goal.returns-clause-some
returns-clause-some c =
    let w : Witness = record { choices = c.witness.inside.choices; order = c.witness.inside.order } in
    let order = c.new-names.ensures ∙ c.in_ok-all_named.ensures ∙ ap (map in_range) c.as_slice.ensures in
    at_some c.in-Some.is _ (c.in_ok-ending.ensures.some w (record { choices = refl; order = order }))
