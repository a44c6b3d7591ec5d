use Rattle.std.proofs.Common.{subst, arith}
use Rattle.std.proofs.lemmas.List.{take_all}
use Rattle.serde_json.specs.View.{view, items_view}
use Rattle.fs_cert_evidence.specs.WitnessFile.{EachItem, IsName}
use Rattle.fs_report.specs.inner.Written.{SaysName, name_value}
use Rattle.fs_report.proofs.Steps.{each_next, says_array}
use Rattle.fs_report.proofs.witness.names_value.Goals as goal

pub loop-name-preserved : goal.loop-name-preserved
loop-name-preserved c =
    each_next SaysName c.args.names.now c.loop-name.name-index _ c.loop-name.values.items c.push.new.self.items c.in_ok-name_value.field-0 (omega arith)
    c.in_ok-push.ensures.items c.in_ok-name_value.ensures c.loop-name.invariant

pub returns : goal.returns
returns c =
    let all = take_all c.loop-name.name-index c.args.names.now (omega arith) in
    says_array name_value IsName (view c.from.result) c.loop-name.values.items c.args.names.now c.from.ensures
    (subst (EachItem SaysName (items_view c.loop-name.values.items)) all c.loop-name.invariant)
