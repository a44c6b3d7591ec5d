use Rattle.std.proofs.Common.{take}
use Rattle.serde_json.specs.View.{items_view}
use Rattle.fs_cert_evidence.specs.WitnessFile.{EachItem}
use Rattle.fs_cert_json.specs.inner.Written.{choices_value}
use Rattle.fs_cert_json.proofs.Steps.{Is}
use Rattle.fs_cert_json.proofs.write_witnesses.lists_value.Given as goal

-- the values so far are what is written for the lists so far
abbrev pub invariant-loop-choices : goal.invariant-loop-choices
invariant-loop-choices l = EachItem (Is choices_value) (items_view l.values.items) (take l.choices-index l.lists)
