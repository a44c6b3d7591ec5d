use Rattle.std.proofs.Common.{take}
use Rattle.serde_json.specs.View.{items_view}
use Rattle.fs_cert_evidence.specs.WitnessFile.{EachItem}
use Rattle.fs_cert_evidence.specs.Texts.{number}
use Rattle.fs_cert_json.proofs.Steps.{Is}
use Rattle.fs_cert_json.proofs.write_tree.numbers_value.Given as goal

-- the values so far are what is written for the numbers so far
abbrev pub invariant-loop-number : goal.invariant-loop-number
invariant-loop-number l = EachItem (Is number) (items_view l.values.items) (take l.number-index l.numbers)
