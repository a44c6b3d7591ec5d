use Rattle.std.proofs.Common.{take}
use Rattle.serde_json.specs.View.{items_view}
use Rattle.fs_cert_evidence.specs.WitnessFile.{EachItem}
use Rattle.fs_cert_evidence.specs.Texts.{choice_value}
use Rattle.fs_cert_json.proofs.Steps.{Is}
use Rattle.fs_cert_json.proofs.write_witnesses.choices_value.Given as goal

-- the values so far are what is written for the choices so far
abbrev pub invariant-loop-choice : goal.invariant-loop-choice
invariant-loop-choice l = EachItem (Is choice_value) (items_view l.values.items) (take l.choice-index l.choices)
