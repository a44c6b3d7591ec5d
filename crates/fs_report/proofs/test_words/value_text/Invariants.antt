use Rattle.std.proofs.Common.{◌≡◌, drop}
use Rattle.fs_model.specs.Printed.{value_from, value_text}
use Rattle.fs_report.proofs.test_words.value_text.Given as goal

abbrev pub invariant-loop-number : goal.invariant-loop-number
invariant-loop-number l = value_from l.number (drop l.number l.locations) l.word ≡ value_text l.locations l.word
