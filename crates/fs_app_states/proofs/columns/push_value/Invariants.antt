use Rattle.std.proofs.Common.{◌≡◌, drop, string_bytes}
use Rattle.fs_model.specs.Printed.{value_from, value_text}
use Rattle.fs_app_states.proofs.columns.push_value.Given as goal

abbrev pub invariant-loop-number : goal.invariant-loop-number
invariant-loop-number l =
    (value_from l.number (drop l.number l.locations) l.word ≡ value_text l.locations l.word) × (string_bytes l.text ≡ string_bytes l.initial.text)
