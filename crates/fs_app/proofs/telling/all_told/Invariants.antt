use Rattle.std.proofs.Common.{map, string_bytes, take}
use Rattle.fs_app.specs.Telling.{AreTold}
use Rattle.fs_app.proofs.telling.all_told.Given as goal

-- those so far
abbrev pub invariant-loop-number : goal.invariant-loop-number
invariant-loop-number l = AreTold l.telling (take l.number l.lines) (map (λ test. test.items) l.tests) (string_bytes l.text)
