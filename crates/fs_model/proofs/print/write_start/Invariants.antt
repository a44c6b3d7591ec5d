use Rattle.std.proofs.Common.{◌≡◌, ◌==◌, not, map, filter, take, string_bytes}
use Rattle.std.specs.List.{enumerate_from}
use Rattle.fs_model.specs.Printed.{register_text}
use Rattle.fs_model.proofs.print.write_start.Given as goal

abbrev pub invariant-loop-register : goal.invariant-loop-register
invariant-loop-register l =
    map string_bytes l.pieces.items ≡ map (register_text l.locations l.hart) (filter (λ numbered. not (numbered.1 == 0)) (take l.register (enumerate_from 0 l.start)))
