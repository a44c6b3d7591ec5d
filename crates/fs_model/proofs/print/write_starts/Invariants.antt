use Rattle.std.proofs.Common.{◌≡◌, ◌++◌, take, flat_map, string_bytes}
use Rattle.std.specs.List.{enumerate_from}
use Rattle.fs_model.specs.Printed.{start_text}
use Rattle.fs_model.proofs.print.write_starts.Given as goal

abbrev pub invariant-loop-hart : goal.invariant-loop-hart
invariant-loop-hart l = string_bytes l.text ≡ string_bytes l.initial.text ++ flat_map (start_text l.locations) (take l.hart (enumerate_from 0 l.starts))
