use Rattle.std.proofs.Common.{◌≡◌, take}
use Rattle.std.specs.List.{filter_map}
use Rattle.fs_cand_witness.specs.Naming.{name_at}
use Rattle.fs_cand_witness.proofs.chosen_names.names.Given as goal

-- the names of the operations so far
abbrev pub invariant-loop-number : goal.invariant-loop-number
invariant-loop-number l = l.names.items ≡ filter_map (name_at l.candidate) (take l.number-index l.numbers)
