use Rattle.fs_kinds.proofs.Entries.{slots_of-all_with}
use Rattle.fs_kinds.proofs.placement.Placement.uniform.Goals as goal

pub invariant_of-result : goal.invariant_of-result
invariant_of-result c = rw (c.in_ok-entries_at.ensures, slots_of-all_with) c.requires
