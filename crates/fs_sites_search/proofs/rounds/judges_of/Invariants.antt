use Rattle.std.proofs.Common.{◌≡◌, map, take}
use Rattle.fs_sites_search.proofs.rounds.judges_of.Given as goal

abbrev pub invariant-loop-part : goal.invariant-loop-part
invariant-loop-part l = l.judges.items ≡ map (λ part. part.test) (take l.part-index l.parts)
