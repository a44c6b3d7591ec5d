use Rattle.fs_cert.proofs.Least.{IsLeast}
use Rattle.fs_cert.proofs.cycles.least_of.Given as goal

-- the least of those so far
abbrev pub invariant-loop-i : goal.invariant-loop-i
invariant-loop-i l = IsLeast l.links l.i l.least
