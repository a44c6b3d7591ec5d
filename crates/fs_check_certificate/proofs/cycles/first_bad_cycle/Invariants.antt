use Rattle.std.proofs.Common.{◌≡◌, ℕ, ◌<◌, true}
use Rattle.fs_check_certificate.specs.Cycles.{is_cycle_at}
use Rattle.fs_check_certificate.proofs.cycles.first_bad_cycle.Given as goal

-- each cycle so far is one
abbrev pub invariant-loop-index : goal.invariant-loop-index
invariant-loop-index l = (k : ℕ) → k < l.index → is_cycle_at l.showing.test l.placement l.showing.candidates l.cycles k ≡ true
