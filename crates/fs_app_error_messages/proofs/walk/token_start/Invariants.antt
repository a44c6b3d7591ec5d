use Rattle.std.proofs.Common.{ℕ, List, ◌≤◌, ◌-◌, length, drop}
use Rattle.fs_app_error_messages.specs.Walks.{AreAtMost, BeginsAt}
use Rattle.fs_app_error_messages.proofs.walk.token_start.Given as goal

abbrev pub invariant-loop-first : goal.invariant-loop-first
invariant-loop-first l = record {
  within : l.at ≤ length l.text;
  before : (at : List ℕ) → BeginsAt l.left (drop l.at l.text) at → BeginsAt l.number l.text at;
  few : AreAtMost (drop l.at l.text) l.left → AreAtMost l.text l.number;
}

abbrev pub decreases-loop-first : goal.decreases-loop-first
decreases-loop-first l = length l.text - l.at
