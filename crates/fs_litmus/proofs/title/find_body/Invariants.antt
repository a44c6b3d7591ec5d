use Rattle.std.proofs.Common.{ℕ, List, ◌+◌, ◌≤◌, length}
use Rattle.fs_litmus.specs.Title.{IsBody}
use Rattle.fs_litmus.proofs.title.find_body.Given as goal

abbrev pub invariant-loop-rest : goal.invariant-loop-rest
invariant-loop-rest l = record {
  room : l.at + length l.rest ≤ l.fn.line + length l.fn.bytes;
  found : (text : List ℕ) (n : ℕ) → IsBody l.rest l.at text n → IsBody l.fn.bytes l.fn.line text n;
  kept : (text : List ℕ) (n : ℕ) → IsBody l.fn.bytes l.fn.line text n → IsBody l.rest l.at text n;
}

abbrev pub decreases-loop-rest : goal.decreases-loop-rest
decreases-loop-rest l = length l.rest
