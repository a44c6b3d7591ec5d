use Rattle.std.proofs.Common.{◌+◌, ◌≤◌, ◌++◌, List, Bool, map, length}
use Rattle.fs_litmus_tokens.specs.Tokens.{Lined, AreTokens, view}
use Rattle.fs_litmus_tokens.proofs.token.tokens.Given as goal

abbrev pub invariant-loop-first : goal.invariant-loop-first
invariant-loop-first l = record {
  room : l.at + length l.rest ≤ l.fn.line + length l.text;
  rest : (ts : List Lined) (closed : Bool) → AreTokens l.rest l.at ts closed → AreTokens l.text l.fn.line (map view l.out.items ++ ts) closed;
}

abbrev pub decreases-loop-first : goal.decreases-loop-first
decreases-loop-first l = length l.rest
