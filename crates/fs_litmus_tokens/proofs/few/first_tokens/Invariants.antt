use Rattle.std.proofs.Common.{◌≡◌, ◌+◌, ◌≤◌, ◌++◌, List, Bool, length}
use Rattle.fs_litmus_tokens.specs.Tokens.{Lined, AreTokens, without_lines}
use Rattle.fs_litmus_tokens.specs.Few.{AreFirst, are_plain}
use Rattle.fs_litmus_tokens.proofs.few.first_tokens.Given as goal

abbrev pub invariant-loop-first : goal.invariant-loop-first
invariant-loop-first l = record {
  room : l.line + length l.rest ≤ length l.text;
  counted : l.len + length l.rest ≤ length l.text;
  seen : List Lined;
  first : AreFirst l.tokens l.len seen;
  plain : l.plain ≡ are_plain (without_lines seen);
  more : (ts : List Lined) (closed : Bool) → AreTokens l.rest l.line ts closed → AreTokens l.text 0 (seen ++ ts) closed;
}

abbrev pub decreases-loop-first : goal.decreases-loop-first
decreases-loop-first l = length l.rest
