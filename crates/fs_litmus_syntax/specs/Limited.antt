-- Conditions with their depths, where they aren't too deep.
use Rattle.std.specs.Prelude.{ℕ, ◌+◌, max, nat_le, ◌||◌, if◌then◌else◌}
use Rattle.fs_kinds.specs.Limits.{most_depth}
use Rattle.fs_litmus_syntax.specs.Grammar.{Syntax}
use Rattle.fs_litmus_syntax.specs.Meaning.{Condition, Atom, True, False, Deny, Both, Either, condition_of, written_depth, grouped_depth, depth_of}
use Rattle.fs_litmus_syntax.specs.Machine.{Maker}

-- a condition, how deep it is as it is written and as it is grouped; or too deep
pub data Bounded : Type 0 where
  Deep : Bounded
  Fine : (written grouped : ℕ) → Condition → Bounded

abbrev pub with_denial : Bounded → Bounded
with_denial Deep = Deep
with_denial (Fine w g c) = if nat_le most_depth w || nat_le most_depth g then Deep else Fine (w + 1) (g + 1) (Deny c)

abbrev pub in_parentheses : Bounded → Bounded
in_parentheses Deep = Deep
in_parentheses (Fine w g c) = if nat_le most_depth w then Deep else Fine (w + 1) g c

abbrev pub connected : (Condition → Condition → Condition) → Bounded → Bounded → Bounded
connected f Deep y = Deep
connected f (Fine m g a) Deep = Deep
connected f (Fine m g a) (Fine n h b) = if nat_le most_depth (max g h) then Deep else Fine (max m n) (max g h + 1) (f a b)

abbrev pub limited : Maker Bounded
limited = record {
  atom = λ t v. Fine 0 0 (Atom t v);
  truth = Fine 0 0 True;
  falsity = Fine 0 0 False;
  deny = with_denial;
  group = in_parentheses;
  both = connected Both;
  either = connected Either;
}

abbrev pub bounded : Syntax → Bounded
bounded s = if nat_le (depth_of s) most_depth then Fine (written_depth s) (grouped_depth (condition_of s)) (condition_of s) else Deep
