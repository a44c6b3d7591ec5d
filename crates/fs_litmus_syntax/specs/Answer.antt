-- What a reader of conditions answers.
use Rattle.std.specs.Prelude.{◌≡◌, List, Some, None, map, option_map, nat_le, if◌then◌else◌}
use Rattle.fs_kinds.specs.Limits.{most_depth}
use Rattle.fs_litmus_tokens.specs.Tokens.{Lined, views}
use Rattle.fs_litmus_tokens.specs.Sections.{StopsText}
use Rattle.fs_litmus_tokens.specs.declared.values.Stop.{Stop}
use Rattle.fs_litmus_tokens.specs.declared.values.Stop.TheVariants.{Memory, At}
use Rattle.fs_litmus_syntax.specs.declared.condition.Condition as conditions
use Rattle.fs_litmus_syntax.specs.Grammar.{Syntax, IsCondition}
use Rattle.fs_litmus_syntax.specs.Meaning.{condition_of, atoms_of, depth_of}
use Rattle.fs_litmus_syntax.specs.Views.{atom_of, tree_of}

-- the condition has the atoms of the syntax, and its tree, which isn't there exactly where it is deeper than the limit
pub record Means (c : conditions.Condition) (s : Syntax) : Type 0 where
  pub atoms : map atom_of c.atoms.items ≡ atoms_of s
  pub tree : option_map tree_of c.tree ≡ (if nat_le (depth_of s) most_depth then Some (condition_of s) else None)

-- unless memory was refused, the first token of the rest is the first with which the tokens so far begin no condition;
-- where the rest is empty they end too soon
abbrev pub StopsAt : List Lined → Stop → Type 0
StopsAt ts Memory = Unit {0}
StopsAt ts (At rest) = StopsText IsCondition ts (views rest.now)
