-- A witness's JSON text has no float, and nests no deeper than three levels.
use Rattle.std.proofs.Common.{◌≡◌, ◌≤◌, List, [], ◌∷◌, map, false, refl, arith}
use Rattle.serde_json.specs.Data.{depth, items_depth}
use Rattle.serde_json.specs.Read.{max_depth}
use Rattle.serde_json.specs.Written.{has_float, items_have_float}
use Rattle.fs_kinds.specs.declared.reason.OperationName.{OperationName as Name}
use Rattle.fs_model.specs.declared.step.Choice.{Choice}
use Rattle.fs_model.specs.declared.step.Choice.TheVariants.{Word, Success, Failure}
use Rattle.fs_model.specs.Witness.{Witness}
use Rattle.fs_cert_evidence.specs.Texts.{items_of, choice_value, witness_value}
use Rattle.fs_report.specs.inner.Written.{choices_value, name_value}

choices_whole : (choices : List Choice) → items_have_float (items_of (map choice_value choices)) ≡ false
choices_whole [] = refl
choices_whole (Word w ∷ choices) = choices_whole choices
choices_whole (Success ∷ choices) = choices_whole choices
choices_whole (Failure ∷ choices) = choices_whole choices

lists_whole : (lists : List (List Choice)) → items_have_float (items_of (map choices_value lists)) ≡ false
lists_whole [] = refl
lists_whole (choices ∷ lists) = rw (choices_whole choices, lists_whole lists) refl

names_whole : (names : List Name) → items_have_float (items_of (map name_value names)) ≡ false
names_whole [] = refl
names_whole (name ∷ names) = names_whole names

pub no_float : (w : Witness) → has_float (witness_value w) ≡ false
no_float w = rw (lists_whole w.choices, names_whole w.order) refl

choices_flat : (choices : List Choice) → items_depth (items_of (map choice_value choices)) ≡ 0
choices_flat [] = refl
choices_flat (Word w ∷ choices) = rw (choices_flat choices) refl
choices_flat (Success ∷ choices) = rw (choices_flat choices) refl
choices_flat (Failure ∷ choices) = rw (choices_flat choices) refl

names_flat : (names : List Name) → items_depth (items_of (map name_value names)) ≡ 0
names_flat [] = refl
names_flat (name ∷ names) = rw (names_flat names) refl

lists_low : (lists : List (List Choice)) → items_depth (items_of (map choices_value lists)) ≤ 1
lists_low [] = omega arith
lists_low (choices ∷ lists) = rw (choices_flat choices) (let rest = lists_low lists in omega (arith, rest))

pub shallow : (w : Witness) → depth (witness_value w) ≤ max_depth
shallow w = rw (names_flat w.order) (let lists = lists_low w.choices in omega (arith, lists))
