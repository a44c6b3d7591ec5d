-- A condition whose atoms are all there.
use Rattle.std.proofs.Common.{◌≡◌, ℕ, List, [], ◌∷◌, ◌++◌, Option, Some, None, Bool, true, false, ◌&&◌, cond, refl, sym, ap, ◌∙◌, nat_le}
use Rattle.std.specs.Prelude.{option_map, is_some}
use Rattle.std.proofs.Math.Bool.{and_assoc}
use Rattle.fs_litmus_syntax.specs.Grammar.{Syntax, Atom, True, False, Deny, Group, Both, Either}
use Rattle.fs_litmus_syntax.specs.Meaning as meaning
use Rattle.fs_litmus_syntax.specs.Meaning.{atoms_of, depth_of}
use Rattle.fs_litmus_syntax.specs.Answer.{Means}
use Rattle.fs_litmus_syntax.specs.Views.{tree_of}
use Rattle.fs_litmus_syntax.specs.declared.condition.Condition as conditions
use Rattle.fs_litmus_syntax.specs.declared.condition.Tree.{Tree}
use Rattle.fs_model.specs.Condition as ours
use Rattle.fs_model.specs.Condition.{Condition}
use Rattle.fs_litmus.specs.Locations.{Names, Binding}
use Rattle.fs_litmus.specs.Settings.{setting_of, are_there}
use Rattle.fs_litmus.specs.Atoms.{atom_at, condition_in, with_both}
use Rattle.fs_litmus.specs.declared.settings.Setting.{Setting}

both : (a b : Bool) → (a && b) ≡ true → (a ≡ true) × (b ≡ true)
both true b e = (refl, e)
both false b e = absurd (cc)

pub are_both_there : (columns : ℕ) (names : Names) (xs ys : List Binding) → are_there columns names (xs ++ ys) ≡ (are_there columns names xs && are_there columns names ys)
are_both_there columns names [] ys = refl
are_both_there columns names (x ∷ xs) ys =
    ap (λ b. is_some (setting_of columns names x) && b) (are_both_there columns names xs ys) ∙ sym (and_assoc (is_some (setting_of columns names x)) (are_there columns names xs) (are_there columns names ys))

module _ (columns : ℕ) (names : Names) where
  abbrev Is : Option Condition → Type 0
  Is o = (x : Condition) × (o ≡ Some x)

  atom_is : (o : Option Setting) → (is_some o && true) ≡ true → Is (option_map (λ s. atom_at s.holder s.word) o)
  atom_is None e = absurd (cc)
  atom_is (Some s) e = (atom_at s.holder s.word, refl)

  deny_is : (o : Option Condition) → Is o → Is (option_map ours.Deny o)
  deny_is o h = (ours.Deny h.0, ap (option_map ours.Deny) h.1)

  both_is : (f : Condition → Condition → Condition) (a b : Option Condition) → Is a → Is b → Is (with_both f a b)
  both_is f a b h k = (f h.0 k.0, ap (λ o. with_both f o b) h.1 ∙ ap (λ o. with_both f (Some h.0) o) k.1)

  parts : (xs ys : List Binding) → are_there columns names (xs ++ ys) ≡ true → (are_there columns names xs ≡ true) × (are_there columns names ys ≡ true)
  parts xs ys e = both (are_there columns names xs) (are_there columns names ys) (sym (are_both_there columns names xs ys) ∙ e)

  -- it is a condition of the test
  pub is_condition : (s : Syntax) → are_there columns names (atoms_of s) ≡ true → Is (condition_in columns names (meaning.condition_of s))
  is_condition (Atom t v) e = atom_is (setting_of columns names (t, v)) e
  is_condition True e = (ours.Always, refl)
  is_condition False e = (ours.Never, refl)
  is_condition (Deny s) e = deny_is (condition_in columns names (meaning.condition_of s)) (is_condition s e)
  is_condition (Group s) e = is_condition s e
  is_condition (Both a b) e =
      let both = parts (atoms_of a) (atoms_of b) e in
      both_is ours.Both (condition_in columns names (meaning.condition_of a)) (condition_in columns names (meaning.condition_of b)) (is_condition a both.0) (is_condition b both.1)
  is_condition (Either a b) e =
      let both = parts (atoms_of a) (atoms_of b) e in
      both_is ours.Either (condition_in columns names (meaning.condition_of a)) (condition_in columns names (meaning.condition_of b)) (is_condition a both.0) (is_condition b both.1)

chosen : (b : Bool) (x y : meaning.Condition) → Some x ≡ cond b (Some y) None → x ≡ y
chosen true x y e = cc
chosen false x y e = absurd (cc)

-- the tree that was read is that of the syntax
tree_is : (c : conditions.Condition) (tree : Tree) (s : Syntax) → c.tree ≡ Some tree → Means c s → tree_of tree ≡ meaning.condition_of s
tree_is c tree s is m = chosen (nat_le (depth_of s) 64) (tree_of tree) (meaning.condition_of s) (sym (ap (option_map tree_of) is) ∙ m.tree)

no_value : {A B : Type 0} (f : A → B) (o : Option A) (b : B) → o ≡ None → option_map f o ≡ Some b → ⊥
no_value f None b e h = cc
no_value f (Some a) b e h = cc

-- so it can't be missing
pub not_missing : {A : Type 0} (columns : ℕ) (names : Names) (c : conditions.Condition) (tree : Tree) (s : Syntax) (f : A → Condition) (o : Option A) → c.tree ≡ Some tree → Means c s → are_there columns names (atoms_of s) ≡ true → o ≡ None → option_map f o ≡ condition_in columns names (tree_of tree) → ⊥
not_missing columns names c tree s f o is m there none value =
    let found = is_condition columns names s there in
    no_value f o found.0 none (value ∙ ap (condition_in columns names) (tree_is c tree s is m) ∙ found.1)
