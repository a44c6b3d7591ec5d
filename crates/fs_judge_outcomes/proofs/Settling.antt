-- What is left of conditions: it is true where they are, settling twice is settling once by both, and where all is
-- known all is settled.
use Rattle.std.proofs.Common.{◌≡◌, ℕ, ◌==◌, Bool, true, false, ◌&&◌, ◌||◌, not, Option, Some, None, refl, sym, ◌∙◌, ap}
use Rattle.std.specs.Option.{option_or}
use Rattle.fs_model.specs.Condition.{Condition, Always, Never, RegisterIs, LocationIs, Deny, Both, Either}
use Rattle.fs_model.specs.Shows.{holds}
use Rattle.fs_judge_outcomes.specs.declared.settled.Shape.{Shape}
use Rattle.fs_judge_outcomes.specs.declared.settled.Shape.TheVariants as shape
use Rattle.fs_judge_outcomes.specs.inner.Settled.{truth_of, shape_of, settled_atom, denied_by, both_by, either_by, denied, both, either, settled}

-- ---- shapes

open_always : shape.Open ≡ shape.Always → ⊥
open_always e = cc

open_never : shape.Open ≡ shape.Never → ⊥
open_never e = cc

is_always : (c : Condition) → shape_of c ≡ shape.Always → c ≡ Always
is_always Always e = refl
is_always Never e = absurd (let no : shape.Never ≡ shape.Always = e in cc)
is_always (RegisterIs h g x) e = absurd (open_always e)
is_always (LocationIs k x) e = absurd (open_always e)
is_always (Deny c) e = absurd (open_always e)
is_always (Both c d) e = absurd (open_always e)
is_always (Either c d) e = absurd (open_always e)

is_never : (c : Condition) → shape_of c ≡ shape.Never → c ≡ Never
is_never Always e = absurd (let no : shape.Always ≡ shape.Never = e in cc)
is_never Never e = refl
is_never (RegisterIs h g x) e = absurd (open_never e)
is_never (LocationIs k x) e = absurd (open_never e)
is_never (Deny c) e = absurd (open_never e)
is_never (Both c d) e = absurd (open_never e)
is_never (Either c d) e = absurd (open_never e)

and_true : (b : Bool) → b && true ≡ b
and_true true = refl
and_true false = refl

and_false : (b : Bool) → b && false ≡ false
and_false true = refl
and_false false = refl

or_true : (b : Bool) → b || true ≡ true
or_true true = refl
or_true false = refl

or_false : (b : Bool) → b || false ≡ b
or_false true = refl
or_false false = refl

-- ---- what is left is true where the condition is

module _ (r : ℕ → ℕ → ℕ) (w : ℕ → ℕ) where
  pub truth_holds : (b : Bool) → holds r w (truth_of b) ≡ b
  truth_holds true = refl
  truth_holds false = refl

  denied_holds : (c : Condition) → holds r w (denied c) ≡ not (holds r w c)
  denied_holds c = go (shape_of c) refl
    where
      go : (a : Shape) → shape_of c ≡ a → holds r w (denied_by a c) ≡ not (holds r w c)
      go shape.Always e = sym (ap (λ d. not (holds r w d)) (is_always c e))
      go shape.Never e = sym (ap (λ d. not (holds r w d)) (is_never c e))
      go shape.Open e = refl

  both_holds : (c d : Condition) → holds r w (both c d) ≡ (holds r w c && holds r w d)
  both_holds c d = go (shape_of c) (shape_of d) refl refl
    where
      go : (a b : Shape) → shape_of c ≡ a → shape_of d ≡ b → holds r w (both_by a b c d) ≡ (holds r w c && holds r w d)
      go shape.Always b e f = sym (ap (λ x. holds r w x && holds r w d) (is_always c e))
      go shape.Never b e f = sym (ap (λ x. holds r w x && holds r w d) (is_never c e))
      go shape.Open shape.Always e f =
          sym (and_true (holds r w c)) ∙ sym (ap (λ x. holds r w c && holds r w x) (is_always d f))
      go shape.Open shape.Never e f =
          sym (and_false (holds r w c)) ∙ sym (ap (λ x. holds r w c && holds r w x) (is_never d f))
      go shape.Open shape.Open e f = refl

  either_holds : (c d : Condition) → holds r w (either c d) ≡ (holds r w c || holds r w d)
  either_holds c d = go (shape_of c) (shape_of d) refl refl
    where
      go : (a b : Shape) → shape_of c ≡ a → shape_of d ≡ b → holds r w (either_by a b c d) ≡ (holds r w c || holds r w d)
      go shape.Always b e f = sym (ap (λ x. holds r w x || holds r w d) (is_always c e))
      go shape.Never b e f = sym (ap (λ x. holds r w x || holds r w d) (is_never c e))
      go shape.Open shape.Always e f =
          sym (or_true (holds r w c)) ∙ sym (ap (λ x. holds r w c || holds r w x) (is_always d f))
      go shape.Open shape.Never e f =
          sym (or_false (holds r w c)) ∙ sym (ap (λ x. holds r w c || holds r w x) (is_never d f))
      go shape.Open shape.Open e f = refl

  register_atom : (h g x : ℕ) (o : Option ℕ) → ((y : ℕ) → o ≡ Some y → r h g ≡ y)
      → holds r w (settled_atom (RegisterIs h g x) x o) ≡ (r h g == x)
  register_atom h g x None agrees = refl
  register_atom h g x (Some y) agrees = truth_holds (y == x) ∙ ap (λ n. n == x) (sym (agrees y refl))

  location_atom : (k x : ℕ) (o : Option ℕ) → ((y : ℕ) → o ≡ Some y → w k ≡ y)
      → holds r w (settled_atom (LocationIs k x) x o) ≡ (w k == x)
  location_atom k x None agrees = refl
  location_atom k x (Some y) agrees = truth_holds (y == x) ∙ ap (λ n. n == x) (sym (agrees y refl))

  module _ (register : ℕ → ℕ → Option ℕ) (location : ℕ → Option ℕ) (registers : (h g y : ℕ) → register h g ≡ Some y → r h g ≡ y) (locations : (k y : ℕ) → location k ≡ Some y → w k ≡ y) where
    pub settled_holds : (c : Condition) → holds r w (settled register location c) ≡ holds r w c
    settled_holds Always = refl
    settled_holds Never = refl
    settled_holds (RegisterIs h g x) = register_atom h g x (register h g) (registers h g)
    settled_holds (LocationIs k x) = location_atom k x (location k) (locations k)
    settled_holds (Deny c) = denied_holds (settled register location c) ∙ ap not (settled_holds c)
    settled_holds (Both c d) =
        both_holds (settled register location c) (settled register location d)
        ∙ ap (λ b. b && holds r w (settled register location d)) (settled_holds c)
        ∙ ap (λ b. holds r w c && b) (settled_holds d)
    settled_holds (Either c d) =
        either_holds (settled register location c) (settled register location d)
        ∙ ap (λ b. b || holds r w (settled register location d)) (settled_holds c)
        ∙ ap (λ b. holds r w c || b) (settled_holds d)

  -- each atom is known, with the word that it has
  module _ (register : ℕ → ℕ → Option ℕ) (location : ℕ → Option ℕ) where
    abbrev pub AllKnown : Condition → Type 0
    AllKnown Always = Unit {0}
    AllKnown Never = Unit {0}
    AllKnown (RegisterIs h g x) = register h g ≡ Some (r h g)
    AllKnown (LocationIs k x) = location k ≡ Some (w k)
    AllKnown (Deny c) = AllKnown c
    AllKnown (Both c d) = AllKnown c × AllKnown d
    AllKnown (Either c d) = AllKnown c × AllKnown d

    denied_truth : (b : Bool) → denied (truth_of b) ≡ truth_of (not b)
    denied_truth true = refl
    denied_truth false = refl

    both_truth : (a b : Bool) → both (truth_of a) (truth_of b) ≡ truth_of (a && b)
    both_truth true b = refl
    both_truth false b = refl

    either_truth : (a b : Bool) → either (truth_of a) (truth_of b) ≡ truth_of (a || b)
    either_truth true b = refl
    either_truth false b = refl

    pub settled_total : (c : Condition) → AllKnown c → settled register location c ≡ truth_of (holds r w c)
    settled_total Always known = refl
    settled_total Never known = refl
    settled_total (RegisterIs h g x) known = ap (settled_atom (RegisterIs h g x) x) known
    settled_total (LocationIs k x) known = ap (settled_atom (LocationIs k x) x) known
    settled_total (Deny c) known = ap denied (settled_total c known) ∙ denied_truth (holds r w c)
    settled_total (Both c d) known =
        ap (λ x. both x (settled register location d)) (settled_total c known.0)
        ∙ ap (both (truth_of (holds r w c))) (settled_total d known.1) ∙ both_truth (holds r w c) (holds r w d)
    settled_total (Either c d) known =
        ap (λ x. either x (settled register location d)) (settled_total c known.0)
        ∙ ap (either (truth_of (holds r w c))) (settled_total d known.1) ∙ either_truth (holds r w c) (holds r w d)

-- ---- settling twice

both_always : (c : Condition) → both c Always ≡ c
both_always Always = refl
both_always Never = refl
both_always (RegisterIs h g x) = refl
both_always (LocationIs k x) = refl
both_always (Deny c) = refl
both_always (Both c d) = refl
both_always (Either c d) = refl

both_never : (c : Condition) → both c Never ≡ Never
both_never Always = refl
both_never Never = refl
both_never (RegisterIs h g x) = refl
both_never (LocationIs k x) = refl
both_never (Deny c) = refl
both_never (Both c d) = refl
both_never (Either c d) = refl

either_always : (c : Condition) → either c Always ≡ Always
either_always Always = refl
either_always Never = refl
either_always (RegisterIs h g x) = refl
either_always (LocationIs k x) = refl
either_always (Deny c) = refl
either_always (Both c d) = refl
either_always (Either c d) = refl

either_never : (c : Condition) → either c Never ≡ c
either_never Always = refl
either_never Never = refl
either_never (RegisterIs h g x) = refl
either_never (LocationIs k x) = refl
either_never (Deny c) = refl
either_never (Both c d) = refl
either_never (Either c d) = refl

module _ (register : ℕ → ℕ → Option ℕ) (location : ℕ → Option ℕ) where
  pub settled_truth : (b : Bool) → settled register location (truth_of b) ≡ truth_of b
  settled_truth true = refl
  settled_truth false = refl

  settled_denied : (c : Condition) → settled register location (denied c) ≡ denied (settled register location c)
  settled_denied c = go (shape_of c) refl
    where
      go : (a : Shape) → shape_of c ≡ a → settled register location (denied_by a c) ≡ denied (settled register location c)
      go shape.Always e = sym (ap (λ x. denied (settled register location x)) (is_always c e))
      go shape.Never e = sym (ap (λ x. denied (settled register location x)) (is_never c e))
      go shape.Open e = refl

  settled_both : (c d : Condition)
      → settled register location (both c d) ≡ both (settled register location c) (settled register location d)
  settled_both c d = go (shape_of c) (shape_of d) refl refl
    where
      go : (a b : Shape) → shape_of c ≡ a → shape_of d ≡ b
          → settled register location (both_by a b c d) ≡ both (settled register location c) (settled register location d)
      go shape.Always b e f = sym (ap (λ x. both (settled register location x) (settled register location d)) (is_always c e))
      go shape.Never b e f = sym (ap (λ x. both (settled register location x) (settled register location d)) (is_never c e))
      go shape.Open shape.Always e f =
          sym (both_always (settled register location c))
          ∙ sym (ap (λ x. both (settled register location c) (settled register location x)) (is_always d f))
      go shape.Open shape.Never e f =
          sym (both_never (settled register location c))
          ∙ sym (ap (λ x. both (settled register location c) (settled register location x)) (is_never d f))
      go shape.Open shape.Open e f = refl

  settled_either : (c d : Condition)
      → settled register location (either c d) ≡ either (settled register location c) (settled register location d)
  settled_either c d = go (shape_of c) (shape_of d) refl refl
    where
      go : (a b : Shape) → shape_of c ≡ a → shape_of d ≡ b
          → settled register location (either_by a b c d) ≡ either (settled register location c) (settled register location d)
      go shape.Always b e f = sym (ap (λ x. either (settled register location x) (settled register location d)) (is_always c e))
      go shape.Never b e f = sym (ap (λ x. either (settled register location x) (settled register location d)) (is_never c e))
      go shape.Open shape.Always e f =
          sym (either_always (settled register location c))
          ∙ sym (ap (λ x. either (settled register location c) (settled register location x)) (is_always d f))
      go shape.Open shape.Never e f =
          sym (either_never (settled register location c))
          ∙ sym (ap (λ x. either (settled register location c) (settled register location x)) (is_never d f))
      go shape.Open shape.Open e f = refl

-- the first knows what the second, third and fourth know together
pub record Joins (register first second : ℕ → ℕ → Option ℕ) (location third fourth : ℕ → Option ℕ) : Type 0 where
  pub registers : (h g : ℕ) → register h g ≡ option_or (first h g) (second h g)
  pub locations : (k : ℕ) → location k ≡ option_or (third k) (fourth k)

module _ (register first second : ℕ → ℕ → Option ℕ) (location third fourth : ℕ → Option ℕ) (joins : Joins register first second location third fourth) where
  twice_register : (h g x : ℕ) (o : Option ℕ)
      → settled second fourth (settled_atom (RegisterIs h g x) x o) ≡ settled_atom (RegisterIs h g x) x (option_or o (second h g))
  twice_register h g x None = refl
  twice_register h g x (Some y) = settled_truth second fourth (y == x)

  twice_location : (k x : ℕ) (o : Option ℕ)
      → settled second fourth (settled_atom (LocationIs k x) x o) ≡ settled_atom (LocationIs k x) x (option_or o (fourth k))
  twice_location k x None = refl
  twice_location k x (Some y) = settled_truth second fourth (y == x)

  pub settled_twice : (c : Condition) → settled second fourth (settled first third c) ≡ settled register location c
  settled_twice Always = refl
  settled_twice Never = refl
  settled_twice (RegisterIs h g x) =
      twice_register h g x (first h g) ∙ ap (settled_atom (RegisterIs h g x) x) (sym (joins.registers h g))
  settled_twice (LocationIs k x) =
      twice_location k x (third k) ∙ ap (settled_atom (LocationIs k x) x) (sym (joins.locations k))
  settled_twice (Deny c) = settled_denied second fourth (settled first third c) ∙ ap denied (settled_twice c)
  settled_twice (Both c d) =
      settled_both second fourth (settled first third c) (settled first third d)
      ∙ ap (λ x. both x (settled second fourth (settled first third d))) (settled_twice c)
      ∙ ap (both (settled register location c)) (settled_twice d)
  settled_twice (Either c d) =
      settled_either second fourth (settled first third c) (settled first third d)
      ∙ ap (λ x. either x (settled second fourth (settled first third d))) (settled_twice c)
      ∙ ap (either (settled register location c)) (settled_twice d)
