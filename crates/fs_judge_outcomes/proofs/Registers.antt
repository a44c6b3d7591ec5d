-- The registers that a condition names, and the words that they end with.
use Rattle.std.proofs.Common.{◌≡◌, ◌⊎◌, ℕ, ◌<◌, ◌==◌, Bool, true, false, Option, None, Some, List, [], ◌∷◌, ◌++◌, map, inl, inr, refl, sym, ◌∙◌, ap, subst}
use Rattle.std.specs.Prelude.{if◌then◌else◌, ◌||◌}
use Rattle.std.specs.List.{list_any}
use Rattle.std.proofs.lemmas.Bool.{eq-eqb, eqb-true, false≢true}
use Rattle.fs_model.specs.Condition.{Condition, Always, Never, RegisterIs, LocationIs, Deny, Both, Either, SpeaksOf}
use Rattle.fs_judge_outcomes.specs.declared.end.Known.{Known}
use Rattle.fs_judge_outcomes.specs.inner.Ends.{word_in}
use Rattle.fs_judge_outcomes.specs.inner.Runs.{known_of, registers_in, with_register}
use Rattle.fs_judge_outcomes.proofs.Settling.{AllKnown}

-- it names the hart's register
abbrev pub Names : Condition → (hart reg : ℕ) → Type 0
Names Always hart reg = ⊥
Names Never hart reg = ⊥
Names (RegisterIs other g w) hart reg = (other ≡ hart) × (g ≡ reg)
Names (LocationIs k w) hart reg = ⊥
Names (Deny c) hart reg = Names c hart reg
Names (Both c d) hart reg = Names c hart reg ⊎ Names d hart reg
Names (Either c d) hart reg = Names c hart reg ⊎ Names d hart reg

-- the register is among these
abbrev Has : List ℕ → ℕ → Type 0
Has registers g = list_any (λ known. known == g) registers ≡ true

has_left : (xs ys : List ℕ) (g : ℕ) → Has xs g → Has (xs ++ ys) g
has_left [] ys g e = absurd (false≢true e)
has_left (x ∷ xs) ys g e = go (x == g) (has_left xs ys g) e
  where
    go : (b : Bool) → (Has xs g → Has (xs ++ ys) g) → (b || list_any (λ known. known == g) xs) ≡ true
        → (b || list_any (λ known. known == g) (xs ++ ys)) ≡ true
    go true rest is = refl
    go false rest is = rest is

has_last : (xs : List ℕ) (g : ℕ) → Has (xs ++ g ∷ []) g
has_last [] g = rw (eq-eqb g g refl) refl
has_last (x ∷ xs) g = go (x == g) (has_last xs g)
  where
    go : (b : Bool) → Has (xs ++ g ∷ []) g → (b || list_any (λ known. known == g) (xs ++ g ∷ [])) ≡ true
    go true rest = refl
    go false rest = rest

with_kept : (registers : List ℕ) (reg g : ℕ) → Has registers g → Has (with_register reg registers) g
with_kept registers reg g e = go (list_any (λ known. known == reg) registers)
  where
    go : (b : Bool) → Has (if b then registers else registers ++ reg ∷ []) g
    go true = e
    go false = has_left registers (reg ∷ []) g e

with_there : (registers : List ℕ) (reg : ℕ) → Has (with_register reg registers) reg
with_there registers reg = go (list_any (λ known. known == reg) registers) refl
  where
    go : (b : Bool) → list_any (λ known. known == reg) registers ≡ b → Has (if b then registers else registers ++ reg ∷ []) reg
    go true e = e
    go false e = has_last registers reg

module _ (hart : ℕ) where
  kept_after : (c : Condition) (registers : List ℕ) (g : ℕ) → Has registers g → Has (registers_in hart c registers) g
  kept_after Always registers g e = e
  kept_after Never registers g e = e
  kept_after (RegisterIs other reg w) registers g e = go (other == hart)
    where
      go : (b : Bool) → Has (if b then with_register reg registers else registers) g
      go true = with_kept registers reg g e
      go false = e
  kept_after (LocationIs k w) registers g e = e
  kept_after (Deny c) registers g e = kept_after c registers g e
  kept_after (Both c d) registers g e = kept_after d (registers_in hart c registers) g (kept_after c registers g e)
  kept_after (Either c d) registers g e = kept_after d (registers_in hart c registers) g (kept_after c registers g e)

  there_after : (c : Condition) (registers : List ℕ) (g : ℕ) → Names c hart g → Has (registers_in hart c registers) g
  there_after Always registers g names = absurd names
  there_after Never registers g names = absurd names
  there_after (RegisterIs other reg w) registers g names =
      rw (eq-eqb other hart names.0) (subst (λ k. Has (with_register reg registers) k) names.1 (with_there registers reg))
  there_after (LocationIs k w) registers g names = absurd names
  there_after (Deny c) registers g names = there_after c registers g names
  there_after (Both c d) registers g (inl here) = kept_after d (registers_in hart c registers) g (there_after c registers g here)
  there_after (Both c d) registers g (inr there) = there_after d (registers_in hart c registers) g there
  there_after (Either c d) registers g (inl here) = kept_after d (registers_in hart c registers) g (there_after c registers g here)
  there_after (Either c d) registers g (inr there) = there_after d (registers_in hart c registers) g there

module _ (word : ℕ → ℕ) where
  -- the words that are known are right
  abbrev pub AreRight : List Known → Type 0
  AreRight known = (g y : ℕ) → word_in known g ≡ Some y → word g ≡ y

  pub named_right : (registers : List ℕ) → AreRight (map (known_of word) registers)
  named_right [] g y e = absurd (let none : None ≡ Some y = e in cc)
  named_right (reg ∷ registers) g y e = go (reg == g) refl (named_right registers g y) e
    where
      go : (b : Bool) → (reg == g) ≡ b → (word_in (map (known_of word) registers) g ≡ Some y → word g ≡ y)
          → (if b then Some (word reg) else word_in (map (known_of word) registers) g) ≡ Some y → word g ≡ y
      go true same rest is =
          let both : Some (word reg) ≡ Some y = is in let right : word reg ≡ y = cc in ap word (sym (eqb-true reg g same)) ∙ right
      go false same rest is = rest is

  word_there : (registers : List ℕ) (g : ℕ) → Has registers g → (y : ℕ) × (word_in (map (known_of word) registers) g ≡ Some y)
  word_there [] g e = absurd (false≢true e)
  word_there (reg ∷ registers) g e = go (reg == g) (word_there registers g) e
    where
      go : (b : Bool) → (Has registers g → (y : ℕ) × (word_in (map (known_of word) registers) g ≡ Some y))
          → (b || list_any (λ known. known == g) registers) ≡ true
          → (y : ℕ) × ((if b then Some (word reg) else word_in (map (known_of word) registers) g) ≡ Some y)
      go true rest is = (word reg, refl)
      go false rest is = rest is

  pub named_is : (hart : ℕ) (c : Condition) (g : ℕ) → Names c hart g
      → word_in (map (known_of word) (registers_in hart c [])) g ≡ Some (word g)
  named_is hart c g names =
      let found = word_there (registers_in hart c []) g (there_after hart c [] g names) in
      found.1 ∙ ap Some (sym (named_right (registers_in hart c []) g found.0 found.1))

-- ---- all that a condition names is known

module _ (r : ℕ → ℕ → ℕ) (w : ℕ → ℕ) (register : ℕ → ℕ → Option ℕ) (location : ℕ → Option ℕ) (harts locations : ℕ) where
  pub all_known : (c : Condition) → SpeaksOf harts locations c → ((h g : ℕ) → h < harts → Names c h g → register h g ≡ Some (r h g))
      → ((k : ℕ) → k < locations → location k ≡ Some (w k)) → AllKnown r w register location c
  all_known Always speaks registers words = tt
  all_known Never speaks registers words = tt
  all_known (RegisterIs h g x) speaks registers words = registers h g speaks.0 (refl, refl)
  all_known (LocationIs k x) speaks registers words = words k speaks.0
  all_known (Deny c) speaks registers words = all_known c speaks registers words
  all_known (Both c d) speaks registers words = (
    all_known c speaks.0 (λ h g low names. registers h g low (inl names)) words,
    all_known d speaks.1 (λ h g low names. registers h g low (inr names)) words,
  )
  all_known (Either c d) speaks registers words = (
    all_known c speaks.0 (λ h g low names. registers h g low (inl names)) words,
    all_known d speaks.1 (λ h g low names. registers h g low (inr names)) words,
  )
