-- What runs store, and which last words that allows.
use Rattle.std.proofs.Common.{◌≡◌, ◌⊎◌, ℕ, zero, suc, ◌==◌, Bool, true, false, Option, None, Some, List, [], ◌∷◌, map, filter, cond, inl, inr, refl, sym, ap, ap₂, subst, arith}
use Rattle.std.specs.Prelude.{slice_get}
use Rattle.std.specs.List.{Contains, cons_option, filter_map}
use Rattle.std.proofs.lemmas.Bool.{eq-eqb, eqb-true}
use Rattle.std.proofs.lemmas.List.Elements.{Contains-append_left, Contains-append_right, Contains-append_cases}
use Rattle.fs_model.specs.Test.{address_of}
use Rattle.fs_model.specs.declared.step.Step.{Step}
use Rattle.fs_model.specs.Values.{StoresWord}
use Rattle.fs_values.proofs.Contained.{none_in, first_in, later_in, one_in}
use Rattle.fs_judge_outcomes.specs.declared.end.End.{End}
use Rattle.fs_judge_outcomes.specs.declared.end.Stored.{Stored}
use Rattle.fs_judge_outcomes.specs.inner.Ends.{stored_at, or_first, words_for}
use Rattle.fs_judge_outcomes.specs.inner.Runs.{stored_as, stored_by}
use Rattle.fs_judge_outcomes.proofs.Chosen.{stored_of}

abbrev pub at_word : ℕ → ℕ → Stored
at_word location word = record { address = address_of location; word = word }

-- ---- one run

in_cons : (o : Option Stored) (x : Stored) (xs : List Stored) → o ≡ Some x → Contains (cons_option o xs) x
in_cons None x xs e = absurd (let none : None ≡ Some x = e in cc)
in_cons (Some y) x xs e = let both : Some y ≡ Some x = e in let same : y ≡ x = cc in (0, omega arith, same)

later_cons : (o : Option Stored) (x : Stored) (xs : List Stored) → Contains xs x → Contains (cons_option o xs) x
later_cons None x xs has = has
later_cons (Some y) x xs has = later_in y xs x has

from_cons : (o : Option Stored) (x : Stored) (xs : List Stored) → Contains (cons_option o xs) x → (o ≡ Some x) ⊎ Contains xs x
from_cons None x xs has = inr has
from_cons (Some y) x xs (zero, low, same) = inl (ap Some same)
from_cons (Some y) x xs (suc k, low, same) = inr (k, omega (arith, low), same)

pub stored_there : (steps : List Step) (k word : ℕ) → StoresWord steps k word → Contains (filter_map stored_by steps) (at_word k word)
stored_there [] k word none = absurd none
stored_there (s ∷ ss) k word (inl here) = in_cons (stored_by s) (at_word k word) (filter_map stored_by ss) (ap₂ stored_as here.0 here.1)
stored_there (s ∷ ss) k word (inr later) = later_cons (stored_by s) (at_word k word) (filter_map stored_by ss) (stored_there ss k word later)

both_of : (a w : Option ℕ) (k word : ℕ) → stored_as a w ≡ Some (at_word k word) → (a ≡ Some (address_of k)) × (w ≡ Some word)
both_of None w k word e = absurd (let none : None ≡ Some (at_word k word) = e in cc)
both_of (Some a) None k word e = absurd (let none : None ≡ Some (at_word k word) = e in cc)
both_of (Some a) (Some w) k word e =
    let made : Stored = record { address = a; word = w } in
    let both : Some made ≡ Some (at_word k word) = e in
    let same : made ≡ at_word k word = cc in
    (ap (λ (s : Stored). Some s.address) same, ap (λ (s : Stored). Some s.word) same)

pub stored_back : (steps : List Step) (k word : ℕ) → Contains (filter_map stored_by steps) (at_word k word) → StoresWord steps k word
stored_back [] k word has = absurd (none_in (at_word k word) has)
stored_back (s ∷ ss) k word has = elim (from_cons (stored_by s) (at_word k word) (filter_map stored_by ss) has) [
  | inl here ↦ inl (both_of s.address s.stored k word here)
  | inr later ↦ inr (stored_back ss k word later)
]

-- ---- the words of one location

-- the item stands before the others where it passes
abbrev kept : Bool → Stored → List Stored → List Stored
kept b s ss = cond b (s ∷ ss) ss

at_there : (address word : ℕ) (stored : List Stored) → Contains stored (record { address = address; word = word }) → Contains (stored_at address stored) word
at_there address word [] has = absurd (none_in _ has)
at_there address word (s ∷ ss) (zero, low, same) =
    subst (λ (z : Stored). Contains (stored_at address (z ∷ ss)) word) (sym same)
    (rw (eq-eqb address address refl) (first_in word (stored_at address ss)))
at_there address word (s ∷ ss) (suc k, low, same) =
    go (s.address == address) refl (at_there address word ss (k, omega (arith, low), same))
  where
    go : (b : Bool) → (s.address == address) ≡ b → Contains (stored_at address ss) word
        → Contains (map (λ (z : Stored). z.word) (kept b s (filter (λ (z : Stored). z.address == address) ss))) word
    go true e rest = later_in s.word (stored_at address ss) word rest
    go false e rest = rest

abbrev made : ℕ → ℕ → Stored
made address word = record { address = address; word = word }

at_back : (address word : ℕ) (stored : List Stored) → Contains (stored_at address stored) word → Contains stored (record { address = address; word = word })
at_back address word [] has = absurd (none_in word has)
at_back address word (s ∷ ss) has = go (s.address == address) refl (λ rest. at_back address word ss rest) has
  where
    go : (b : Bool) → (s.address == address) ≡ b
        → (Contains (stored_at address ss) word → Contains ss (record { address = address; word = word }))
        → Contains (map (λ (z : Stored). z.word) (kept b s (filter (λ (z : Stored). z.address == address) ss))) word
        → Contains (s ∷ ss) (record { address = address; word = word })
    go true e before (zero, low, same) = (0, omega arith, ap₂ made (eqb-true s.address address e) same)
    go true e before (suc k, low, same) = later_in s ss _ (before (k, omega (arith, low), same))
    go false e before later = later_in s ss _ (before later)

none_at : (address : ℕ) (stored : List Stored) → ((word : ℕ) → Contains (stored_at address stored) word → ⊥) → stored_at address stored ≡ []
none_at address stored none = go (stored_at address stored) refl
  where
    go : (ws : List ℕ) → stored_at address stored ≡ ws → ws ≡ []
    go [] e = refl
    go (w ∷ ws) e = absurd (none w (subst (λ us. Contains us w) (sym e) (first_in w ws)))

in_or_first : (first w : ℕ) (ws : List ℕ) → Contains ws w → Contains (or_first first ws) w
in_or_first first w [] has = absurd (none_in w has)
in_or_first first w (x ∷ xs) has = has

module _ (location first : ℕ) (stored : List Stored) where
  -- nothing is stored there
  abbrev pub Untouched : Type 0
  Untouched = (word : ℕ) → Contains stored (at_word location word) → ⊥

  pub stored_word : (word : ℕ) → Contains stored (at_word location word) → Contains (words_for location first stored) word
  stored_word word has = in_or_first first word (stored_at (address_of location) stored) (at_there (address_of location) word stored has)

  pub first_word : Untouched → Contains (words_for location first stored) first
  first_word none =
      subst (λ ws. Contains (or_first first ws) first)
      (sym (none_at (address_of location) stored (λ word has. none word (at_back (address_of location) word stored has)))) (first_in first [])

  pub word_from : (word : ℕ) → Contains (words_for location first stored) word → Contains stored (at_word location word) ⊎ ((first ≡ word) × Untouched)
  word_from word has = go (stored_at (address_of location) stored) refl has
    where
      go : (ws : List ℕ) → stored_at (address_of location) stored ≡ ws → Contains (or_first first ws) word
          → Contains stored (at_word location word) ⊎ ((first ≡ word) × Untouched)
      go [] e here = inr (
        one_in first word here,
        λ other there. none_in other (subst (λ us. Contains us other) e (at_there (address_of location) other stored there)),
      )
      go (w ∷ ws) e here = inl (at_back (address_of location) word stored (subst (λ us. Contains us word) (sym e) here))

-- ---- all harts

pub record StoredBy (ends : List End) (s : Stored) : Type 0 where
  pub hart : ℕ
  pub end : End
  pub at : slice_get ends hart ≡ Some end
  pub has : Contains end.stored s

pub stored_by_one : (ends : List End) (s : Stored) → Contains (stored_of ends) s → StoredBy ends s
stored_by_one [] s has = absurd (none_in s has)
stored_by_one (e ∷ es) s has = elim (Contains-append_cases e.stored (stored_of es) s has) [
  | inl here ↦ record { hart = 0; end = e; at = refl; has = here }
  | inr later ↦ (let rest = stored_by_one es s later in record { hart = suc rest.hart; end = rest.end; at = rest.at; has = rest.has })
]

pub stored_in_all : (ends : List End) (i : ℕ) (end : End) (s : Stored) → slice_get ends i ≡ Some end → Contains end.stored s → Contains (stored_of ends) s
stored_in_all [] i end s at has = absurd (let none : None ≡ Some end = at in cc)
stored_in_all (e ∷ es) zero end s at has =
    let both : Some e ≡ Some end = at in
    let same : e ≡ end = cc in
    Contains-append_left e.stored (stored_of es) s (subst (λ (z : End). Contains z.stored s) (sym same) has)
stored_in_all (e ∷ es) (suc i) end s at has = Contains-append_right e.stored (stored_of es) s (stored_in_all es i end s at has)
