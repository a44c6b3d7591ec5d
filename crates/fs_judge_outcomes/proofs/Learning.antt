-- A part that says all that a wider one says lies within it.
use Rattle.std.proofs.Common.{◌≡◌, sym, refl, subst, ℕ, ◌<◌, Bool, true, false, ◌==◌, ◌&&◌, Some, List, [], ◌∷◌, length, get_or, inl, inr}
use Rattle.std.specs.Prelude.{slice_get}
use Rattle.std.specs.List.{list_any}
use Rattle.std.proofs.lemmas.Bool.{false≢true, and_parts, and_from, or_cases, eqb-true}
use Rattle.std.proofs.lemmas.List.Folds.{list_any_at}
use Rattle.fs_model.specs.Numbers.{is_same}
use Rattle.fs_judge_outcomes.specs.declared.part.Atom.{Atom}
use Rattle.fs_judge_outcomes.specs.inner.Parts.{as_wanted, is_so, is_in, is_same_atom, is_within, IsLeft}

same_truth : (wanted found : Bool) → as_wanted wanted found ≡ true → found ≡ wanted
same_truth true found h = h
same_truth false true h = absurd (false≢true h)
same_truth false false h = refl

same_so : (one other : Atom) (s : List ℕ) → is_same_atom one other ≡ true → is_so s other ≡ true → is_so s one ≡ true
same_so one other s h so =
    let parts = and_parts ((one.index == other.index) && (one.word == other.word)) (as_wanted one.is other.is) h in
    let here = and_parts (one.index == other.index) (one.word == other.word) parts.0 in
    subst (λ (i : ℕ). as_wanted one.is (is_same (slice_get s i) (Some one.word)) ≡ true) (sym (eqb-true one.index other.index here.0))
    (subst (λ (w : ℕ). as_wanted one.is (is_same (slice_get s other.index) (Some w)) ≡ true) (sym (eqb-true one.word other.word here.1))
    (subst (λ (b : Bool). as_wanted b (is_same (slice_get s other.index) (Some other.word)) ≡ true) (same_truth one.is other.is parts.1) so))

has_so : (part : List Atom) (atom : Atom) (s : List ℕ) → list_any (is_same_atom atom) part ≡ true → is_in part s ≡ true → is_so s atom ≡ true
has_so [] atom s h inside = absurd (false≢true h)
has_so (other ∷ part) atom s h inside =
    let parts = and_parts (is_so s other) (is_in part s) inside in
    elim (or_cases (is_same_atom atom other) (list_any (is_same_atom atom) part) h) [
      | inl here ↦ same_so atom other s here parts.0
      | inr later ↦ has_so part atom s later parts.1
    ]

pub wider_in : (part wider : List Atom) (s : List ℕ) → is_within part wider ≡ true → is_in part s ≡ true → is_in wider s ≡ true
wider_in part [] s h inside = refl
wider_in part (atom ∷ wider) s h inside =
    let parts = and_parts (list_any (is_same_atom atom) part) (is_within part wider) h in
    and_from (is_so s atom) (is_in wider s) (has_so part atom s parts.0 inside) (wider_in part wider s parts.1 inside)

pub left_within : (barren : List (List Atom)) (i : ℕ) (wider part : List Atom) (s : List ℕ) → i < length barren → wider ≡ get_or barren i wider
    → is_within part wider ≡ true → is_in part s ≡ true → IsLeft barren s
left_within barren i wider part s low is within inside =
    list_any_at (λ x. is_in x s) barren i wider low
    (subst (λ (x : List Atom). is_in x s ≡ true) is (wider_in part wider s within inside))
