-- More states than a list may have.
use Rattle.std.proofs.Common.{◌≡◌, ◌≢◌, ◌<◌, ℕ, List, [], ◌∷◌, All, length, sym, subst, arith}
use Rattle.std.specs.List.{AllByRecursion, AllPairs}
use Rattle.std.specs.List.Sorted.{IsStrictlySortedBy}
use Rattle.std.specs.Ordering.{nat_cmp, ordering_reverse}
use Rattle.std.specs.declared.cmp.Ordering.{Ordering}
use Rattle.std.specs.declared.cmp.Ordering.TheVariants.{Less, Equal, Greater}
use Rattle.std.specs.Cmp.Lexicographic.{slice_cmp}
use Rattle.std.proofs.lemmas.Cmp.{nat_list_cmp_total}
use Rattle.std.proofs.lemmas.List.{length-map}
use Rattle.std.proofs.lemmas.List.Elements.{All-from_recursion, All-map, All-weaker}
use Rattle.std.proofs.lemmas.List.Kept.{AllPairs-cons}
use Rattle.fs_kinds.specs.declared.placement.Entry.{Entry}
use Rattle.fs_model.specs.declared.test.Test.{Test}
use Rattle.fs_model.specs.TooMany.{AreMoreThan}
use Rattle.fs_judge_outcomes.specs.declared.part.Atom.{Atom}
use Rattle.fs_judge_outcomes.specs.declared.place.Place.{Place}
use Rattle.fs_judge_outcomes.specs.declared.state.State.{State}
use Rattle.fs_judge_outcomes.specs.States.{IsShownState, IsState, words_of}
use Rattle.fs_judge_outcomes.specs.inner.Parts.{IsListed}

-- ---- rising lists differ

itself : (o : Ordering) → o ≡ ordering_reverse o → o ≢ Less
itself Less h e = absurd (cc h)
itself Equal h e = absurd (cc e)
itself Greater h e = absurd (cc e)

differ : (x y : List ℕ) → slice_cmp nat_cmp x y ≡ Less → x ≢ y
differ x y less same =
    itself (slice_cmp nat_cmp x x) (nat_list_cmp_total.antisymm x x) (subst (λ (z : List ℕ). slice_cmp nat_cmp x z ≡ Less) (sym same) less)

differ_all : (x : List ℕ) (ys : List (List ℕ)) → AllByRecursion (λ y. slice_cmp nat_cmp x y ≡ Less) ys → All (λ y. x ≢ y) ys
differ_all x ys less =
    All-weaker (λ y. slice_cmp nat_cmp x y ≡ Less) (λ y. x ≢ y) (differ x) ys (All-from_recursion (λ y. slice_cmp nat_cmp x y ≡ Less) ys less)

all_differ : (xs : List (List ℕ)) → IsStrictlySortedBy (slice_cmp nat_cmp) xs → AllPairs (λ x y. x ≢ y) xs
unfolding IsStrictlySortedBy
all_differ [] sorted = λ i j d lt within. absurd (omega (arith, within))
all_differ (x ∷ xs) sorted = AllPairs-cons (λ x y. x ≢ y) x xs (differ_all x xs sorted.0) (all_differ xs sorted.1)

-- ---- states

state_of_shown : (t : Test) (p : List Entry) (places : List Place) (state : State) → IsShownState t p places state → IsState t p places state.words
state_of_shown t p places state h = (h.0, h.2, h.3)

-- where so many are known, there are so many
pub many : (t : Test) (p : List Entry) (places : List Place) (n : ℕ) (known : List State) (parts : List (List Atom))
    → IsListed t p places known parts → n < length known → AreMoreThan n (IsState t p places)
many t p places n known parts is more = (
  words_of known,
  all_differ (words_of known) is.rising,
  All-map (IsState t p places) (λ state. state.words) known
      (All-weaker (IsShownState t p places) (λ state. IsState t p places state.words) (state_of_shown t p places) known is.shown),
  subst (λ count. n < count) (sym (length-map known (λ state. state.words))) more,
)
