-- From what is said at seats to what holds of the tests of a question.
use Rattle.std.proofs.Common.{◌≡◌, ◌≢◌, ◌<◌, ◌+◌, ℕ, ◌==◌, Bool, true, false, inl, inr, arith, refl, [], ◌∷◌, ◌++◌, Option, None, Some, is_some, IfSome, MatchOption, Result, Ok, Err, IfOk, IfErr, List, All, length, slice_get, sym, ap, subst, ◌∙◌}
use Rattle.std.proofs.lemmas.Bool.{cases_lt, eqb-true}
use Rattle.std.proofs.lemmas.List.Elements.{All-push}
use Rattle.std.specs.Prelude.{get_or}
use Rattle.std.proofs.lemmas.Option.{slice_get_within, slice_get_read, get_or_from_slice_get}
use Rattle.fs_kinds.specs.declared.fault.Fault.{Fault}
use Rattle.fs_kinds.specs.declared.fault.Fault.TheVariants.{Memory}
use Rattle.fs_kinds.specs.declared.placement.Entry.{Entry}
use Rattle.fs_model.specs.declared.test.Test.{Test}
use Rattle.fs_model.specs.Allows.{Allows}
use Rattle.fs_cert_evidence.specs.CandidateFaults.{IsCandidateFault}
use Rattle.fs_cert_evidence.specs.Evidence.{Shown}
use Rattle.fs_sites.specs.Answers.{IsPartFault, IsShownIn, IsShownUnder}
use Rattle.fs_sites.specs.Questions.{AllowsIn, Part, image}
use Rattle.fs_sites.specs.inner.Bars.{IsShownBySome}
use Rattle.fs_sites_search.specs.Seats.{Asked, FailsAt, ForbidBelow, ForbidsAt, IsAskedIn, IsOfTest, IsPlaceOf, IsSaid, ShowsAt}

-- ---- what a seat says

module _ (seats : List Asked) (number place : ℕ) (is : IsPlaceOf seats number place) where
  pub said-ok : (r : Result (Option Shown) Fault) → IsSaid is.seat.test is.seat.fences r
      → IfOk r (λ found. MatchOption found (ForbidsAt seats number) (ShowsAt seats number))
  said-ok (Ok None) said = record { place = place; is = is; forbids = said }
  said-ok (Ok (Some w)) said = record { place = place; is = is; shown = said }
  said-ok (Err f) said = tt

  pub said-err : (r : Result (Option Shown) Fault) → IsSaid is.seat.test is.seat.fences r
      → IfErr r (λ f. f ≢ Memory → FailsAt seats f)
  said-err (Ok found) said = tt
  said-err (Err f) said = λ other. record { number = number; place = place; is = is; fails = said other }

-- one test more
pub forbid-more : (seats : List Asked) (number : ℕ) → ForbidsAt seats number → ForbidBelow seats number → ForbidBelow seats (number + 1)
forbid-more seats number here before other low = elim (cases_lt other number) [
  | inl less ↦ before other less
  | inr most ↦ (let same : number ≡ other = omega (arith, low, most) in subst (ForbidsAt seats) same here)
]

-- ---- tests one after the other

-- what was said at seats of the next test
module _ (seats now : List Asked) (number : ℕ) (same : now ≡ seats) where
  pub forbids-here : (found : Option Shown) → found ≡ None → MatchOption found (ForbidsAt now number) (ShowsAt now number) → ForbidsAt seats number
  forbids-here None none said = subst (λ xs. ForbidsAt xs number) same said
  forbids-here (Some w) none said = absurd (cc)

  pub shows-here : (found : Option Shown) (w : Shown) → found ≡ Some w → MatchOption found (ForbidsAt now number) (ShowsAt now number)
      → ShowsAt seats number w
  shows-here None w some said = absurd (cc)
  shows-here (Some other) w some said =
      let one : other ≡ w = cc in
      subst (λ xs. ShowsAt xs number w) same (subst (ShowsAt now number) one said)

-- of the first tests, so many, these were found to allow their outcomes; and a fault of one, if there is one
pub record KnownBelow (seats : List Asked) (tests : ℕ) (found : List (ℕ × Shown)) (failed : Option Fault) : Type 0 where
  pub shown : All (λ shown. ShowsAt seats shown.0 shown.1) found
  pub fails : IfSome failed (λ f. f ≢ Memory → FailsAt seats f)
  pub none : found ≡ [] → failed ≡ None → ForbidBelow seats tests

not-empty : {A : Type 0} (xs : List A) (x : A) → xs ++ x ∷ [] ≡ [] → ⊥
not-empty [] x empty = cc
not-empty (y ∷ xs) x empty = cc

module _ (seats : List Asked) (number : ℕ) (found : List (ℕ × Shown)) (failed : Option Fault) (known : KnownBelow seats number found failed) where
  pub known-forbidden : ForbidsAt seats number → KnownBelow seats (number + 1) found failed
  known-forbidden here = record {
    shown = known.shown;
    fails = known.fails;
    none = λ empty well. forbid-more seats number here (known.none empty well);
  }

  pub known-shown : (w : Shown) → ShowsAt seats number w → KnownBelow seats (number + 1) (found ++ (number, w) ∷ []) failed
  known-shown w here = record {
    shown = All-push (λ shown. ShowsAt seats shown.0 shown.1) found (number, w) known.shown here;
    fails = known.fails;
    none = λ empty well. absurd (not-empty found (number, w) empty);
  }

  pub known-failed : (f : Fault) → (f ≢ Memory → FailsAt seats f) → KnownBelow seats (number + 1) found (Some f)
  known-failed f here = record {
    shown = known.shown;
    fails = here;
    none = λ empty well. absurd (cc);
  }

  pub known-again : is_some failed ≡ true → KnownBelow seats (number + 1) found failed
  known-again some = record {
    shown = known.shown;
    fails = known.fails;
    none = λ empty well. let none : is_some failed ≡ false = ap is_some well in absurd (cc);
  }

-- ---- what seats say of a question

pub of-tests : (parts : List Part) (p : List Entry) (seats : List Asked) → All (IsAskedIn parts p) seats → All (IsOfTest parts) seats
of-tests parts p seats are k d low = let is = are k d low in record { part = is.part; at = is.at; test = is.test }

pub of-test : (parts : List Part) (number : ℕ) (other : Part) (seat : Asked) → number < length parts → other ≡ get_or parts number other
    → seat.number ≡ number → seat.test ≡ other.test → IsOfTest parts seat
of-test parts number other seat low read same test =
    let at = slice_get_read parts (length parts) number other refl low read in
    record { part = other; at = subst (λ n. slice_get parts n ≡ Some other) (sym same) at; test = test }

pub asked-in : (parts : List Part) (p : List Entry) (seat new : Asked) (number : ℕ) (other : Part) → IsOfTest parts seat → number ≡ seat.number
    → other ≡ get_or parts number other → new.number ≡ seat.number → new.test ≡ seat.test → new.fences ≡ image other.places p → IsAskedIn parts p new
asked-in parts p seat new number other of here read same test fences =
    let at : slice_get parts number ≡ Some of.part = subst (λ n. slice_get parts n ≡ Some of.part) (sym here) of.at in
    let part : other ≡ of.part = read ∙ get_or_from_slice_get parts number of.part other at in
    record {
      part = of.part;
      at = subst (λ n. slice_get parts n ≡ Some of.part) (sym same) of.at;
      test = test ∙ of.test;
      fences = fences ∙ ap (λ (x : Part). image x.places p) part;
    }

-- where a list is found to be empty
pub nothing-left : {A : Type 0} (xs : List A) (n : ℕ) (b : Bool) → b ≡ true → b ≡ (n == 0) → n ≡ length xs → xs ≡ []
nothing-left [] n b so is len = refl
nothing-left (x ∷ xs) n b so is len = let none : n ≡ 0 = eqb-true n 0 (sym is ∙ so) in absurd (omega (arith, none, len))

pub shown-by-some : (parts : List Part) (p : List Entry) (found : List (ℕ × Shown)) → All (λ shown. IsShownIn parts p shown.0 shown.1) found
    → All (λ shown. IsShownBySome parts shown.0 shown.1) found
shown-by-some parts p found each k d low = (p, each k d low)

module _ (parts : List Part) (p : List Entry) (seats : List Asked) (are : All (IsAskedIn parts p) seats) where
  asked-at : (k : ℕ) (seat : Asked) → slice_get seats k ≡ Some seat → IsAskedIn parts p seat
  asked-at k seat at = subst (IsAskedIn parts p) (get_or_from_slice_get seats k seat seat at) (are k seat (slice_get_within seats k seat at))

  asked-of : (number place : ℕ) (is : IsPlaceOf seats number place) → IsAskedIn parts p is.seat
  asked-of number place is = asked-at place is.seat is.at

  pub shown-in : (number : ℕ) (w : Shown) → ShowsAt seats number w → IsShownIn parts p number w
  shown-in number w at =
      let seat = at.is.seat in
      let asked = asked-of number at.place at.is in (
        asked.part,
        subst (λ n. slice_get parts n ≡ Some asked.part) at.is.same asked.at,
        subst (λ (t : Test). IsShownUnder t (image asked.part.places p) w) asked.test
            (subst (λ (fences : List Entry). IsShownUnder seat.test fences w) asked.fences at.shown),
      )

  pub all-shown-in : (found : List (ℕ × Shown)) → All (λ shown. ShowsAt seats shown.0 shown.1) found
      → All (λ shown. IsShownIn parts p shown.0 shown.1) found
  all-shown-in found at k d low = shown-in _ _ (at k d low)

  -- the fault of a seat is one of a test
  pub fails-in : (f : Fault) → FailsAt seats f → IsPartFault parts f
  fails-in f at =
      let asked = asked-of at.number at.place at.is in (
        at.is.seat.number,
        asked.part,
        asked.at,
        subst (λ (t : Test). IsCandidateFault t f) asked.test at.fails,
      )

  pub forbid-in : ForbidBelow seats (length parts) → AllowsIn parts p → ⊥
  forbid-in forbid allows =
      let number = allows.0 in
      let part = allows.1 in
      let at = forbid number (slice_get_within parts number part allows.2) in
      let seat = at.is.seat in
      let asked = asked-of number at.place at.is in
      let here : slice_get parts number ≡ Some asked.part = subst (λ n. slice_get parts n ≡ Some asked.part) at.is.same asked.at in
      let there : slice_get parts number ≡ Some part = allows.2 in
      let same : part ≡ asked.part = cc in
      at.forbids
      (subst (λ (t : Test). Allows t seat.fences) (sym asked.test)
      (subst (λ (fences : List Entry). Allows asked.part.test fences) (sym asked.fences)
      (subst (λ (x : Part). Allows x.test (image x.places p)) same allows.3)))

  pub first-in : (found : Option (ℕ × Shown)) → MatchOption found (ForbidBelow seats (length parts)) (λ shown. ShowsAt seats shown.0 shown.1)
      → MatchOption found (AllowsIn parts p → ⊥) (λ shown. IsShownIn parts p shown.0 shown.1)
  first-in None h = forbid-in h
  first-in (Some shown) h = shown-in shown.0 shown.1 h
