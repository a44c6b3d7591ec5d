-- From round to round, and what holds after the last one.
use Rattle.std.proofs.Common.{◌≡◌, ℕ, suc, ◌+◌, ◌<◌, ◌≤◌, true, List, [], ◌∷◌, refl, subst, sym, ◌∙◌, inl, inr, arith}
use Rattle.std.specs.Cmp.Lexicographic.{pointwise, same_text}
use lib.Dec.{eqb}
use Rattle.std.proofs.lemmas.Bool.{false≢true, cases_lt, eqb-true, ltb-true, or_cases, and_parts}
use Rattle.fs_kinds.specs.declared.fault.Fault.{Fault}
use Rattle.fs_model.specs.declared.test.Test.{Test}
use Rattle.fs_model.specs.Test.{IsBounded}
use Rattle.fs_model.specs.Values.{IsValueAfter, rounds}
use Rattle.fs_model.specs.TooMany.{IsHartFault, IsRunFault}
use Rattle.fs_hart.specs.Listing.{IsOffered}
use Rattle.fs_values.specs.ThinAir.{BeginsWithWords, CanBeListed, IsAlwaysGrounded}
use Rattle.fs_values.proofs.Faults.{never_astray}
use Rattle.fs_values.proofs.Grounded.{always_grounded}
use Rattle.fs_values.specs.Sets.{AreSets, AreValues}
use Rattle.fs_values.specs.Rounds.{IsInNext, AddsNothing, HasNoFault, IsFirstHartFault}
use Rattle.fs_values.proofs.Sets.{joined, hart_fault, turned, next_same, ended, ended_faults}

-- ---- sets that are found to be equal

same_lists : (xs ys : List (List ℕ)) → pointwise (pointwise eqb) xs ys ≡ true → xs ≡ ys
same_lists [] [] e = refl
same_lists [] (y ∷ ys) e = absurd (false≢true e)
same_lists (x ∷ xs) [] e = absurd (false≢true e)
same_lists (x ∷ xs) (y ∷ ys) e =
    let parts = and_parts (pointwise eqb x y) (pointwise (pointwise eqb) xs ys) e in
    let first : x ≡ y = same_text x y (sym parts.0) in
    let rest : xs ≡ ys = same_lists xs ys parts.1 in
    cc

-- where the test of two lists says yes, what the first one is made of is made of the second
pub same_sets : (more sets ms ss : List (List ℕ)) (P : List (List ℕ) → Type 0) → ms ≡ more → ss ≡ sets → pointwise (pointwise eqb) ms ss ≡ true → P more → P sets
same_sets more sets ms ss P m s e p = subst P (sym m ∙ same_lists ms ss e ∙ s) p

-- ---- rounds

-- no hart has a fault in the first n rounds
abbrev pub AreCleanBefore : Test → ℕ → Type 0
AreCleanBefore t n = (m : ℕ) → m < n → HasNoFault t (IsValueAfter t m)

pub none_before : (t : Test) → AreCleanBefore t 0
none_before t m low = absurd (omega (arith, low))

-- all rounds are clean
pub no_run_fault : (t : Test) → AreCleanBefore t (rounds t + 1) → (f : Fault) → IsRunFault t f → ⊥
no_run_fault t clean f run = let low = run.round_of_test in clean run.round (omega (arith, low)) run.hart f run.hart_of_test run.met

pub listable : (t : Test) → IsBounded t → BeginsWithWords t → AreCleanBefore t (rounds t + 1) → CanBeListed t
listable t bounded words clean = record { bounded = bounded; words = words; no_fault = no_run_fault t clean }

pub grounded : (t : Test) → IsBounded t → BeginsWithWords t → AreCleanBefore t (rounds t + 1) → IsAlwaysGrounded t
grounded t bounded words clean = always_grounded t bounded words (never_astray t (no_run_fault t clean))

module _ (t : Test) (n : ℕ) (sets : List (List ℕ)) (are : AreSets t (IsValueAfter t n) sets) where
  abbrev V : ℕ → ℕ → Type 0
  V = IsValueAfter t n

  clean_here : HasNoFault t (IsOffered sets) → HasNoFault t V
  clean_here clean hart f low met = clean hart f low (hart_fault t V (IsOffered sets) (turned (IsOffered sets) V are.words) hart f met)

  pub clean_more : AreCleanBefore t n → HasNoFault t (IsOffered sets) → AreCleanBefore t (n + 1)
  clean_more before clean m low = elim (cases_lt m n) [
    | inl less ↦ before m less
    | inr not_less ↦ (let e : n ≡ m = omega (arith, low, not_less) in subst (λ j. HasNoFault t (IsValueAfter t j)) e (clean_here clean))
  ]

  pub next_round : (more : List (List ℕ)) → AreSets t (IsInNext t (IsOffered sets)) more → AreSets t (IsValueAfter t (n + 1)) more
  next_round more made =
      let e : suc n ≡ n + 1 = omega arith in
      subst (λ j. AreSets t (IsValueAfter t j) more) e (record {
        locations = made.locations;
        rising = made.rising;
        words = joined (IsOffered more) (IsInNext t (IsOffered sets)) (IsValueAfter t (suc n)) made.words (next_same t (IsOffered sets) V are.words);
      })

  -- the first fault of the round is that of the test
  pub run_fault : (f : Fault) → AreCleanBefore t n → n ≤ rounds t → IsFirstHartFault t (IsOffered sets) f → IsRunFault t f
  run_fault f before low first = record {
    round = n;
    hart = first.hart;
    round_of_test = low;
    hart_of_test = first.hart_of_test;
    met = hart_fault t (IsOffered sets) V are.words first.hart f first.met;
    first = λ m h g inside sooner. elim (or_cases _ _ sooner) [
      | inl round ↦ before m (ltb-true m n round) h g inside
      | inr same ↦ (
          let parts = and_parts _ _ same in
          at_once m h g (eqb-true m n parts.0) (ltb-true h first.hart parts.1))
    ];
  }
    where
      at_once : (m h : ℕ) (g : Fault) → m ≡ n → h < first.hart → IsHartFault t (IsValueAfter t m) h g → ⊥
      at_once m h g e lower met =
          first.first h g lower
          (hart_fault t V (IsOffered sets) (turned (IsOffered sets) V are.words) h g (subst (λ j. IsHartFault t (IsValueAfter t j) h g) e met))

  -- the round makes the same sets
  adds_nothing : AreSets t (IsInNext t (IsOffered sets)) sets → AddsNothing t n
  adds_nothing made k word next =
      (are.words k word).0 ((made.words k word).1 ((next_same t (IsOffered sets) V are.words k word).1 next))

  pub values_at_last : n ≡ rounds t → AreValues t sets
  values_at_last e = subst (λ j. AreSets t (IsValueAfter t j) sets) e are

  pub values_at_end : AreSets t (IsInNext t (IsOffered sets)) sets → n ≤ rounds t → AreValues t sets
  values_at_end made low = record {
    locations = are.locations;
    rising = are.rising;
    words = joined (IsOffered sets) V (IsValueAfter t (rounds t)) are.words (ended t n (adds_nothing made) (rounds t) low);
  }

  pub clean_to_end : AreSets t (IsInNext t (IsOffered sets)) sets → AreCleanBefore t n → HasNoFault t (IsOffered sets) → AreCleanBefore t (rounds t + 1)
  clean_to_end made before clean m low = elim (cases_lt m n) [
    | inl less ↦ before m less
    | inr not_less ↦ λ hart f inside met. clean_here clean hart f inside ((ended_faults t n (adds_nothing made) m not_less hart f).1 met)
  ]
