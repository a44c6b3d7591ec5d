-- Where the listing of runs meets no fault, no run over the value sets goes astray.
use Rattle.std.proofs.Common.{◌≡◌, ◌≢◌, ℕ, zero, suc, ◌<◌, ◌≤◌, List, [], ◌∷◌, length, All, true, refl, sym, ap, subst, inl, inr, arith}
use Rattle.std.specs.List.{AllPairs}
use Rattle.std.proofs.lemmas.Bool.{eqb-true, ltb-true, or_cases, and_parts}
use Rattle.std.proofs.lemmas.List.Elements.{All-cons}
use Rattle.std.proofs.lemmas.List.Kept.{AllPairs-cons}
use Rattle.fs_kinds.specs.declared.fault.Fault.{Fault}
use Rattle.fs_kinds.specs.declared.fault.Fault.TheVariants as fault
use Rattle.fs_model.specs.declared.test.Test.{Test}
use Rattle.fs_model.specs.declared.step.Choice.{Choice}
use Rattle.fs_model.specs.Choices.{ComesBefore}
use Rattle.fs_model.specs.Values.{IsValueAfter, rounds}
use Rattle.fs_model.specs.TooMany.{AreMoreThan, most_choice_lists, EndsAstray, IsHartFault, is_sooner}
use Rattle.fs_model.proofs.ChoiceOrder.{comes_trans, comes_not_itself}
use Rattle.fs_values.specs.ThinAir.{NeverAstray, MeetsNoFault}

-- ---- no first one

module _ (A : List Choice → Type 0) (next : (xs : List Choice) → A xs → ((ys : List Choice) → A ys → ComesBefore ys xs → ⊥) → ⊥) where
  -- n and one more such lists, all different, the first of which comes before the others
  record Chain (n : ℕ) : Type 0 where
    first : List Choice
    others : List (List Choice)
    is : A first
    are : All A others
    before : All (ComesBefore first) others
    differ : AllPairs (λ x y. x ≢ y) others
    many : length others ≡ n

  none_of : (P : List Choice → Type 0) → All P []
  none_of P k d low = absurd (omega (arith, low))

  no_pair : AllPairs (λ (x y : List Choice). x ≢ y) []
  no_pair = λ i j d low high. absurd (omega (arith, high))

  differs : (x : List Choice) (ys : List (List Choice)) → All (ComesBefore x) ys → All (λ y. x ≢ y) ys
  differs x ys h k d low same = comes_not_itself x (subst (ComesBefore x) (sym same) (h k d low))

  before_all : (x y : List Choice) (zs : List (List Choice)) → ComesBefore x y → All (ComesBefore y) zs → All (ComesBefore x) zs
  before_all x y zs p h k d low = comes_trans x y _ p (h k d low)

  longer : (n : ℕ) → (xs : List Choice) → A xs → (Chain n → ⊥) → ⊥
  longer zero xs a stop = stop (record { first = xs; others = []; is = a; are = none_of A; before = none_of (ComesBefore xs); differ = no_pair; many = refl })
  longer (suc n) xs a stop = longer n xs a (λ c. next c.first c.is (λ ys b p. stop (record {
    first = ys;
    others = c.first ∷ c.others;
    is = b;
    are = All-cons A c.first c.others c.is c.are;
    before = All-cons (ComesBefore ys) c.first c.others p (before_all ys c.first c.others p c.before);
    differ = AllPairs-cons (λ x y. x ≢ y) c.first c.others (differs c.first c.others c.before) c.differ;
    many = ap suc c.many;
  })))

  -- so there are more than any number
  pub more_than : (n : ℕ) (xs : List Choice) → A xs → (AreMoreThan n A → ⊥) → ⊥
  more_than n xs a few = longer (suc n) xs a (λ c. few (c.others, c.differ, c.are, (let many = c.many in omega (arith, many))))

-- ---- the faults of a test, round by round and hart by hart

module _ (t : Test) (no_fault : MeetsNoFault t) where
  abbrev NoFaultAt : ℕ → ℕ → Type 0
  NoFaultAt n h = (g : Fault) → IsHartFault t (IsValueAfter t n) h g → ⊥

  by_first : (n h : ℕ) → n ≤ rounds t → h < length t.codes
      → ((m k : ℕ) → k < length t.codes → is_sooner m k n h ≡ true → NoFaultAt m k) → NoFaultAt n h
  by_first n h low inside sooner g met =
      no_fault g (record { round = n; hart = h; round_of_test = low; hart_of_test = inside; met = met; first = (λ m k f there e. sooner m k there e f) })

  -- all sooner rounds, and all sooner harts of the round
  harts : (n : ℕ) → n ≤ rounds t → ((m k : ℕ) → m < n → k < length t.codes → NoFaultAt m k)
      → (d h : ℕ) → h < d → h < length t.codes → NoFaultAt n h
  harts n low rounds_before zero h near inside = absurd (omega (arith, near))
  harts n low rounds_before (suc d) h near inside = by_first n h low inside (λ m k there e. elim (or_cases _ _ e) [
    | inl round ↦ rounds_before m k (ltb-true m n round) there
    | inr same ↦ (
        let parts = and_parts _ _ same in
        let k_low = ltb-true k h parts.1 in
        subst (λ r. NoFaultAt r k) (sym (eqb-true m n parts.0)) (harts n low rounds_before d k (omega (arith, near, k_low)) there))
  ])

  all_rounds : (d n h : ℕ) → n < d → n ≤ rounds t → h < length t.codes → NoFaultAt n h
  all_rounds zero n h near low inside = absurd (omega (arith, near))
  all_rounds (suc d) n h near low inside =
      harts n low (λ m k sooner there. all_rounds d m k (omega (arith, near, sooner)) (omega (arith, low, sooner)) there) (suc h) h (omega arith) inside

  pub never_astray : NeverAstray t
  never_astray n hart low inside choices at astray =
      let none = all_rounds (suc n) n hart (omega arith) low inside in
      let few = none fault.TooManyTraces in
      more_than (λ cs. (k : ℕ) × EndsAstray t (IsValueAfter t n) hart cs k)
      (λ cs a no_other. none (fault.Astray hart a.0) (refl, few, (cs, a.1, (λ others k b before. no_other others (k, b) before))))
      most_choice_lists choices (at, astray)
      (λ more. few (more.0, more.1, (λ k d there. inr (more.2 k d there)), more.3))
