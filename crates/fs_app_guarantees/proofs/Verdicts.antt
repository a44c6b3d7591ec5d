-- A certificate has one verdict.
use Rattle.std.proofs.Common.{◌≡◌, ◌⊎◌, ℕ, ◌+◌, true, Option, None, Some, List, [], ◌∷◌, ◌++◌, length, refl, sym, ap, subst, ◌∙◌, inl, inr}
use Rattle.std.specs.Prelude.{slice_get, if◌then◌else◌}
use Rattle.std.specs.List.{AllZip, AllByRecursion}
use Rattle.std.proofs.lemmas.Bool.{false≢true, and_parts}
use Rattle.std.proofs.lemmas.Slice.Zip.{AllZip-long}
use Rattle.fs_kinds.specs.declared.placement.Entry.{Entry}
use Rattle.fs_kinds.specs.declared.reason.Reason.{Reason}
use Rattle.fs_kinds.specs.declared.reason.Reason.TheVariants as reason
use Rattle.fs_kinds.specs.PriceTable.{PriceTable}
use Rattle.fs_kinds.specs.Slot.{IsSlot, is_rising}
use Rattle.fs_model.specs.declared.test.Test.{Test}
use Rattle.fs_model.specs.Test.{IsBounded}
use Rattle.fs_model.proofs.Rising.{rising-slots_from}
use Rattle.fs_cert_evidence.specs.Candidates.{Candidate}
use Rattle.fs_cert_evidence.specs.Certificate.{Certificate, Answer, Fenced, NoneForbids, Cycles, Listed, Inferred, Link, Inference, fence_words}
use Rattle.fs_cert_evidence.specs.Refusals.{IsFirstBad, first_wrong, IsListRefusal, IsCyclesRefusal}
use Rattle.fs_board_offers.specs.Offers.{Offers, slots, cost, offers_of}
use Rattle.fs_board_offers.specs.Parts.{undecided}
use Rattle.fs_board_offers.specs.Priced as priced
use Rattle.fs_board_offers.specs.Refusals.{IsBad, IsBadAnswer, Fails, IsPlacedRefusal, IsRefusedAfter, IsRefusal}
use Rattle.fs_board_offers.proofs.Priced.{same-slots}
use Rattle.fs_check_certificate.proofs.Words.{small_slots}
use Rattle.fs_cert_evidence.specs.Cycles.{IsCycle}
use Rattle.fs_cert_evidence.specs.Regions.{Region}
use Rattle.fs_cert_evidence.specs.Trees.{follows, left_after, refutes, roots}
use Rattle.fs_board_offers.specs.Valid.{Forbid, Covers, IsAnswered, IsValidFor, IsValidForNone, IsValid}
use Rattle.fs_app_guarantees.proofs.Families.{one_family}
use Rattle.fs_app_guarantees.proofs.Firsts.{same_Some, zip_at, place_once}
use Rattle.fs_app_guarantees.proofs.Listed.{one_listing}
use Rattle.fs_app_guarantees.proofs.Walks.{covers_or_fails, fails_once}
use Rattle.fs_app_guarantees.proofs.Worded.{one_answered}

-- ---- the reasons against what is to show that the placement forbids the outcome

-- nothing is wrong with what refutes
nothing_wrong : (t : Test) (p : List Entry) (regions : List Region) (inferences : List Inference) (k : ℕ)
    → refutes t p regions inferences ≡ true → first_wrong t p regions inferences k ≡ None
nothing_wrong t p [] [] k h = refl
nothing_wrong t p [] (inference ∷ inferences) k h = absurd (false≢true h)
nothing_wrong t p (region ∷ regions) [] k h = absurd (false≢true h)
nothing_wrong t p (region ∷ regions) (inference ∷ inferences) k h =
    let left = left_after t region inference ++ regions in
    let parts = and_parts (follows t p region inference) (refutes t p left inferences) h in
    ap (λ drawn. if drawn then first_wrong t p left inferences (k + 1) else Some (reason.Cycle k)) parts.0
    ∙ nothing_wrong t p left inferences (k + 1) parts.1

module _ (t : Test) (p : List Entry) where
  module _ (cs : List Candidate) (cycles : List (List Link)) where
    list_apart : (why : Reason) → AllZip (IsCycle t p) cs cycles → IsListRefusal t p cs cycles why → ⊥
    list_apart reason.Cycles all h = h (AllZip-long (IsCycle t p) cs cycles all)
    list_apart (reason.Cycle index) all h =
        let bad = h.1 in
        bad.bad (zip_at (IsCycle t p) cs cycles index bad.candidate bad.links all bad.the_candidate bad.the_links)
    list_apart other all h = h

    bad_once : (i j : ℕ) → IsFirstBad t p cs cycles i → IsFirstBad t p cs cycles j → i ≡ j
    bad_once i j one two = place_once (IsCycle t p) cs cycles i j one.candidate two.candidate one.links two.links
        one.the_candidate one.the_links one.bad one.earlier two.the_candidate two.the_links two.bad two.earlier

    list_once : (why other : Reason) → IsListRefusal t p cs cycles why → IsListRefusal t p cs cycles other → why ≡ other
    list_once reason.Cycles reason.Cycles h k = refl
    list_once reason.Cycles (reason.Cycle j) h k = absurd (h k.0)
    list_once reason.Cycles other h k = absurd k
    list_once (reason.Cycle i) reason.Cycles h k = absurd (k h.0)
    list_once (reason.Cycle i) (reason.Cycle j) h k = ap reason.Cycle (bad_once i j h.1 k.1)
    list_once (reason.Cycle i) other h k = absurd k
    list_once why other h k = absurd h

  -- the one listing of the candidates, or of the runs, serves both
  cycles_apart : (cycles : Cycles) (why : Reason) → Forbid t p cycles → IsCyclesRefusal t p cycles why → ⊥
  cycles_apart (Listed cycles) why f h =
      let same : h.0 ≡ f.0 = one_listing t h.0 f.0 h.1 f.1 in
      list_apart f.0 cycles why f.2 (subst (λ cs. IsListRefusal t p cs cycles why) same h.2)
  cycles_apart (Inferred inferences) why f h =
      let same : h.0 ≡ f.runs = one_family t h.0 f.runs h.1 f.all in
      let none = nothing_wrong t p (roots t f.runs) inferences 0 f.refuted in
      let e : None ≡ Some why = sym none ∙ ap (λ runs. first_wrong t p (roots t runs) inferences 0) (sym same) ∙ h.2 in
      absurd (cc)

  cycles_once : (cycles : Cycles) (why other : Reason) → IsCyclesRefusal t p cycles why
      → IsCyclesRefusal t p cycles other → why ≡ other
  cycles_once (Listed cycles) why other h k =
      let same : k.0 ≡ h.0 = one_listing t k.0 h.0 k.1 h.1 in
      list_once h.0 cycles why other h.2 (subst (λ cs. IsListRefusal t p cs cycles other) same k.2)
  cycles_once (Inferred inferences) why other h k =
      let same : h.0 ≡ k.0 = one_family t h.0 k.0 h.1 k.1 in
      same_Some why other (sym h.2 ∙ ap (λ runs. first_wrong t p (roots t runs) inferences 0) same ∙ k.2)

-- ---- the reasons against a certificate of a placement

module _ (t : Test) (offers : Offers) (c : Certificate) (p : List Entry) where
  abbrev FailsFor : Reason → Type 0
  FailsFor why = Forbid t p c.cycles × Fails t offers c p (undecided offers ∷ []) c.tree 0 why

  abbrev IsFor : Reason → Type 0
  IsFor why = IsCyclesRefusal t p c.cycles why ⊎ FailsFor why

  is_for : (why : Reason) → IsPlacedRefusal t offers c p why → IsFor why
  is_for (reason.Choices hart) h = inr h
  is_for (reason.Astray hart at) h = inr h
  is_for reason.Order h = inr h
  is_for (reason.Load load) h = inr h
  is_for (reason.Rule rule first second) h = inr h
  is_for (reason.Atomic load store) h = inr h
  is_for reason.Outcome h = inr h
  is_for reason.Answer h = inr h
  is_for reason.Cycles h = inl h
  is_for (reason.Cycle index) h = inl h
  is_for reason.Tree h = inr h
  is_for (reason.Node index) h = inr h
  is_for (reason.Witness index) h = inr h

  placed_apart : (why : Reason) → Forbid t p c.cycles → Covers t offers c p (undecided offers ∷ []) c.tree
      → IsPlacedRefusal t offers c p why → ⊥
  placed_apart why forbid tree h = elim (is_for why h) [
    | inl against ↦ cycles_apart t p c.cycles why forbid against
    | inr fails ↦ covers_or_fails t offers c p (undecided offers ∷ []) c.tree 0 why tree fails.1
  ]

  placed_once : (why other : Reason) → IsPlacedRefusal t offers c p why → IsPlacedRefusal t offers c p other
      → why ≡ other
  placed_once why other h k = elim (is_for why h) [
    | inl against ↦ elim (is_for other k) [
      | inl too ↦ cycles_once t p c.cycles why other against too
      | inr fails ↦ absurd (cycles_apart t p c.cycles why fails.0 against)
    ]
    | inr fails ↦ elim (is_for other k) [
      | inl against ↦ absurd (cycles_apart t p c.cycles other fails.0 against)
      | inr too ↦ fails_once t offers c p (undecided offers ∷ []) c.tree 0 why other fails.1 too.1
    ]
  ]

-- ---- the reasons against a certificate

module _ (t : Test) (offers : Offers) (c : Certificate) (small : AllByRecursion IsSlot (slots offers)) (rising : is_rising (slots offers) ≡ true) where
  abbrev IsAfter : Reason → Answer → Type 0
  IsAfter = IsRefusedAfter t offers c

  abbrev IsOf : Reason → Type 0
  IsOf why = ((why ≡ reason.Answer) × IsBadAnswer offers c) ⊎ IsAfter why c.answer

  is_of : (why : Reason) → IsRefusal t offers c why → IsOf why
  is_of (reason.Choices hart) h = inr h
  is_of (reason.Astray hart at) h = inr h
  is_of reason.Order h = inr h
  is_of (reason.Load load) h = inr h
  is_of (reason.Rule rule first second) h = inr h
  is_of (reason.Atomic load store) h = inr h
  is_of reason.Outcome h = inr h
  is_of reason.Answer h = inl (refl, h)
  is_of reason.Cycles h = inr h
  is_of (reason.Cycle index) h = inr h
  is_of reason.Tree h = inr h
  is_of (reason.Node index) h = inr h
  is_of (reason.Witness index) h = inr h

  -- what is refused after its answer has an answer
  bad_or_after : (answer : Answer) (why : Reason) → answer ≡ c.answer → IsBad offers c answer → IsAfter why answer → ⊥
  bad_or_after (Fenced n fences) why e bad h = bad h.0 h.1
  bad_or_after NoneForbids why e bad h = h.0 (subst (IsBad offers c) e bad)

  -- the same refusal of the one placement
  moved : (why : Reason) (p q : List Entry) → q ≡ p → IsPlacedRefusal t offers c q why
      → IsPlacedRefusal t offers c p why
  moved why p q same h = subst (λ r. IsPlacedRefusal t offers c r why) same h

  after_once : (answer : Answer) (why other : Reason) → IsAfter why answer → IsAfter other answer → why ≡ other
  after_once (Fenced n fences) why other h k =
      let same : k.0 ≡ h.0 = one_answered offers (Fenced n fences) k.0 h.0 small rising k.1 h.1 in
      placed_once t offers c h.0 why other h.2 (moved other h.0 k.0 same k.2)
  after_once NoneForbids why other h k = h.2 ∙ sym k.2

  one_reason_of : (why other : Reason) → IsRefusal t offers c why → IsRefusal t offers c other → why ≡ other
  one_reason_of why other h k = elim (is_of why h) [
    | inl bad ↦ elim (is_of other k) [
      | inl too ↦ bad.0 ∙ sym too.0
      | inr after ↦ absurd (bad_or_after c.answer other refl bad.1 after)
    ]
    | inr here ↦ elim (is_of other k) [
      | inl bad ↦ absurd (bad_or_after c.answer why refl bad.1 here)
      | inr there ↦ after_once c.answer why other here there
    ]
  ]

  -- ---- valid certificates

  valid_apart : (p : List Entry) (why : Reason) → IsValidFor t offers c p → IsOf why → ⊥
  valid_apart p why v h = elim h [
    | inl bad ↦ subst (IsBad offers c) v.answered.answered bad.1 p answered
    | inr after ↦ against (subst (IsAfter why) v.answered.answered after)
  ]
    where
      answered : IsAnswered offers (Fenced (cost offers p) (fence_words p)) p
      answered = record { placement = v.answered.placement; answered = refl }

      against : IsAfter why (Fenced (cost offers p) (fence_words p)) → ⊥
      against k =
          let same : k.0 ≡ p = one_answered offers (Fenced (cost offers p) (fence_words p)) k.0 p small rising k.1 answered in
          placed_apart t offers c p why v.cycles v.tree (moved why p k.0 same k.2)

  none_apart : (why : Reason) → IsValidForNone t c → IsOf why → ⊥
  none_apart why v h = elim h [
    | inl bad ↦ wrong (subst (IsBad offers c) v.answered bad.1)
    | inr after ↦ against (subst (IsAfter why) v.answered after)
  ]
    where
      wrong : IsBad offers c NoneForbids → ⊥
      wrong k = elim k [
        | inl cycles ↦ cycles v.cycles
        | inr rest ↦ elim rest [
          | inl tree ↦ tree v.tree
          | inr many ↦ many (ap length v.only)
        ]
      ]

      against : IsAfter why NoneForbids → ⊥
      against k = k.1 (v.execution, (v.witness, ap (λ ws. slice_get ws 0) v.only, (v.given, v.refutes)))

  apart_of : (a : Option (List Entry)) (why : Reason) → IsValid t offers c a → IsRefusal t offers c why → ⊥
  apart_of (Some p) why v h = valid_apart p why v (is_of why h)
  apart_of None why v h = none_apart why v (is_of why h)

  answer_of : (a b : Option (List Entry)) → IsValid t offers c a → IsValid t offers c b → a ≡ b
  answer_of None None v w = refl
  answer_of None (Some q) v w = absurd (let e : NoneForbids ≡ Fenced (cost offers q) (fence_words q) = sym v.answered ∙ w.answered.answered in cc)
  answer_of (Some p) None v w = absurd (let e : NoneForbids ≡ Fenced (cost offers p) (fence_words p) = sym w.answered ∙ v.answered.answered in cc)
  answer_of (Some p) (Some q) v w = ap (λ r. Some r) (one_answered offers c.answer p q small rising v.answered w.answered)

-- ---- of prices

module _ (t : Test) (prices : PriceTable) (bounded : IsBounded t) where
  small_there : AllByRecursion IsSlot (slots (offers_of t prices))
  small_there = subst (AllByRecursion IsSlot) (sym (same-slots t prices)) (small_slots t bounded)

  rising_there : is_rising (slots (offers_of t prices)) ≡ true
  rising_there = ap is_rising (same-slots t prices) ∙ rising-slots_from 0 t.codes

pub one_answer : (t : Test) (prices : PriceTable) (c : Certificate) (a b : Option (List Entry)) → IsBounded t → priced.IsValid t prices c a
    → priced.IsValid t prices c b → a ≡ b
one_answer t prices c a b bounded =
    answer_of t (offers_of t prices) c (small_there t prices bounded) (rising_there t prices bounded) a b

pub not_refused : (t : Test) (prices : PriceTable) (c : Certificate) (a : Option (List Entry)) (why : Reason) → IsBounded t
    → priced.IsValid t prices c a → priced.IsRefusal t prices c why → ⊥
not_refused t prices c a why bounded =
    apart_of t (offers_of t prices) c (small_there t prices bounded) (rising_there t prices bounded) a why

pub one_reason : (t : Test) (prices : PriceTable) (c : Certificate) (why other : Reason) → IsBounded t → priced.IsRefusal t prices c why
    → priced.IsRefusal t prices c other → why ≡ other
one_reason t prices c why other bounded =
    one_reason_of t (offers_of t prices) c (small_there t prices bounded) (rising_there t prices bounded) why other
