-- A step without the turn depends on another only if it does so in the whole list. No dependency goes through a
-- register that the turn writes, since what comes after the turn reads none of these before it writes it.
use Rattle.std.proofs.Common.{◌≡◌, ◌⊎◌, ℕ, zero, suc, ◌+◌, ◌-◌, ◌<◌, ◌≤◌, List, [], ◌∷◌, length, Bool, true, false, ◌&&◌, Option, Some, None, refl, sym, ap, subst, ◌∙◌, inl, inr, arith}
use Rattle.std.specs.List.{list_any}
use Rattle.std.proofs.lemmas.Bool.{eq-eqb, or_left, or_right, or_cases, and_parts, and_from, not-true, not_from_false, false_from_ne_true, both_ways, false≢true, ltb-true, lt-ltb}
use Rattle.fs_instr.specs.declared.instr.Instr.{Instr}
use Rattle.fs_instr.specs.Roles.{dest_of, sources_of, address_of, data_of, carries_of, is_conditional}
use Rattle.fs_model.specs.declared.step.Step.{Step}
use Rattle.fs_model.specs.Operations.{is_same, between, instr_at, depends_within, depends, address_depends, data_depends, control_depends}
use Rattle.fs_model.specs.Operations.{writes as writes_at}
use Rattle.fs_app_plain.specs.Turns.{reads, writes, is_read_first}
use Rattle.fs_app_plain.proofs.Cut.{whole, short, place_there}
use Rattle.fs_app_plain.proofs.KeptSources.{IsIn, has_from, has_to, address_is_source, data_is_source}
use Rattle.fs_app_plain.proofs.KeptPlaces.{instr_there, instr_after, instr_turn, place_there_lt, none_between_from, any_there, any_there_between, none_there}

-- ---- where a register is read first, and where it is written

-- it is no register, or one of the sources of the instruction
abbrev pub IsSource : Instr → Option ℕ → Type 0
IsSource i register = (register ≡ None) ⊎ IsIn (sources_of i) register

none_in_nop : (r : ℕ) → IsIn (None ∷ None ∷ []) (Some r) → ⊥
none_in_nop r (inl e) = absurd (cc)
none_in_nop r (inr (inl e)) = absurd (cc)
none_in_nop r (inr (inr e)) = e

read_first : (ss : List Step) (r k : ℕ) → IsIn (sources_of (instr_at ss k)) (Some r)
    → ((m : ℕ) → m < k → is_same (dest_of (instr_at ss m)) (Some r) ≡ false) → is_read_first r ss ≡ true
read_first [] r k is_in unwritten = absurd (none_in_nop r is_in)
read_first (s ∷ ss) r zero is_in unwritten =
    or_left (reads r s) _
    (has_to (λ source. is_same source (Some r)) (sources_of s.instr) (Some r) is_in (eq-eqb r r refl))
read_first (s ∷ ss) r (suc k) is_in unwritten =
    or_right (reads r s) _ (and_from _ _ (not_from_false _ (unwritten 0 (omega arith)))
    (read_first ss r k is_in (λ m low. unwritten (suc m) (omega (arith, low)))))

written_by : (ss : List Step) (r k : ℕ) → is_same (dest_of (instr_at ss k)) (Some r) ≡ true
    → list_any (writes r) ss ≡ true
written_by [] r k e = absurd (false≢true e)
written_by (s ∷ ss) r zero e = or_left (writes r s) _ e
written_by (s ∷ ss) r (suc k) e = or_right (writes r s) _ (written_by ss r k e)

is_same_none : (o : Option ℕ) → is_same o None ≡ false
is_same_none None = refl
is_same_none (Some a) = refl

module _ (before turn after : List Step) where
  abbrev to : ℕ → ℕ
  to = place_there before turn after

  abbrev out : List Step
  out = short before turn after

  abbrev all : List Step
  all = whole before turn after

  -- what is tested of the sources of a step
  sources_there : (f g : Option ℕ → Bool) (k : ℕ)
      → ((source : Option ℕ) → IsSource (instr_at out k) source → f source ≡ true → g source ≡ true)
      → list_any f (sources_of (instr_at out k)) ≡ true → list_any g (sources_of (instr_at all (to k))) ≡ true
  sources_there f g k same h =
      let found = has_from f (sources_of (instr_at out k)) h in
      ap (λ i. list_any g (sources_of i)) (sym (instr_there before turn after k))
      ∙ has_to g (sources_of (instr_at out k)) found.0 found.1 (same found.0 (inr found.1) found.2)

  writes_there : (register : Option ℕ) (k : ℕ) → writes_at all (to k) register ≡ writes_at out k register
  writes_there register k = ap (λ i. is_same (dest_of i) register) (sym (instr_there before turn after k))

  -- a step between that carries on what it depends on
  abbrev carried : List Step → (d i j : ℕ) → Option ℕ → ℕ → Bool
  carried ss d i j register m =
      carries_of (instr_at ss m) && list_any (depends_within d ss i m) (sources_of (instr_at ss m))
      && depends_within d ss m j register

  carried_there : (d e i j k : ℕ) (register : Option ℕ)
      → ((source : Option ℕ) → IsSource (instr_at out k) source → depends_within d out i k source ≡ true
      → depends_within e all (to i) (to k) source ≡ true)
      → (depends_within d out k j register ≡ true → depends_within e all (to k) (to j) register ≡ true)
      → carried out d i j register k ≡ true → carried all e (to i) (to j) register (to k) ≡ true
  carried_there d e i j k register first second h =
      let parts = and_parts _ _ h in
      let both = and_parts _ _ parts.0 in
      and_from _ _
      (and_from _ _ (ap carries_of (sym (instr_there before turn after k)) ∙ both.0)
      (sources_there (depends_within d out i k) (depends_within e all (to i) (to k)) k first both.1))
      (second parts.1)

  module _ (unread : (r : ℕ) → list_any (writes r) turn ≡ true → is_read_first r after ≡ false) where
    -- no step of the turn writes what a step after it has from one before it
    none_in_turn : (i j m : ℕ) (register : Option ℕ) → i < length before → length before ≤ j → length before ≤ m
        → m < length before + length turn → IsSource (instr_at out j) register
        → list_any (λ k. writes_at out k register) (between i j) ≡ false → writes_at all m register ≡ false
    none_in_turn i j m None early late low high source none = is_same_none (dest_of (instr_at all m))
    none_in_turn i j m (Some r) early late low high (inl e) none = absurd (cc)
    none_in_turn i j m (Some r) early late low high (inr is_in) none =
        false_from_ne_true _ (λ w. both_ways _ (unread r (written w)) first)
      where
        written : writes_at all m (Some r) ≡ true → list_any (writes r) turn ≡ true
        written w =
            let k = m - length before in
            let there = instr_turn before turn after m k (omega (arith, low)) (omega (arith, low, high)) in
            written_by turn r k (ap (λ x. is_same (dest_of x) (Some r)) (sym there) ∙ w)

        first : is_read_first r after ≡ true
        first =
            let k = j - length before in
            let here = instr_after before turn after j k (omega (arith, late)) in
            read_first after r k (subst (λ (x : Instr). IsIn (sources_of x) (Some r)) here is_in) (λ l less.
            let place = l + length before in
            ap (λ x. is_same (dest_of x) (Some r)) (sym (instr_after before turn after place l refl))
            ∙ none_between_from (λ p. writes_at out p (Some r)) i j place none (omega (arith, early))
            (omega (arith, less, late)))

    within : (d e i j : ℕ) (register : Option ℕ) → i < j → to j ≤ to i + e → IsSource (instr_at out j) register
        → depends_within d out i j register ≡ true → depends_within e all (to i) (to j) register ≡ true
    within zero e i j register low far source h = absurd (false≢true h)
    within (suc d) zero i j register low far source h =
        let rises = place_there_lt before turn after i j low in absurd (omega (arith, rises, far))
    within (suc d) (suc e) i j register low far source h = elim (or_cases _ _ h) [
      | inl direct ↦ (
          let parts = and_parts _ _ direct in
          let none = none_there before turn after (λ m. writes_at out m register) (λ m. writes_at all m register)
          (writes_there register) i j
          (λ early late m above below. none_in_turn i j m register early late above below source (not-true _ parts.1))
          (not-true _ parts.1) in
          or_left _ _ (and_from _ _ (writes_there register i ∙ parts.0) (not_from_false _ none)))
      | inr through ↦ or_right _ _ (any_there_between before turn after
          (carried out d i j register) (carried all e (to i) (to j) register) i j
          (λ k below above.
          let start = place_there_lt before turn after i k below in
          let end = place_there_lt before turn after k j above in
          carried_there d e i j k register
          (λ other is_source. within d e i k other below (omega (arith, far, end)) is_source)
          (within d e k j register above (omega (arith, far, start)) source))
          through)
    ]

    pub depends_there : (i j : ℕ) (register : Option ℕ) → IsSource (instr_at out j) register
        → depends out i j register ≡ true → depends all (to i) (to j) register ≡ true
    depends_there i j register source h =
        let parts = and_parts _ _ h in
        let low = ltb-true i j parts.0 in
        let rises = place_there_lt before turn after i j low in
        and_from _ _ (lt-ltb (to i) (to j) rises)
        (within (j - i) (to j - to i) i j register low (omega (arith, rises)) source parts.1)

    pub address_depends_there : (i j : ℕ) → address_depends out i j ≡ true → address_depends all (to i) (to j) ≡ true
    address_depends_there i j h =
        ap (λ x. depends all (to i) (to j) (address_of x)) (sym (instr_there before turn after j))
        ∙ depends_there i j (address_of (instr_at out j)) (address_is_source (instr_at out j)) h

    pub data_depends_there : (i j : ℕ) → data_depends out i j ≡ true → data_depends all (to i) (to j) ≡ true
    data_depends_there i j h =
        ap (λ x. depends all (to i) (to j) (data_of x)) (sym (instr_there before turn after j))
        ∙ depends_there i j (data_of (instr_at out j)) (data_is_source (instr_at out j)) h

    pub control_depends_there : (i j : ℕ) → control_depends out i j ≡ true → control_depends all (to i) (to j) ≡ true
    control_depends_there i j h =
        any_there before turn after
        (λ m. is_conditional (instr_at out m) && list_any (depends out i m) (sources_of (instr_at out m)))
        (λ m. is_conditional (instr_at all m) && list_any (depends all (to i) m) (sources_of (instr_at all m)))
        (λ k found.
        let parts = and_parts _ _ found in
        and_from _ _ (ap is_conditional (sym (instr_there before turn after k)) ∙ parts.0)
        (sources_there (depends out i k) (depends all (to i) (to k)) k (depends_there i k) parts.1))
        i j h

    pub address_between_there : (i j : ℕ) → list_any (address_depends out i) (between i j) ≡ true
        → list_any (address_depends all (to i)) (between (to i) (to j)) ≡ true
    address_between_there i j h =
        any_there before turn after (address_depends out i) (address_depends all (to i)) (address_depends_there i) i j h
