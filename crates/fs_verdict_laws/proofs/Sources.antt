-- Rules 2, 3 and 12: what they ask of the run, and what of sources. And no rule orders operations of two harts, or an
-- initial store.
use Rattle.std.proofs.Common.{◌≡◌, ℕ, nat_lt, ◌+◌, ◌-◌, ◌<◌, ◌≤◌, Bool, true, false, ◌&&◌, ◌||◌, not, Option, Some, None, is_some, option_and_then, List, [], length, refl, sym, ◌∙◌, ap, rules, arith}
use Rattle.std.specs.Prelude.{slice_get}
use Rattle.std.specs.List.{list_any}
use Rattle.std.proofs.lemmas.Bool.{false≢true, and_parts, and_from, ltb-true, lt-ltb}
use Rattle.std.proofs.Math.Bool.{and_assoc}
use Rattle.fs_kinds.specs.declared.placement.Entry.{Entry}
use Rattle.fs_model.specs.declared.step.Step.{Step}
use Rattle.fs_model.specs.Forms.{is_sc, is_amo}
use Rattle.fs_model.specs.Numbers.{is_same, between}
use Rattle.fs_model.specs.Operations.{PreExecution, accesses, operation, place, steps_of, is_load, is_store, same_word, same_hart, po, any_between, instr_at}
use Rattle.fs_model.specs.Dependencies.{address_dependency, data_dependency}
use Rattle.fs_model.specs.Preserved.{Rule, Rule1, Rule2, Rule3, Rule4, Rule5, Rule6, Rule7, Rule8, Rule9, Rule10, Rule11, Rule12, Rule13, case_of, rule}
use Rattle.fs_model.proofs.RangeTests.{any_from, any_to}
use Rattle.fs_model.proofs.OptionalNumbers.{same_parts, one_value}
use Rattle.fs_model.proofs.ProgramOrder.{in_po}
use Rattle.fs_model.proofs.WhichOperation.{no_hart_past}
use Rattle.fs_ppo.proofs.Tests.{same_tests}
use Rattle.fs_ppo.proofs.Between.{passes_one, passes_none}
use Rattle.fs_verdict_laws.specs.Local.{address_at, accesses_at, loads_at, stores_at, one_word, depends_on, local_case, local_rule, through}
use Rattle.fs_verdict_laws.proofs.Places.{at_place, before, rule_local}
use Rattle.fs_verdict_laws.proofs.Steps.{operation_there}

-- ---- operations between are steps between

pub step_with : (o : Option Step) → is_some (option_and_then (λ s. s.address) o) ≡ true → (s : Step) × (o ≡ Some s) × (is_some s.address ≡ true)
step_with None there = absurd (false≢true there)
step_with (Some s) there = (s, refl, there)

-- what stands at place k of the hart, where it accesses memory
pub record IsAt (x : PreExecution) (h k : ℕ) : Type 0 where
  pub number : ℕ
  pub low : number < length (accesses x)
  pub hart : (operation x number).hart ≡ Some h
  pub place_is : place x number ≡ k

pub number_at : (x : PreExecution) (h k : ℕ) → accesses_at (steps_of x.traces h) k ≡ true → IsAt x h k
number_at x h k there =
    let step = step_with (slice_get (steps_of x.traces h) k) there in
    let found = operation_there x h k step.0 step.1 step.2 in
    record { number = found.0; low = found.1; hart = ap (λ o. o.hart) found.2; place_is = ap (λ o. o.place) found.2 }

goes_on : (steps : List Step) (i k j : ℕ) → (nat_lt i j && through steps i k j) ≡ through steps i k j
goes_on steps i k j = same_tests _ _ (λ e. (and_parts (nat_lt i j) (through steps i k j) e).1) (λ e.
    let between = and_parts (nat_lt i k && nat_lt k j) _ (and_parts (loads_at steps j) _ e).1 in
    let ends = and_parts (nat_lt i k) (nat_lt k j) between.0 in
    let low = ltb-true i k ends.0 in
    let high = ltb-true k j ends.1 in
    and_from (nat_lt i j) (through steps i k j) (lt-ltb i j (omega (arith, low, high))) e)

module _ (x : PreExecution) (h a b : ℕ) (ea : (operation x a).hart ≡ Some h) (eb : (operation x b).hart ≡ Some h) where
  -- a test of operations between is one of steps between, where it asks for a step that accesses memory
  pub between_local : (f g : ℕ → Bool) → ((m : ℕ) → (operation x m).hart ≡ Some h → f m ≡ g (place x m))
      → ((k : ℕ) → g k ≡ true → accesses_at (steps_of x.traces h) k ≡ true)
      → any_between x f a b ≡ list_any g (between (place x a) (place x b))
  between_local f g alike there = same_tests _ _ to from
    where
      to : any_between x f a b ≡ true → list_any g (between (place x a) (place x b)) ≡ true
      to h' =
          let m = any_from (λ m. po x a m && po x m b && f m) 0 (length (accesses x)) h' in
          let parts = and_parts (po x a m.0 && po x m.0 b) (f m.0) m.3 in
          let pos = and_parts (po x a m.0) (po x m.0 b) parts.0 in
          let one = in_po x a m.0 pos.0 in
          let two = in_po x m.0 b pos.1 in
          let same : one.hart ≡ h = one_value (operation x a).hart one.hart h one.first ea in
          let em : (operation x m.0).hart ≡ Some h = one.second ∙ ap Some same in
          let low = one.forward in
          let high = two.forward in
          any_to g (place x a + 1) (place x b - (place x a + 1)) (place x m.0) (omega (arith, low)) (omega (arith, low, high)) (sym (alike m.0 em) ∙ parts.1)

      from : list_any g (between (place x a) (place x b)) ≡ true → any_between x f a b ≡ true
      from h' =
          let k = any_from g (place x a + 1) (place x b - (place x a + 1)) h' in
          let at = number_at x h k.0 (there k.0 k.3) in
          let low : place x a < place x at.number = let e = at.place_is in let l = k.1 in omega (arith, e, l) in
          let high : place x at.number < place x b = let e = at.place_is in let l = k.1 in let u = k.2 in omega (arith, e, l, u) in
          let small = at.low in
          any_to (λ m. po x a m && po x m b && f m) 0 (length (accesses x)) at.number (omega arith) (omega (arith, small))
          (and_from (po x a at.number && po x at.number b) (f at.number)
          (and_from (po x a at.number) (po x at.number b)
          (before x [] (λ n. None) h a at.number ea at.hart ∙ lt-ltb _ _ low)
          (before x [] (λ n. None) h at.number b at.hart eb ∙ lt-ltb _ _ high))
          (alike at.number at.hart ∙ ap g at.place_is ∙ k.3))

  stores_between : any_between x (λ m. is_store x m && same_word x m a) a b
      ≡ list_any (λ k. stores_at (steps_of x.traces h) k && one_word (steps_of x.traces h) k (place x a)) (between (place x a) (place x b))
  stores_between = between_local (λ m. is_store x m && same_word x m a) (λ k. stores_at (steps_of x.traces h) k && one_word (steps_of x.traces h) k (place x a))
      (λ m em. rw (at_place x m h em, at_place x a h ea) refl)
      (λ k there. let parts = and_parts (stores_at (steps_of x.traces h) k) _ there in
      let same = same_parts (address_at (steps_of x.traces h) k) (address_at (steps_of x.traces h) (place x a)) parts.1 in ap is_some same.1)

  -- ---- rule 2

  module _ (p : List Entry) (rf : ℕ → Option ℕ) where
    case_two : case_of x p rf a b Rule2 ≡ (local_case h (steps_of x.traces h) p (place x a) (place x b) Rule2 && not (is_same (rf a) (rf b)))
    case_two =
        ap (λ (o : Bool). is_load x a && is_load x b && same_word x a b && not o && not (is_same (rf a) (rf b))) stores_between
        ∙ rw (at_place x a h ea, at_place x b h eb) refl

    pub rule_two : rule x p rf a b Rule2 ≡ (local_rule h (steps_of x.traces h) p (place x a) (place x b) Rule2 && not (is_same (rf a) (rf b)))
    rule_two = cc (before x p rf h a b ea eb, case_two, and_assoc (nat_lt (place x a) (place x b)) (local_case h (steps_of x.traces h) p (place x a) (place x b) Rule2) (not (is_same (rf a) (rf b))))

    -- ---- rule 3

    case_three : case_of x p rf a b Rule3 ≡ (local_case h (steps_of x.traces h) p (place x a) (place x b) Rule3 && is_same (rf b) (Some a))
    case_three =
        ap (λ o. (is_amo o.instr || is_sc o.instr) && is_load x b && is_same (rf b) (Some a)) (at_place x a h ea)
        ∙ ap (λ o. (is_amo (instr_at (steps_of x.traces h) (place x a)) || is_sc (instr_at (steps_of x.traces h) (place x a))) && is_some o.loaded && is_same (rf b) (Some a)) (at_place x b h eb)

    pub rule_three : rule x p rf a b Rule3 ≡ (local_rule h (steps_of x.traces h) p (place x a) (place x b) Rule3 && is_same (rf b) (Some a))
    rule_three = cc (before x p rf h a b ea eb, case_three, and_assoc (nat_lt (place x a) (place x b)) (local_case h (steps_of x.traces h) p (place x a) (place x b) Rule3) (is_same (rf b) (Some a)))

    -- ---- rule 12

    stores_on : ℕ → Bool
    stores_on m = is_store x m && (address_dependency x a m || data_dependency x a m)

    one_store : (m : ℕ) → rf b ≡ Some m → (po x a m && po x m b && stores_on m) ≡ any_between x (λ m. is_store x m && (address_dependency x a m || data_dependency x a m) && is_same (rf b) (Some m)) a b
    unfolding stores_on
    one_store m e = passes_one x (λ m. is_store x m && (address_dependency x a m || data_dependency x a m)) (rf b) a b m (po x a m && po x m b && stores_on m) e refl

    twelve_on : (m : ℕ) → (operation x m).hart ≡ Some h → stores_on m ≡ (stores_at (steps_of x.traces h) (place x m) && depends_on (steps_of x.traces h) (place x a) (place x m))
    unfolding stores_on
    twelve_on m em = rw (at_place x a h ea, at_place x m h em) refl

    twelve_loads : is_load x b ≡ loads_at (steps_of x.traces h) (place x b)
    twelve_loads = rw (at_place x b h eb) refl

    twelve_places : (m : ℕ) → (operation x m).hart ≡ Some h
        → (po x a b && (is_load x b && (po x a m && po x m b && stores_on m))) ≡ (nat_lt (place x a) (place x b) && through (steps_of x.traces h) (place x a) (place x m) (place x b))
    twelve_places m em = cc (before x p rf h a b ea eb, twelve_loads, before x p rf h a m ea em, before x p rf h m b em eb, twelve_on m em)

    -- through the store that the load returns from, where that is the hart's own
    pub rule_twelve : (m : ℕ) → rf b ≡ Some m → (operation x m).hart ≡ Some h
        → rule x p rf a b Rule12 ≡ through (steps_of x.traces h) (place x a) (place x m) (place x b)
    rule_twelve m e em = ap (λ (o : Bool). po x a b && (is_load x b && o)) (sym (one_store m e)) ∙ twelve_places m em ∙ goes_on (steps_of x.traces h) (place x a) (place x m) (place x b)

    -- where it returns from a store of another hart, or an initial one
    pub not_twelve : (m : ℕ) → rf b ≡ Some m → same_hart x m b ≡ false → rule x p rf a b Rule12 ≡ false
    not_twelve m e far = ap (λ (o : Bool). po x a b && (is_load x b && o)) (sym (one_store m e)) ∙ off (po x a b) (is_load x b) (po x a m) (nat_lt (place x m) (place x b)) (stores_on m) (same_hart x m b) far
      where
        off : (c d e f g far : Bool) → far ≡ false → (c && (d && (e && (far && f) && g))) ≡ false
        off c d e f g far k = rw k (grind rules)

    pub none_twelve : rf b ≡ None → rule x p rf a b Rule12 ≡ false
    none_twelve e = ap (λ (o : Bool). po x a b && (is_load x b && o)) (sym (passes_none x (λ m. is_store x m && (address_dependency x a m || data_dependency x a m)) (rf b) a b e)) ∙ off (po x a b) (is_load x b)
      where
        off : (c d : Bool) → (c && (d && false)) ≡ false
        off c d = grind rules

    -- what it asks of the run, whatever the load returns from
    twelve_part : rule x p rf a b Rule12 ≡ true → local_rule h (steps_of x.traces h) p (place x a) (place x b) Rule12 ≡ true
    unfolding stores_on
    twelve_part holds =
        let steps = steps_of x.traces h in
        let outer = and_parts (po x a b) _ holds in
        let inner = and_parts (is_load x b) _ outer.1 in
        let m = any_from (λ m. po x a m && po x m b && (is_store x m && (address_dependency x a m || data_dependency x a m) && is_same (rf b) (Some m))) 0 (length (accesses x)) inner.1 in
        let parts = and_parts (po x a m.0 && po x m.0 b) _ m.3 in
        let pos = and_parts (po x a m.0) (po x m.0 b) parts.0 in
        let first = in_po x a m.0 pos.0 in
        let second = in_po x m.0 b pos.1 in
        let same : first.hart ≡ h = one_value (operation x a).hart first.hart h first.first ea in
        let em : (operation x m.0).hart ≡ Some h = first.second ∙ ap Some same in
        let low = first.forward in
        let high = second.forward in
        and_from _ _ (sym (before x p rf h a b ea eb) ∙ outer.0)
        (and_from _ _ (sym twelve_loads ∙ inner.0)
        (any_to (λ k. stores_at steps k && depends_on steps (place x a) k) (place x a + 1) (place x b - (place x a + 1)) (place x m.0) (omega (arith, low)) (omega (arith, low, high))
        (sym (twelve_on m.0 em) ∙ (and_parts (stores_on m.0) (is_same (rf b) (Some m.0)) parts.1).0)))

    -- each rule asks its local part
    pub part_of : (r : Rule) → rule x p rf a b r ≡ true → local_rule h (steps_of x.traces h) p (place x a) (place x b) r ≡ true
    part_of Rule2 e = (and_parts _ (not (is_same (rf a) (rf b))) (sym rule_two ∙ e)).0
    part_of Rule3 e = (and_parts _ (is_same (rf b) (Some a)) (sym rule_three ∙ e)).0
    part_of Rule12 e = twelve_part e
    part_of Rule1 e = sym (rule_local x p rf h a b ea eb Rule1 refl) ∙ e
    part_of Rule4 e = sym (rule_local x p rf h a b ea eb Rule4 refl) ∙ e
    part_of Rule5 e = sym (rule_local x p rf h a b ea eb Rule5 refl) ∙ e
    part_of Rule6 e = sym (rule_local x p rf h a b ea eb Rule6 refl) ∙ e
    part_of Rule7 e = sym (rule_local x p rf h a b ea eb Rule7 refl) ∙ e
    part_of Rule8 e = sym (rule_local x p rf h a b ea eb Rule8 refl) ∙ e
    part_of Rule9 e = sym (rule_local x p rf h a b ea eb Rule9 refl) ∙ e
    part_of Rule10 e = sym (rule_local x p rf h a b ea eb Rule10 refl) ∙ e
    part_of Rule11 e = sym (rule_local x p rf h a b ea eb Rule11 refl) ∙ e
    part_of Rule13 e = sym (rule_local x p rf h a b ea eb Rule13 refl) ∙ e

-- ---- operations of two harts, and initial stores

module _ (x : PreExecution) (p : List Entry) (rf : ℕ → Option ℕ) (a b : ℕ) where
  pub two_harts : (r : Rule) → same_hart x a b ≡ false → rule x p rf a b r ≡ false
  two_harts r far = ap (λ (o : Bool). o && nat_lt (place x a) (place x b) && case_of x p rf a b r) far

  pub past_first : (r : Rule) → length (accesses x) ≤ a → rule x p rf a b r ≡ false
  past_first r past = two_harts r (ap (λ (o : Option ℕ). is_same o (operation x b).hart) (no_hart_past x a past))

  pub past_second : (r : Rule) → length (accesses x) ≤ b → rule x p rf a b r ≡ false
  past_second r past = two_harts r (ap (λ (o : Option ℕ). is_same (operation x a).hart o) (no_hart_past x b past) ∙ none_same (operation x a).hart)
    where
      none_same : (o : Option ℕ) → is_same o None ≡ false
      none_same None = refl
      none_same (Some n) = refl
