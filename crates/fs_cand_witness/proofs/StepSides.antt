-- The sides of all steps give the edges of the placed fences.
use Rattle.std.proofs.Common.{◌≡◌, ℕ, ◌+◌, ◌-◌, ◌<◌, ◌≤◌, ◌&&◌, ◌||◌, not, Bool, true, false, Option, None, Some, option_and_then, option_map, unwrap_or, List, [], ◌∷◌, ◌++◌, length, refl, sym, ◌∙◌, ap, inl, inr, rules, arith}
use Rattle.std.specs.Prelude.{nat_lt, slice_get}
use Rattle.std.specs.List.{list_any}
use Rattle.std.proofs.lemmas.Bool.{false≢true, and_parts, and_from, lt-ltb, le-ltb, ltb-true, cases_lt, both_ways}
use Rattle.std.proofs.lemmas.Option.{slice_get_within}
use Rattle.fs_kinds.specs.declared.kind.Classes.{Classes}
use Rattle.fs_kinds.specs.declared.kind.Kind.{Kind}
use Rattle.fs_kinds.specs.declared.kind.Kind.TheVariants.{RR, RW, RRw, WR, WW, WRw, RwR, RwW, RwRw, Tso}
use Rattle.fs_kinds.specs.declared.placement.Entry.{Entry}
use Rattle.fs_kinds.specs.Placement.{kind_at}
use Rattle.fs_model.specs.Slots.{slot_at}
use Rattle.fs_model.specs.Numbers.{is_same, between, numbers_below}
use Rattle.fs_model.specs.Operations.{PreExecution, operation, place, po, classes, steps_of}
use Rattle.fs_model.specs.Fences.{kind_orders, placed_before}
use Rattle.fs_model.proofs.RangeTests.{any_from, any_to}
use Rattle.fs_model.proofs.OptionalNumbers.{same_parts, same_from, one_value}
use Rattle.fs_model.proofs.ProgramOrder.{in_po}
use Rattle.fs_model.proofs.WhichOperation.{of_hart}
use Rattle.fs_cand_witness.specs.Fencing.{is_fenced, before, after, orders_at}
use Rattle.fs_cand_witness.specs.declared.points.Sides.{Sides}
use Rattle.fs_model.specs.declared.step.Step.{Step}
use Rattle.fs_model.proofs.Numbered.{range_more}
use Rattle.std.proofs.lemmas.List.Folds.{list_any-append}
use Rattle.fs_cand_witness.specs.inner.Halves.{is_on, classes_on, kind_before, orders_before_step}
use Rattle.fs_cand_witness.specs.declared.points.Half.TheVariants.{Before, After}

-- ---- operations of no class

none_first : (kind : Option Kind) (second : Classes) → kind_orders (record { reads = false; writes = false }) second kind ≡ false
none_first None second = refl
none_first (Some RR) second = grind rules
none_first (Some RW) second = grind rules
none_first (Some RRw) second = grind rules
none_first (Some WR) second = grind rules
none_first (Some WW) second = grind rules
none_first (Some WRw) second = grind rules
none_first (Some RwR) second = grind rules
none_first (Some RwW) second = grind rules
none_first (Some RwRw) second = grind rules
none_first (Some Tso) second = grind rules

none_second : (kind : Option Kind) (first : Classes) → kind_orders first (record { reads = false; writes = false }) kind ≡ false
none_second None first = refl
none_second (Some RR) first = grind rules
none_second (Some RW) first = grind rules
none_second (Some RRw) first = grind rules
none_second (Some WR) first = grind rules
none_second (Some WW) first = grind rules
none_second (Some WRw) first = grind rules
none_second (Some RwR) first = grind rules
none_second (Some RwW) first = grind rules
none_second (Some RwRw) first = grind rules
none_second (Some Tso) first = grind rules

-- where the operations are on their sides, the fence orders them as anywhere
masked : (kind : Option Kind) (c d ra wa rb wb : Bool)
    → kind_orders (record { reads = c && ra; writes = c && wa }) (record { reads = d && rb; writes = d && wb }) kind
    ≡ (c && (d && kind_orders (record { reads = ra; writes = wa }) (record { reads = rb; writes = wb }) kind))
masked kind false d ra wa rb wb = none_first kind (record { reads = d && rb; writes = d && wb })
masked kind true false ra wa rb wb = none_second kind (record { reads = ra; writes = wa })
masked kind true true ra wa rb wb = refl

both_true : (u v : Bool) → (u ≡ true → v ≡ true) → (v ≡ true → u ≡ true) → u ≡ v
both_true true v there back = sym (there refl)
both_true false true there back = absurd (false≢true (back refl))
both_true false false there back = refl

not_false : (b : Bool) → not b ≡ true → b ≡ false
not_false true e = absurd (false≢true e)
not_false false e = refl

false_not : (b : Bool) → b ≡ false → not b ≡ true
false_not b e = rw e refl

module _ (x : PreExecution) (p : List Entry) (a b : ℕ) where
  -- the fence placed before step k of this hart, if any, orders their classes
  abbrev is_ordered : ℕ → ℕ → Bool
  is_ordered h k = kind_orders (classes x a) (classes x b) (kind_before x p h k)

  at_step : (h k : ℕ) → orders_before_step x p h a b k ≡ (is_on Before h k (operation x a) && (is_on After h k (operation x b) && is_ordered h k))
  at_step h k = masked (kind_before x p h k) (is_on Before h k (operation x a)) (is_on After h k (operation x b)) _ _ _ _

  -- the fence placed in the run of a's hart
  placed_of : (h k : ℕ) → (operation x a).hart ≡ Some h → placed_before x p a k ≡ kind_before x p h k
  placed_of h k e =
      ap (λ (o : Option ℕ). option_and_then (λ hart. option_and_then (λ s. kind_at (slot_at hart s.at) p) (slice_get (unwrap_or (option_map (steps_of x.traces) o) []) k)) o) e

  abbrev in_hart : ℕ → Bool
  in_hart h = list_any (orders_before_step x p h a b) (numbers_below (length (steps_of x.traces h)))

  abbrev placed_at : ℕ → Bool
  placed_at k = kind_orders (classes x a) (classes x b) (placed_before x p a k)

  there : list_any in_hart (numbers_below (length x.traces)) ≡ true → is_fenced x p a b ≡ true
  there some =
      let hart = any_from in_hart 0 (length x.traces) some in
      let h = hart.0 in
      let step = any_from (orders_before_step x p h a b) 0 (length (steps_of x.traces h)) hart.3 in
      let k = step.0 in
      let parts = and_parts _ _ (sym (at_step h k) ∙ step.3) in
      let rest = and_parts _ _ parts.1 in
      let first = and_parts (is_same (operation x a).hart (Some h)) (nat_lt (place x a) k) parts.0 in
      let second = and_parts (is_same (operation x b).hart (Some h)) (not (nat_lt (place x b) k)) rest.0 in
      let of_a = same_parts (operation x a).hart (Some h) first.0 in
      let of_b = same_parts (operation x b).hart (Some h) second.0 in
      let low : place x a < k = ltb-true (place x a) k first.1 in
      let high : k ≤ place x b = not_less (place x b) k (not_false (nat_lt (place x b) k) second.1) in
      let same = one_value (Some h) of_a.0 h of_a.2 refl in
      let here : (operation x a).hart ≡ Some h = of_a.1 ∙ ap Some same in
      let same' = one_value (Some h) of_b.0 h of_b.2 refl in
      let here' : (operation x b).hart ≡ Some h = of_b.1 ∙ ap Some same' in
      and_from (po x a b) (list_any placed_at (between (place x a) (place x b + 1)))
      (and_from (is_same (operation x a).hart (operation x b).hart) (nat_lt (place x a) (place x b))
      (same_from (operation x a).hart (operation x b).hart h here here') (lt-ltb (place x a) (place x b) (omega (arith, low, high))))
      (any_to placed_at (place x a + 1) (place x b + 1 - (place x a + 1)) k (omega (arith, low)) (omega (arith, low, high))
      (ap (λ kind. kind_orders (classes x a) (classes x b) kind) (placed_of h k here) ∙ rest.1))
    where
      not_less : (m n : ℕ) → nat_lt m n ≡ false → n ≤ m
      not_less m n e = elim (cases_lt m n) [
        | inl less ↦ absurd (both_ways (nat_lt m n) e (lt-ltb m n less))
        | inr high ↦ high
      ]

  back : is_fenced x p a b ≡ true → list_any in_hart (numbers_below (length x.traces)) ≡ true
  back fenced =
      let parts = and_parts (po x a b) (list_any placed_at (between (place x a) (place x b + 1))) fenced in
      let before = in_po x a b parts.0 in
      let h = before.hart in
      let found = any_from placed_at (place x a + 1) (place x b + 1 - (place x a + 1)) parts.1 in
      let k = found.0 in
      let low : place x a < k = omega (arith, found.1) in
      let high : k ≤ place x b = omega (arith, found.1, found.2, before.forward) in
      let of_b = of_hart x b h before.second in
      let within = slice_get_within (steps_of x.traces h) (place x b) of_b.step of_b.there in
      let ordered : is_ordered h k ≡ true = ap (λ kind. kind_orders (classes x a) (classes x b) kind) (sym (placed_of h k before.first)) ∙ found.3 in
      let first : is_on Before h k (operation x a) ≡ true =
      and_from (is_same (operation x a).hart (Some h)) (nat_lt (place x a) k) (same_from (operation x a).hart (Some h) h before.first refl) (lt-ltb (place x a) k low) in
      let second : is_on After h k (operation x b) ≡ true =
      and_from (is_same (operation x b).hart (Some h)) (not (nat_lt (place x b) k)) (same_from (operation x b).hart (Some h) h before.second refl)
      (false_not (nat_lt (place x b) k) (le-ltb (place x b) k high)) in
      any_to in_hart 0 (length x.traces) h (omega arith) (omega (arith, of_b.traced))
      (any_to (orders_before_step x p h a b) 0 (length (steps_of x.traces h)) k (omega arith) (omega (arith, within, high))
      (at_step h k ∙ and_from _ _ first (and_from _ _ second ordered)))

  pub all_steps : list_any in_hart (numbers_below (length x.traces)) ≡ is_fenced x p a b
  all_steps = both_true (list_any in_hart (numbers_below (length x.traces))) (is_fenced x p a b) there back

-- ---- one side more

-- the sides of a step give the edges of the fence before it
pub one_side : (x : PreExecution) (p : List Entry) (hart k a b : ℕ) (step : Step) (side : Sides) → slice_get (steps_of x.traces hart) k ≡ Some step
    → side.slot ≡ slot_at hart step.at → before side a ≡ classes_on Before hart k (operation x a) → after side b ≡ classes_on After hart k (operation x b)
    → orders_at p a b side ≡ orders_before_step x p hart a b k
one_side x p hart k a b step side there slot first second = rw (first, second, slot, there) refl

or_assoc : (u v w : Bool) → ((u || v) || w) ≡ (u || (v || w))
or_assoc true v w = refl
or_assoc false v w = refl

or_false : (b : Bool) → (b || false) ≡ b
or_false true = refl
or_false false = refl

pub any_next : (test : ℕ → Bool) (n : ℕ) → list_any test (numbers_below (n + 1)) ≡ (list_any test (numbers_below n) || test n)
any_next test n =
    ap (list_any test) (range_more n) ∙ (list_any-append test (numbers_below n) (n ∷ []) ∙ ap (λ b. list_any test (numbers_below n) || b) (or_false (test n)))

pub side_pushed : (passes : Sides → Bool) (test : ℕ → Bool) (start old new : List Sides) (side : Sides) (n : ℕ) → new ≡ old ++ side ∷ []
    → list_any passes old ≡ (list_any passes start || list_any test (numbers_below n)) → passes side ≡ test n
    → list_any passes new ≡ (list_any passes start || list_any test (numbers_below (n + 1)))
side_pushed passes test start old new side n now was same =
    ap (list_any passes) now ∙ (list_any-append passes old (side ∷ []) ∙ (ap (λ b. list_any passes old || b) (or_false (passes side) ∙ same)
    ∙ (ap (λ b. b || test n) was ∙ (or_assoc (list_any passes start) (list_any test (numbers_below n)) (test n)
    ∙ ap (λ b. list_any passes start || b) (sym (any_next test n))))))
