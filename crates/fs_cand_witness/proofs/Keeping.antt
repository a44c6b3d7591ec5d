-- What is kept by an order, as rows, at places in the runs.
use Rattle.std.proofs.Common.{◌≡◌, ℕ, ◌<◌, Bool, true, false, ◌&&◌, ◌||◌, not, List, [], ◌∷◌, inl, inr, refl, sym, ◌∙◌, rules, arith}
use Rattle.std.specs.List.{list_all, list_any}
use Rattle.std.proofs.lemmas.Bool.{and_parts, and_from, or_cases, or_left, or_right, false≢true, cases_Bool}
use Rattle.fs_kinds.specs.declared.kind.Kind.TheVariants.{RR, RW, WR, WW}
use Rattle.fs_kinds.specs.declared.slot.Slot.{Slot}
use Rattle.fs_kinds.specs.Kind.{Pair, ReadRead, ReadWrite, WriteRead, WriteWrite, orders}
use Rattle.fs_kinds.specs.Slot.{is_same_slot}
use Rattle.fs_model.specs.Numbers.{numbers_below}
use Rattle.fs_model.proofs.ListedNumbers.{range-has}
use Rattle.fs_model.proofs.ListedNumbers.{all_from as within}
use Rattle.fs_model.proofs.Ranges.{each_two_below}
use Rattle.fs_cert_evidence.specs.Widths.{single}
use Rattle.fs_cand_witness.specs.Edges.{has_bit, has_edge}
use Rattle.fs_cand_witness.specs.declared.points.Sides.{Sides}
use Rattle.fs_cand_witness.specs.Fencing.{orders_at}
use Rattle.fs_cand_witness.specs.declared.widths.Class.{Class}
use Rattle.fs_cand_witness.specs.declared.widths.Class.TheVariants.{Reads, Writes}
use Rattle.fs_cand_witness.specs.inner.Keeping.{before_in, after_in, are_ordered, is_kept, keeps_all, width_in}

-- ---- implications

pub implies_from : (a b : Bool) → (a ≡ true → b ≡ true) → (not a || b) ≡ true
implies_from true b f = f refl
implies_from false b f = refl

pub implied : (a b : Bool) → (not a || b) ≡ true → a ≡ true → b ≡ true
implied true b h e = h
implied false b h e = absurd (false≢true e)

pub all_from : {X : Type 0} (test : X → Bool) → ((n : X) → test n ≡ true) → (xs : List X) → list_all test xs ≡ true
all_from test f [] = refl
all_from test f (n ∷ xs) = and_from (test n) (list_all test xs) (f n) (all_from test f xs)

pub same_truth : (a b : Bool) → (a ≡ true → b ≡ true) → (b ≡ true → a ≡ true) → a ≡ b
same_truth true b there back = sym (there refl)
same_truth false true there back = absurd (false≢true (back refl))
same_truth false false there back = refl

-- ---- what comes before what

abbrev in_order : List ℕ → ℕ → ℕ → ℕ → ℕ → Bool
in_order order first second a b = not (has_bit first a && has_bit second b) || has_edge order a b

pub ordered_at : (order : List ℕ) (first second a b : ℕ) → are_ordered order first second ≡ true → a < 64 → b < 64
    → has_bit first a ≡ true → has_bit second b ≡ true → has_edge order a b ≡ true
unfolding are_ordered
ordered_at order first second a b ordered low low' there there' =
    implied (has_bit first a && has_bit second b) (has_edge order a b)
    (each_two_below (in_order order first second) 64 a b ordered low low') (and_from _ _ there there')

pub ordered_from : (order : List ℕ) (first second : ℕ)
    → ((a b : ℕ) → a < 64 → b < 64 → has_bit first a ≡ true → has_bit second b ≡ true → has_edge order a b ≡ true)
    → are_ordered order first second ≡ true
unfolding are_ordered
ordered_from order first second f =
    within (λ a. list_all (in_order order first second a) (numbers_below 64)) (numbers_below 64) (λ a there.
    within (in_order order first second a) (numbers_below 64) (λ b there'.
    implies_from (has_bit first a && has_bit second b) (has_edge order a b) (λ both.
    let low = range-has 0 64 a there in
    let low' = range-has 0 64 b there' in
    let parts = and_parts (has_bit first a) (has_bit second b) both in
    f a b (omega (arith, low.1)) (omega (arith, low'.1)) parts.0 parts.1)))

-- ---- the fence of a pair alone, at its slot

rr : (ra wa rb wb : Bool) → orders RR (record { reads = ra; writes = wa }) (record { reads = rb; writes = wb }) ≡ (ra && rb)
rr ra wa rb wb = grind rules

rw_ : (ra wa rb wb : Bool) → orders RW (record { reads = ra; writes = wa }) (record { reads = rb; writes = wb }) ≡ (ra && wb)
rw_ ra wa rb wb = grind rules

wr : (ra wa rb wb : Bool) → orders WR (record { reads = ra; writes = wa }) (record { reads = rb; writes = wb }) ≡ (wa && rb)
wr ra wa rb wb = grind rules

ww : (ra wa rb wb : Bool) → orders WW (record { reads = ra; writes = wa }) (record { reads = rb; writes = wb }) ≡ (wa && wb)
ww ra wa rb wb = grind rules

-- such a fence orders the operations of the first class before its slot and those of the second after it
abbrev AreOrdered : Slot → Pair → Class → Class → Type 0
AreOrdered slot pair first second =
    (side : Sides) (a b : ℕ) → orders_at (single slot pair) a b side
    ≡ (is_same_slot slot side.slot && (has_bit (before_in first side) a && has_bit (after_in second side) b))

read_read : (slot : Slot) → AreOrdered slot ReadRead Reads Reads
read_read slot side a b = elim (cases_Bool (is_same_slot slot side.slot)) [
  | inl same ↦ rw same (rr (has_bit side.reads_before a) (has_bit side.writes_before a) (has_bit side.reads_after b) (has_bit side.writes_after b))
  | inr other ↦ rw other refl
]

read_write : (slot : Slot) → AreOrdered slot ReadWrite Reads Writes
read_write slot side a b = elim (cases_Bool (is_same_slot slot side.slot)) [
  | inl same ↦ rw same (rw_ (has_bit side.reads_before a) (has_bit side.writes_before a) (has_bit side.reads_after b) (has_bit side.writes_after b))
  | inr other ↦ rw other refl
]

write_read : (slot : Slot) → AreOrdered slot WriteRead Writes Reads
write_read slot side a b = elim (cases_Bool (is_same_slot slot side.slot)) [
  | inl same ↦ rw same (wr (has_bit side.reads_before a) (has_bit side.writes_before a) (has_bit side.reads_after b) (has_bit side.writes_after b))
  | inr other ↦ rw other refl
]

write_write : (slot : Slot) → AreOrdered slot WriteWrite Writes Writes
write_write slot side a b = elim (cases_Bool (is_same_slot slot side.slot)) [
  | inl same ↦ rw same (ww (has_bit side.reads_before a) (has_bit side.writes_before a) (has_bit side.reads_after b) (has_bit side.writes_after b))
  | inr other ↦ rw other refl
]

-- ---- what is kept is what such a fence orders

module _ (order : List ℕ) (slot : Slot) (pair : Pair) (first second : Class) (is : AreOrdered slot pair first second) where
  from_all : (sides : List Sides) → keeps_all order sides slot first second ≡ true → (a b : ℕ) → a < 64 → b < 64
      → list_any (orders_at (single slot pair) a b) sides ≡ true → has_edge order a b ≡ true
  from_all [] kept a b low low' some = absurd (false≢true some)
  from_all (side ∷ sides) kept a b low low' some =
      let all = and_parts (is_kept order slot first second side) _ kept in
      elim (or_cases (orders_at (single slot pair) a b side) (list_any (orders_at (single slot pair) a b) sides) some) [
        | inl here ↦ (
            let parts = and_parts (is_same_slot slot side.slot) _ (sym (is side a b) ∙ here) in
            let both = and_parts (has_bit (before_in first side) a) (has_bit (after_in second side) b) parts.1 in
            let ordered = implied (is_same_slot slot side.slot) (are_ordered order (before_in first side) (after_in second side)) all.0 parts.0 in
            ordered_at order (before_in first side) (after_in second side) a b ordered low low' both.0 both.1)
        | inr later ↦ from_all sides all.1 a b low low' later
      ]

  to_all : (sides : List Sides) → ((a b : ℕ) → list_any (orders_at (single slot pair) a b) sides ≡ true → has_edge order a b ≡ true)
      → keeps_all order sides slot first second ≡ true
  to_all [] f = refl
  to_all (side ∷ sides) f =
      and_from (is_kept order slot first second side) _
      (implies_from (is_same_slot slot side.slot) (are_ordered order (before_in first side) (after_in second side)) (λ same.
      ordered_from order (before_in first side) (after_in second side) (λ a b low low' there there'.
      f a b (or_left _ _ (is side a b ∙ and_from _ _ same (and_from _ _ there there'))))))
      (to_all sides (λ a b later. f a b (or_right _ _ later)))

pub kept_orders : (order : List ℕ) (sides : List Sides) (slot : Slot) (pair : Pair) → width_in order sides slot pair ≡ true
    → (a b : ℕ) → a < 64 → b < 64 → list_any (orders_at (single slot pair) a b) sides ≡ true → has_edge order a b ≡ true
kept_orders order sides slot ReadRead = from_all order slot ReadRead Reads Reads (read_read slot) sides
kept_orders order sides slot ReadWrite = from_all order slot ReadWrite Reads Writes (read_write slot) sides
kept_orders order sides slot WriteRead = from_all order slot WriteRead Writes Reads (write_read slot) sides
kept_orders order sides slot WriteWrite = from_all order slot WriteWrite Writes Writes (write_write slot) sides

pub orders_kept : (order : List ℕ) (sides : List Sides) (slot : Slot) (pair : Pair)
    → ((a b : ℕ) → list_any (orders_at (single slot pair) a b) sides ≡ true → has_edge order a b ≡ true) → width_in order sides slot pair ≡ true
orders_kept order sides slot ReadRead = to_all order slot ReadRead Reads Reads (read_read slot) sides
orders_kept order sides slot ReadWrite = to_all order slot ReadWrite Reads Writes (read_write slot) sides
orders_kept order sides slot WriteRead = to_all order slot WriteRead Writes Reads (write_read slot) sides
orders_kept order sides slot WriteWrite = to_all order slot WriteWrite Writes Writes (write_write slot) sides
