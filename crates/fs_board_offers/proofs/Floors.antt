-- What lies under a part is never better than its floor.
use Rattle.std.proofs.Common.{◌≡◌, ℕ, ◌+◌, ◌≤◌, ◌==◌, nat_lt, Bool, true, false, ◌&&◌, ◌||◌, not, Option, None, Some, unwrap_or, List, [], ◌∷◌, inl, inr, refl, sym, ap, ap₂, ◌∙◌, arith}
use Rattle.std.specs.Prelude.{if◌then◌else◌}
use Rattle.std.proofs.lemmas.Bool.{and_parts, eqb-true, false≢true, false_from_ne_true}
use Rattle.std.proofs.lemmas.Bool.Decides.{nat_tests}
use Rattle.std.proofs.lemmas.List.Sums.{sum_by-cons}
use Rattle.fs_kinds.specs.declared.kind.Kind.{Kind}
use Rattle.fs_kinds.specs.declared.placement.Entry.{Entry}
use Rattle.fs_kinds.specs.declared.slot.Slot.{Slot}
use Rattle.fs_kinds.specs.Placement.{rank, slots_of}
use Rattle.fs_kinds.specs.Slot.{is_same_slot}
use Rattle.fs_board_offers.specs.Offers.{Offers, offer_at, entry_cost, cost, rank_in, first_kind, rank_at, precedes, is_better}
use Rattle.fs_board_offers.specs.Pruning.{first_at, is_pruned}
use Rattle.fs_board_offers.specs.Parts.{Part, Decision, floor, earliest, agrees, is_under, slots_in_part}
use Rattle.fs_model_laws.proofs.PlacedPairs.{same_slot}
use Rattle.fs_model_laws.proofs.Ranked.{by_first, first-less, first-same, first-cases, order, rank-injective, entry_of}
use Rattle.fs_board_offers.proofs.Ranked.{none-before-free, first-least}

-- a decision, and the entry that the floor has there
abbrev pub decision : Slot → Option (Option Kind) → Decision
decision s decided = record { slot = s; decided = decided }

abbrev pub floor_entry : Decision → Entry
floor_entry d = record { slot = d.slot; kind = unwrap_or d.decided None }

-- what a completion has at a slot
pub record IsEntryOf (d : Decision) (e : Entry) : Type 0 where
  pub slot : d.slot ≡ e.slot
  pub agrees : agrees d.decided e.kind ≡ true

pub record AreUnder (d : Decision) (part : Part) (e : Entry) (q : List Entry) : Type 0 where
  pub entry : IsEntryOf d e
  pub rest : is_under part q ≡ true

pub under-parts : (d : Decision) (part : Part) (e : Entry) (q : List Entry) → is_under (d ∷ part) (e ∷ q) ≡ true → AreUnder d part e q
under-parts d part e q under =
    let outer = and_parts _ _ under in
    let inner = and_parts (is_same_slot d.slot e.slot) (agrees d.decided e.kind) outer.0 in
    record {
      entry = record { slot = same_slot d.slot e.slot inner.0; agrees = inner.1 };
      rest = outer.1;
    }

pub slots-under : (part : Part) (q : List Entry) → is_under part q ≡ true → slots_of q ≡ slots_in_part part
slots-under [] [] under = refl
slots-under [] (e ∷ q) under = absurd (false≢true under)
slots-under (d ∷ part) [] under = absurd (false≢true under)
slots-under (d ∷ part) (e ∷ q) under =
    let parts = under-parts d part e q under in
    ap₂ (λ s ss. s ∷ ss) (sym parts.entry.slot) (slots-under part q parts.rest)

pub same-kind : (k l : Option Kind) → agrees (Some k) l ≡ true → k ≡ l
same-kind k l same = rank-injective k l (eqb-true (rank k) (rank l) same)

-- at a decided slot a completion has what is decided
pub decided-entry : (s : Slot) (kind : Option Kind) (e : Entry) → IsEntryOf (decision s (Some kind)) e → entry_of s kind ≡ e
decided-entry s kind e is = ap₂ entry_of is.slot (same-kind kind e.kind is.agrees)

-- ---- costs

module _ (offers : Offers) where
  pub none-free : (s : Slot) → entry_cost offers (entry_of s None) ≡ 0
  none-free s = refl

  entry-cost : (s : Slot) (decided : Option (Option Kind)) (e : Entry) → IsEntryOf (decision s decided) e
      → entry_cost offers (floor_entry (decision s decided)) ≤ entry_cost offers e
  entry-cost s None e is = none-below (entry_cost offers (entry_of s None)) (entry_cost offers e) (none-free s)
    where
      none-below : (m n : ℕ) → m ≡ 0 → m ≤ n
      none-below m n none = omega (arith, none)
  entry-cost s (Some kind) e is =
      same-below (entry_cost offers (entry_of s kind)) (entry_cost offers e) (ap (entry_cost offers) (decided-entry s kind e is))
    where
      same-below : (m n : ℕ) → m ≡ n → m ≤ n
      same-below m n same = omega (arith, same)

  both-below : (f e x y m n : ℕ) → m ≡ f + x → n ≡ e + y → f ≤ e → x ≤ y → m ≤ n
  both-below f e x y m n first second here later = omega (arith, first, second, here, later)

  pub floor-cost : (part : Part) (q : List Entry) → is_under part q ≡ true → cost offers (floor part) ≤ cost offers q
  floor-cost [] [] under = omega arith
  floor-cost [] (e ∷ q) under = absurd (false≢true under)
  floor-cost (d ∷ part) [] under = absurd (false≢true under)
  floor-cost (d ∷ part) (e ∷ q) under =
      let parts = under-parts d part e q under in
      both-below
      (entry_cost offers (floor_entry d)) (entry_cost offers e) (cost offers (floor part)) (cost offers q)
      (cost offers (floor (d ∷ part))) (cost offers (e ∷ q))
      (sum_by-cons (entry_cost offers) (floor_entry d) (floor part)) (sum_by-cons (entry_cost offers) e q)
      (entry-cost d.slot d.decided e parts.entry) (floor-cost part q parts.rest)

-- ---- order

module _ (offers : Offers) where
  -- entry by entry the first list has what comes no later
  abbrev pub AreNoLater : List Entry → List Entry → Type 0
  AreNoLater [] [] = Unit {0}
  AreNoLater (e ∷ p) (f ∷ q) = (rank_at offers e ≤ rank_at offers f) × AreNoLater p q
  AreNoLater [] (f ∷ q) = ⊥
  AreNoLater (e ∷ p) [] = ⊥

  -- so the second isn't before it
  none-before : (r q : List Entry) → AreNoLater r q → precedes offers q r ≡ true → ⊥
  none-before [] [] each before = false≢true before
  none-before [] (f ∷ q) each before = each
  none-before (e ∷ r) [] each before = each
  none-before (e ∷ r) (f ∷ q) each before =
      let least = each.0 in
      elim (first-cases (rank_at offers f) (rank_at offers e) (precedes offers q r) before) [
        | inl less ↦ absurd (omega (arith, less, least))
        | inr same ↦ none-before r q each.1 same.1
      ]

  -- and what the second is before, the first is before
  before-by : (r q p : List Entry) → AreNoLater r q → precedes offers q p ≡ true → precedes offers r p ≡ true
  before-by [] [] p each before = before
  before-by [] (f ∷ q) p each before = absurd each
  before-by (e ∷ r) [] p each before = absurd each
  before-by (e ∷ r) (f ∷ q) [] each before = absurd (false≢true before)
  before-by (e ∷ r) (f ∷ q) (g ∷ p) each before =
      let least = each.0 in
      let mine = rank_at offers e in
      let its = rank_at offers g in
      elim (first-cases (rank_at offers f) its (precedes offers q p) before) [
        | inl less ↦ first-less mine its (precedes offers r p) (omega (arith, less, least))
        | inr same ↦ elim (order mine its) [
          | inl less ↦ first-less mine its (precedes offers r p) less
          | inr rest ↦ elim rest [
            | inl equal ↦ first-same mine its (precedes offers r p) equal (before-by r q p each.1 same.1)
            | inr more ↦ absurd (omega (arith, more, least, same.0))
          ]
        ]
      ]

  same-rank : (e f : Entry) → e ≡ f → rank_at offers e ≤ rank_at offers f
  same-rank e f same = let equal = ap (rank_at offers) same in omega (arith, equal)

  rank-there : (s : Slot) (e : Entry) (kind : Option Kind) → s ≡ e.slot → rank_in (offer_at offers e.slot) kind ≤ rank_at offers e
      → rank_at offers (entry_of s kind) ≤ rank_at offers e
  rank-there s e kind same low =
      let equal : rank_at offers (entry_of s kind) ≡ rank_in (offer_at offers e.slot) kind = ap (λ u. rank_in (offer_at offers u) kind) same in
      omega (arith, equal, low)

  -- where a completion costs no more than the floor, it has nothing at an undecided slot that comes before none
  floor-entry : (s : Slot) (decided : Option (Option Kind)) (e : Entry) → IsEntryOf (decision s decided) e
      → entry_cost offers e ≤ entry_cost offers (floor_entry (decision s decided))
      → rank_at offers (floor_entry (decision s decided)) ≤ rank_at offers e
  floor-entry s None e is low =
      let none = none-free offers s in
      rank-there s e None is.slot (none-before-free (offer_at offers e.slot) e.kind (omega (arith, low, none)))
  floor-entry s (Some kind) e is low = same-rank (entry_of s kind) e (decided-entry s kind e is)

  below-first : (f e x y m n : ℕ) → m ≡ f + x → n ≡ e + y → x ≤ y → n ≤ m → e ≤ f
  below-first f e x y m n first second later low = omega (arith, first, second, later, low)

  below-rest : (f e x y m n : ℕ) → m ≡ f + x → n ≡ e + y → f ≤ e → n ≤ m → y ≤ x
  below-rest f e x y m n first second here low = omega (arith, first, second, here, low)

  pub floor-no-later : (part : Part) (q : List Entry) → is_under part q ≡ true → cost offers q ≤ cost offers (floor part)
      → AreNoLater (floor part) q
  floor-no-later [] [] under low = tt
  floor-no-later [] (e ∷ q) under low = absurd (false≢true under)
  floor-no-later (d ∷ part) [] under low = absurd (false≢true under)
  floor-no-later (d ∷ part) (e ∷ q) under low =
      let parts = under-parts d part e q under in
      let mine = sum_by-cons (entry_cost offers) (floor_entry d) (floor part) in
      let its = sum_by-cons (entry_cost offers) e q in (
        floor-entry d.slot d.decided e parts.entry
            (below-first (entry_cost offers (floor_entry d)) (entry_cost offers e) (cost offers (floor part)) (cost offers q)
            (cost offers (floor (d ∷ part))) (cost offers (e ∷ q)) mine its (floor-cost offers part q parts.rest) low),
        floor-no-later part q parts.rest
            (below-rest (entry_cost offers (floor_entry d)) (entry_cost offers e) (cost offers (floor part)) (cost offers q)
            (cost offers (floor (d ∷ part))) (cost offers (e ∷ q)) mine its (entry-cost offers d.slot d.decided e parts.entry) low),
      )

  earliest-entry : (s : Slot) (decided : Option (Option Kind)) (e : Entry) → IsEntryOf (decision s decided) e
      → rank_at offers (entry_of s (unwrap_or decided (first_kind (offer_at offers s)))) ≤ rank_at offers e
  earliest-entry s None e is =
      let there : rank_in (offer_at offers s) e.kind ≡ rank_at offers e = ap (λ u. rank_in (offer_at offers u) e.kind) is.slot in
      let least = first-least (offer_at offers s) e.kind in
      omega (arith, there, least)
  earliest-entry s (Some kind) e is = same-rank (entry_of s kind) e (decided-entry s kind e is)

  pub earliest-no-later : (part : Part) (q : List Entry) → is_under part q ≡ true → AreNoLater (earliest offers part) q
  earliest-no-later [] [] under = tt
  earliest-no-later [] (e ∷ q) under = absurd (false≢true under)
  earliest-no-later (d ∷ part) [] under = absurd (false≢true under)
  earliest-no-later (d ∷ part) (e ∷ q) under =
      let parts = under-parts d part e q under in
      (earliest-entry d.slot d.decided e parts.entry, earliest-no-later part q parts.rest)

  -- what is after something under a part that costs so much is after the first completion that may cost so much
  pub first-before : (part : Part) (q p : List Entry) (n : ℕ) → is_under part q ≡ true → cost offers q ≡ n
      → precedes offers q p ≡ true → precedes offers (first_at offers part n) p ≡ true
  first-before part q p n under is before = by_cost (cost offers (floor part) == n) refl
    where
      by_cost : (b : Bool) → (cost offers (floor part) == n) ≡ b
          → precedes offers (if b then floor part else earliest offers part) p ≡ true
      by_cost true least =
          let same = eqb-true (cost offers (floor part)) n least in
          before-by (floor part) q p (floor-no-later part q under (omega (arith, is, same))) before
      by_cost false more = before-by (earliest offers part) q p (earliest-no-later part q under) before

  -- nothing under a part is better than its floor
  pub floor-best : (part : Part) (q : List Entry) → is_under part q ≡ true → is_better offers q (floor part) ≡ false
  floor-best part q under = false_from_ne_true (is_better offers q (floor part)) (λ better.
      let least = floor-cost offers part q under in
      elim (first-cases (cost offers q) (cost offers (floor part)) (precedes offers q (floor part)) better) [
        | inl less ↦ omega (arith, less, least)
        | inr same ↦ (
            let equal = same.0 in
            none-before (floor part) q (floor-no-later part q under (omega (arith, equal))) same.1
            )
      ])

-- ---- no execution

turned : (m n : ℕ) (b : Bool) → (nat_lt n m || (n == m) && not b) ≡ not (by_first m n b)
turned m n true = grind (arith, nat_tests)
turned m n false = grind (arith, nat_tests)

itself : (n : ℕ) → (n == n) ≡ true
itself n = grind (arith, nat_tests)

pub cost-alone : (offers : Offers) (p : List Entry) (part : Part)
    → is_pruned offers (Some p) part [] ≡ not (is_better offers (floor part) p)
cost-alone offers p part =
    let n = cost offers (floor part) in
    ap (λ b. let first = if b then floor part else earliest offers part in
    nat_lt (cost offers p) n || (cost offers p == n) && not (precedes offers first p)) (itself n)
    ∙ turned n (cost offers p) (precedes offers (floor part) p)
