-- What was tried stays so in wider relations.
use Rattle.std.proofs.Common.{◌≡◌, ℕ, ◌+◌, ◌<◌, ◌^◌, Bool, true, false, ◌&&◌, ◌||◌, Some, List, [], ◌∷◌, length, get_or, slice_get, inl, inr, refl, sym, ◌∙◌, ap, subst, arith}
use Rattle.std.specs.List.{list_all, list_any}
use Rattle.std.proofs.lemmas.Bool.{and_from, and_parts, both_ways, cases_eq, cases_lt, eqb-true, or_cases, or_right}
use Rattle.std.proofs.lemmas.List.{get_or_default}
use Rattle.std.proofs.lemmas.Option.{slice_get_read}
use Rattle.fs_kinds.specs.declared.slot.Slot.{Slot}
use Rattle.fs_kinds.specs.Slot.{is_same_slot}
use Rattle.std.proofs.lemmas.Nat.Bits.{bit_at_above}
use Rattle.fs_cand_witness.specs.Edges.{has_bit, has_edge}
use Rattle.fs_cand_witness.specs.Orders.{IsCycleBelow}
use Rattle.fs_cand_witness.specs.declared.points.Sides.{Sides}
use Rattle.fs_cand_witness.specs.inner.Keeping.{are_ordered}
use Rattle.fs_cand_witness.specs.inner.Widening.{AreTried, HasAll, IsMadeAt, IsMadeBy, IsMadeOf, IsTried, IsWider, KeepsAs}
use Rattle.fs_cand_witness.proofs.Keeping.{ordered_at}
use Rattle.fs_cand_witness.proofs.Numbered.{no_cycle}

-- ---- wider relations

module _ (n : ℕ) (rows wider : List ℕ) (kept : (a b : ℕ) → has_edge rows a b ≡ true → has_edge wider a b ≡ true) where
  pub tried_stays : (from to : ℕ) → IsTried n rows from to → IsTried n wider from to
  tried_stays from to (inl each) = inl (λ a b there there'. kept a b (each a b there there'))
  tried_stays from to (inr full) = inr (λ edge numbers more each is. full edge numbers (λ a b there. more a b (kept a b there)) each is)

  pub all_stay : (side : Sides) → AreTried n rows side → AreTried n wider side
  all_stay side tried = record {
    read_read = tried_stays side.reads_before side.reads_after tried.read_read;
    read_write = tried_stays side.reads_before side.writes_after tried.read_write;
    write_read = tried_stays side.writes_before side.reads_after tried.write_read;
    write_write = tried_stays side.writes_before side.writes_after tried.write_write;
  }

-- ---- one try

small : (word a : ℕ) → word < 2 ^ 64 → has_bit word a ≡ true → a < 64
small word a fits there = elim (cases_lt a 64) [
  | inl low ↦ low
  | inr past ↦ absurd (let none = bit_at_above word 64 a fits past in let one = eqb-true _ 1 there in omega (arith, none, one))
]

-- they are there already
pub there_already : (n : ℕ) (rows : List ℕ) (from to : ℕ) → from < 2 ^ 64 → to < 2 ^ 64 → are_ordered rows from to ≡ true → IsTried n rows from to
there_already n rows from to fits fits' ordered =
    inl (λ a b there there'. ordered_at rows from to a b ordered (small from a fits there) (small to b fits' there') there there')

-- they are put in
pub put_in : (n : ℕ) (rows wider : List ℕ) (from to : ℕ)
    → ((a b : ℕ) → has_edge wider a b ≡ (has_edge rows a b || (has_bit from a && has_bit to b))) → IsTried n wider from to
put_in n rows wider from to is = inl (λ a b there there'. is a b ∙ or_right (has_edge rows a b) _ (and_from _ _ there there'))

-- and nothing else is
pub made_by : (rows wider : List ℕ) (from to : ℕ)
    → ((a b : ℕ) → has_edge wider a b ≡ (has_edge rows a b || (has_bit from a && has_bit to b))) → IsMadeBy rows from to wider
made_by rows wider from to is = λ edge more each a b there. elim (or_cases (has_edge rows a b) (has_bit from a && has_bit to b) (sym (is a b) ∙ there)) [
  | inl was ↦ more a b was
  | inr new ↦ (
      let parts = and_parts (has_bit from a) (has_bit to b) new in
      each (λ a b h k. is a b ∙ or_right (has_edge rows a b) _ (and_from _ _ h k)) a b parts.0 parts.1)
]

all_pass : (p q : ℕ × ℕ → Bool) → ((pair : ℕ × ℕ) → p pair ≡ true → q pair ≡ true) → (pairs : List (ℕ × ℕ)) → list_all p pairs ≡ true → list_all q pairs ≡ true
all_pass p q f [] all = refl
all_pass p q f (pair ∷ pairs) all = let parts = and_parts (p pair) _ all in and_from (q pair) _ (f pair parts.0) (all_pass p q f pairs parts.1)

-- they can't be
pub no_room : (n : ℕ) (rows wider cycle : List ℕ) (from to : ℕ)
    → ((a b : ℕ) → has_edge wider a b ≡ (has_edge rows a b || (has_bit from a && has_bit to b)))
    → IsCycleBelow (has_edge wider) n cycle → IsTried n rows from to
no_room n rows wider cycle from to is found = inr (λ edge numbers more each order.
    let more_still : (a b : ℕ) → has_edge wider a b ≡ true → edge a b ≡ true =
    λ a b there. elim (or_cases (has_edge rows a b) (has_bit from a && has_bit to b) (sym (is a b) ∙ there)) [
      | inl was ↦ more a b was
      | inr new ↦ (let parts = and_parts (has_bit from a) (has_bit to b) new in each a b parts.0 parts.1)
    ] in
    no_cycle edge n numbers order cycle (record {
      some = found.some;
      most = found.most;
      below = found.below;
      edges = all_pass (λ pair. has_edge wider pair.0 pair.1) (λ pair. edge pair.0 pair.1) (λ pair there. more_still pair.0 pair.1 there) _ found.edges;
    }))

-- ---- all places up to one

module _ (n : ℕ) (sides : List Sides) (first : List Slot) (i : ℕ) (d : Sides) (low : i < length sides) where
  -- the slot of the place is one of the first
  abbrev pub is_first : Sides → Bool
  is_first side = list_any (λ s. is_same_slot s side.slot) first

  abbrev side : Sides
  side = get_or sides i d

  there : slice_get sides i ≡ Some side
  there = slice_get_read sides (length sides) i side refl low (get_or_default sides i d side low)

  -- the edges are the pairs' still
  pub made_still : (rows wide wider : List ℕ) → HasAll wide (has_edge wider) → IsMadeOf rows sides wide → IsMadeAt wide side wider → IsMadeOf rows sides wider
  made_still rows wide wider kept of at = λ edge more same.
      at edge (of edge more (λ k other is. as_before edge other (same k other is))) (same i side there)
    where
      as_before : (edge : ℕ → ℕ → Bool) (other : Sides) → KeepsAs wider edge other → KeepsAs wide edge other
      as_before edge other same = record {
        read_read = λ each. same.read_read (λ a b h k. kept a b (each a b h k));
        read_write = λ each. same.read_write (λ a b h k. kept a b (each a b h k));
        write_read = λ each. same.write_read (λ a b h k. kept a b (each a b h k));
        write_write = λ each. same.write_write (λ a b h k. kept a b (each a b h k));
      }

  -- what is asked of places is so of one place more
  one_place : (Asked : Sides → Type 0) (rows wider : List ℕ) → ((a b : ℕ) → has_edge rows a b ≡ true → has_edge wider a b ≡ true)
      → (Asked side → AreTried n wider side)
      → ((k : ℕ) (other : Sides) → k < i → slice_get sides k ≡ Some other → Asked other → AreTried n rows other)
      → (k : ℕ) (other : Sides) → k < i + 1 → slice_get sides k ≡ Some other → Asked other → AreTried n wider other
  one_place Asked rows wider kept tried before k other low' is asked = elim (cases_eq k i) [
    | inl same ↦ (
        let both : Some side ≡ Some other = sym there ∙ (ap (slice_get sides) (sym same) ∙ is) in
        let one : side ≡ other = cc in
        subst (λ (s : Sides). AreTried n wider s) one (tried (subst Asked (sym one) asked)))
    | inr apart ↦ all_stay n rows wider kept other (before k other (omega (arith, low', apart)) is asked)
  ]

  -- the places of the first slots
  abbrev pub FirstTried : List ℕ → ℕ → Type 0
  FirstTried rows end = (k : ℕ) (other : Sides) → k < end → slice_get sides k ≡ Some other → is_first other ≡ true → AreTried n rows other

  pub first_tried : (rows wider : List ℕ) → ((a b : ℕ) → has_edge rows a b ≡ true → has_edge wider a b ≡ true) → AreTried n wider side
      → FirstTried rows i → FirstTried wider (i + 1)
  first_tried rows wider kept tried = one_place (λ other. is_first other ≡ true) rows wider kept (λ asked. tried)

  pub first_passed : (rows : List ℕ) → is_first side ≡ false → FirstTried rows i → FirstTried rows (i + 1)
  first_passed rows other = one_place (λ other. is_first other ≡ true) rows rows (λ a b h. h) (λ asked. absurd (both_ways _ other asked))

  -- all places
  abbrev pub AllTried : List ℕ → ℕ → Type 0
  AllTried rows end = (k : ℕ) (other : Sides) → k < end → slice_get sides k ≡ Some other → AreTried n rows other

  pub all_tried : (rows wider : List ℕ) → ((a b : ℕ) → has_edge rows a b ≡ true → has_edge wider a b ≡ true) → AreTried n wider side
      → AllTried rows i → AllTried wider (i + 1)
  all_tried rows wider kept tried before k other low' is =
      one_place (λ other. Unit {0}) rows wider kept (λ asked. tried) (λ k other low is asked. before k other low is) k other low' is tt

  pub all_passed : (rows : List ℕ) → is_first side ≡ true
      → ((k : ℕ) (other : Sides) → slice_get sides k ≡ Some other → is_first other ≡ true → AreTried n rows other)
      → AllTried rows i → AllTried rows (i + 1)
  all_passed rows asked firsts = all_tried rows rows (λ a b h. h) (firsts i side there asked)

-- a wider relation of a wider one
pub wider_still : (n : ℕ) (rows wide wider : List ℕ) → IsWider n rows wide → IsWider n wide wider → IsWider n rows wider
wider_still n rows wide wider first second = record { kept = λ a b h. second.kept a b (first.kept a b h); order = second.order }
