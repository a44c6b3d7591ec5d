-- One row more has its edges.
use Rattle.std.proofs.Common.{◌≡◌, ℕ, ◌<◌, ◌≤◌, ◌^◌, ◌==◌, ◌||◌, ◌&&◌, not, List, length, get_or, set, Bool, true, false, refl, sym, ◌∙◌, inl, inr, arith, bit_or}
use Rattle.std.specs.Int.{bit_at}
use Rattle.std.proofs.lemmas.List.{get_or-set_same, get_or-set_other, get_or_past}
use Rattle.std.proofs.lemmas.Nat.Bits.{bit_at-zero, bit_at_above}
use Rattle.std.proofs.lemmas.Bool.{cases_eq, eq-eqb, ne_eqb}
use Rattle.fs_cand_witness.specs.Edges.{has_edge, has_bit}
use Rattle.fs_cand_witness.proofs.Bits.{bit_or_test, or-false}
use Rattle.fs_cand_witness.proofs.Bitwise.{IsTaken, edge, no_edge}

or_none : (o r t f l n : Bool) → f ≡ true → l ≡ true → n ≡ false → r ≡ (o || ((f && not l) && t)) → (r || t) ≡ (o || ((f && not n) && t))
or_none true r t f l n p q s e = rw e refl
or_none false r t f l n p q s e = rw (e, p, q, s) refl

pub each_step : (rows first : List ℕ) (from left new to v x y : ℕ) → length rows ≡ 64 → IsTaken left new v → v < 64 → bit_at from v ≡ 1 → x < 64
    → has_edge rows x y ≡ (has_edge first x y || ((has_bit from x && not (has_bit left x)) && has_bit to y))
    → has_edge (set rows v (bit_or (get_or rows v 0) to)) x y ≡ (has_edge first x y || ((has_bit from x && not (has_bit new x)) && has_bit to y))
each_step rows first from left new to v x y long take low sub low' was = elim (cases_eq x v) [
  | inl e ↦ (
      let within : v < length rows = omega (arith, long) in
      let now : has_edge (set rows v (bit_or (get_or rows v 0) to)) v y ≡ (has_edge rows v y || has_bit to y) = rw get_or-set_same (bit_or_test (get_or rows v 0) to y) in
      let here : has_edge rows v y ≡ (has_edge first v y || ((has_bit from v && not (has_bit left v)) && has_bit to y)) = rw e at was in
      rw e (now ∙ or_none (has_edge first v y) (has_edge rows v y) (has_bit to y) (has_bit from v) (has_bit left v) (has_bit new v) (edge from v sub) (edge left v take.was) (no_edge new v take.gone) here))
  | inr ne ↦ (
      let same : bit_at new x ≡ bit_at left x = take.others x low' ne in
      rw (get_or-set_other, same) was)
]

-- all numbers have had their edges
pub all_taken : (o f t : Bool) (left x : ℕ) → left ≡ 0 → (o || ((f && not (has_bit left x)) && t)) ≡ (o || (f && t))
all_taken o true t left x none = rw (none, bit_at-zero x) refl
all_taken o false t left x none = refl

-- past the last row there is no edge
pub none_past : (new old : List ℕ) (from to x y : ℕ) → length new ≡ 64 → length old ≡ 64 → from < 2 ^ 64 → 64 ≤ x
    → has_edge new x y ≡ (has_edge old x y || (has_bit from x && has_bit to y))
none_past new old from to x y long long' fits high =
    let past = get_or_past new x 0 (omega (arith, long, high)) in
    let past' = get_or_past old x 0 (omega (arith, long', high)) in
    rw (past, past', bit_at_above from 64 x fits high, bit_at-zero y) refl

-- one row more
pub row_added : (rows : List ℕ) (a to x y : ℕ) → a < length rows
    → has_edge (set rows a (bit_or (get_or rows a 0) to)) x y ≡ (has_edge rows x y || ((x == a) && has_bit to y))
row_added rows a to x y within = elim (cases_eq x a) [
  | inl e ↦ rw (e, eq-eqb a a refl) (rw get_or-set_same (bit_or_test (get_or rows a 0) to y))
  | inr ne ↦ rw (ne_eqb x a ne) (rw get_or-set_other (sym (or-false (has_edge rows x y))))
]
