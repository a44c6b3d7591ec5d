-- What is pruned stays so when the bound gets better.
use Rattle.std.proofs.Common.{◌≡◌, ℕ, ◌<◌, ◌==◌, nat_lt, Bool, true, false, not, Option, None, Some, List, [], inl, inr, refl, sym, ap, ◌∙◌, arith}
use Rattle.std.specs.Prelude.{if◌then◌else◌}
use Rattle.std.proofs.lemmas.Bool.{and_parts, and_from, or_cases, or_left, or_right, eqb-true, ltb-true, false≢true, cases_Bool}
use Rattle.std.proofs.lemmas.Bool.Decides.{nat_tests}
use Rattle.fs_kinds.specs.declared.placement.Entry.{Entry}
use Rattle.fs_board_offers.specs.Offers.{precedes, Offers, cost, is_better}
use Rattle.fs_cert_evidence.specs.Widths.{Width}
use Rattle.fs_board_offers.specs.Parts.{Part, floor}
use Rattle.fs_board_offers.specs.Pruning.{first_at, are_apart, lower_bound, is_no_better, is_pruned}
use Rattle.fs_board_offers.specs.Board.{better_of}
use Rattle.fs_model_laws.proofs.Ranked.{first-cases}
use Rattle.fs_board_offers.proofs.Ranked.{before-transitive, better-irreflexive}
use Rattle.fs_board_offers.proofs.Floors.{cost-alone}

module _ (offers : Offers) where
  less-test : (m n : ℕ) → m < n → nat_lt m n ≡ true
  less-test m n less = grind (arith, nat_tests)

  same-test : (m n : ℕ) → m ≡ n → (m == n) ≡ true
  same-test m n same = grind (arith, nat_tests)

  better-bound : (q p : List Entry) (part : Part) (n : ℕ) → is_better offers p q ≡ true
      → is_no_better offers (Some q) part (Some n) ≡ true → is_no_better offers (Some p) part (Some n) ≡ true
  better-bound q p part n better dear =
      elim (first-cases (cost offers p) (cost offers q) (precedes offers p q) better) [
        | inl cheaper ↦ elim (or_cases (nat_lt (cost offers q) n) _ dear) [
          | inl more ↦ (
              let less = ltb-true (cost offers q) n more in
              or_left _ _ (less-test (cost offers p) n (omega (arith, cheaper, less)))
              )
          | inr tie ↦ (
              let same = eqb-true (cost offers q) n (and_parts (cost offers q == n) _ tie).0 in
              or_left _ _ (less-test (cost offers p) n (omega (arith, cheaper, same)))
              )
        ]
        | inr as_much ↦ elim (or_cases (nat_lt (cost offers q) n) _ dear) [
          | inl more ↦ (
              let less = ltb-true (cost offers q) n more in
              let equal = as_much.0 in
              or_left _ _ (less-test (cost offers p) n (omega (arith, equal, less)))
              )
          | inr tie ↦ (
              let parts = and_parts (cost offers q == n) (not (precedes offers (first_at offers part n) q)) tie in
              let same = eqb-true (cost offers q) n parts.0 in
              let equal = as_much.0 in
              or_right (nat_lt (cost offers p) n) _
              (and_from _ _ (same-test (cost offers p) n (omega (arith, equal, same))) (after as_much.1 parts.1))
              )
        ]
      ]
    where
      after : precedes offers p q ≡ true → not (precedes offers (first_at offers part n) q) ≡ true → not (precedes offers (first_at offers part n) p) ≡ true
      after earlier late = elim (cases_Bool (precedes offers (first_at offers part n) p)) [
        | inl before ↦ absurd (false≢true (sym (ap not (before-transitive offers (first_at offers part n) p q before earlier)) ∙ late))
        | inr other ↦ ap not other
      ]

  by-better : (q p : List Entry) (part : Part) (n : ℕ) (b : Bool) → is_better offers p q ≡ b
      → is_no_better offers (Some q) part (Some n) ≡ true
      → is_no_better offers (if b then Some p else Some q) part (Some n) ≡ true
  by-better q p part n true better dear = better-bound q p part n better dear
  by-better q p part n false worse dear = dear

  no-better-still : (bound : Option (List Entry)) (p : List Entry) (part : Part) (n : Option ℕ) → is_no_better offers bound part n ≡ true
      → is_no_better offers (better_of offers bound p) part n ≡ true
  no-better-still bound p part None dear = refl
  no-better-still None p part (Some n) dear = absurd (false≢true dear)
  no-better-still (Some q) p part (Some n) dear = by-better q p part n (is_better offers p q) refl dear

  pub pruned-still : (bound : Option (List Entry)) (p : List Entry) (part : Part) (ws : List Width) → is_pruned offers bound part ws ≡ true
      → is_pruned offers (better_of offers bound p) part ws ≡ true
  pruned-still bound p part ws pruned =
      let parts = and_parts (are_apart offers part ws) (is_no_better offers bound part (lower_bound offers part ws)) pruned in
      and_from _ _ parts.0 (no-better-still bound p part (lower_bound offers part ws) parts.1)

  -- a part whose floor is posted is pruned by cost alone
  floor-pruned : (part : Part) (p : List Entry) → is_better offers (floor part) p ≡ false → is_pruned offers (Some p) part [] ≡ true
  floor-pruned part p worse = cost-alone offers p part ∙ ap not worse

  posted-by : (part : Part) (q : List Entry) (b : Bool) → is_better offers (floor part) q ≡ b
      → is_pruned offers (if b then Some (floor part) else Some q) part [] ≡ true
  posted-by part q true better = floor-pruned part (floor part) (better-irreflexive offers (floor part))
  posted-by part q false worse = floor-pruned part q worse

  pub posted-pruned : (bound : Option (List Entry)) (part : Part) → is_pruned offers (better_of offers bound (floor part)) part [] ≡ true
  posted-pruned None part = floor-pruned part (floor part) (better-irreflexive offers (floor part))
  posted-pruned (Some q) part = posted-by part q (is_better offers (floor part) q) refl
