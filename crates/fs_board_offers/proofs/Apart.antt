-- Witnesses of which no two share a breakable slot: pair by pair, and slot by slot.
use Rattle.std.proofs.Common.{◌≡◌, ℕ, ◌+◌, Bool, true, false, ◌&&◌, ◌||◌, not, Option, None, Some, List, [], ◌∷◌, refl, sym, ap, ap₂, ◌∙◌, arith}
use Rattle.std.specs.Prelude.{cond, nat_lt}
use Rattle.std.specs.List.{list_any, list_all, count_by}
use Rattle.std.proofs.lemmas.Bool.Decides.{nat_tests}
use Rattle.std.proofs.lemmas.List.Sums.{sum_by-cons}
use Rattle.fs_board_offers.specs.Offers.{Offers}
use Rattle.fs_board_offers.specs.Parts.{Part, Decision}
use Rattle.fs_board_offers.specs.Pruning.{is_breakable, share_a_slot, are_apart, sum_of}
use Rattle.fs_cert_evidence.specs.Widths.{Width}

-- ---- sums of costs, where there are any

pub sum_swap : (k m n : Option ℕ) → sum_of k (sum_of m n) ≡ sum_of m (sum_of k n)
sum_swap None None n = refl
sum_swap None (Some m) None = refl
sum_swap None (Some m) (Some n) = refl
sum_swap (Some k) None None = refl
sum_swap (Some k) None (Some n) = refl
sum_swap (Some k) (Some m) None = refl
sum_swap (Some k) (Some m) (Some n) = ap Some (omega arith)

pub sum_none : (m : Option ℕ) → sum_of m None ≡ None
sum_none None = refl
sum_none (Some m) = refl

-- ---- witnesses

abbrev pub count_one : Bool → ℕ
count_one b = cond b 1 0

pub count-cons : {X : Type 0} (p : X → Bool) (x : X) (xs : List X) → count_by p (x ∷ xs) ≡ count_one (p x) + count_by p xs
count-cons p x xs = sum_by-cons (λ y. count_one (p y)) x xs

module _ (offers : Offers) where
  -- the slot is breakable for one of them at most
  abbrev pub one_at : List Width → Decision → Bool
  one_at ws d = nat_lt (count_by (λ w. is_breakable offers w d) ws) 2

  abbrev none_later : Width → List Width → Decision → Bool
  none_later w ws d = not (is_breakable offers w d && list_any (λ v. is_breakable offers v d) ws)

  some_counted : (d : Decision) (ws : List Width) → list_any (λ v. is_breakable offers v d) ws ≡ nat_lt 0 (count_by (λ v. is_breakable offers v d) ws)
  some_counted d [] = refl
  some_counted d (w ∷ ws) =
      rw (count-cons (λ v. is_breakable offers v d) w ws) (elim (is_breakable offers w d) as (λ b. (b || list_any (λ v. is_breakable offers v d) ws) ≡ nat_lt 0 (count_one b + count_by (λ v. is_breakable offers v d) ws)) [
        | true ↦ grind (arith, nat_tests)
        | false ↦ let z : 0 + count_by (λ v. is_breakable offers v d) ws ≡ count_by (λ v. is_breakable offers v d) ws = omega arith in some_counted d ws ∙ ap (nat_lt 0) (sym z)
      ])

  at_most_one : (n : ℕ) → nat_lt (1 + n) 2 ≡ (not (nat_lt 0 n) && nat_lt n 2)
  at_most_one n = grind (arith, nat_tests)

  one_more : (w : Width) (ws : List Width) (d : Decision) → one_at (w ∷ ws) d ≡ (none_later w ws d && one_at ws d)
  one_more w ws d =
      let counted = some_counted d ws in
      rw (count-cons (λ v. is_breakable offers v d) w ws, counted) (elim (is_breakable offers w d) as (λ b. nat_lt (count_one b + count_by (λ v. is_breakable offers v d) ws) 2 ≡ (not (b && nat_lt 0 (count_by (λ v. is_breakable offers v d) ws)) && one_at ws d)) [
        | true ↦ at_most_one (count_by (λ v. is_breakable offers v d) ws)
        | false ↦ let z : 0 + count_by (λ v. is_breakable offers v d) ws ≡ count_by (λ v. is_breakable offers v d) ws = omega arith in ap (λ n. nat_lt n 2) z
      ])

  both_all : (p q r : Decision → Bool) → ((d : Decision) → r d ≡ (p d && q d)) → (part : Part) → list_all r part ≡ (list_all p part && list_all q part)
  both_all p q r is [] = refl
  both_all p q r is (d ∷ part) = ap₂ (λ b c. b && c) (is d) (both_all p q r is part) ∙ mixed (p d) (q d) (list_all p part) (list_all q part)
    where
      mixed : (a b c d : Bool) → ((a && b) && (c && d)) ≡ ((a && c) && (b && d))
      mixed true true c d = refl
      mixed true false true d = refl
      mixed true false false d = refl
      mixed false b c d = refl

  abbrev shared : Width → Part → List Width → Bool
  shared w part ws = list_any (share_a_slot offers part w) ws

  none_shared : (w : Width) (ws : List Width) → shared w [] ws ≡ false
  none_shared w [] = refl
  none_shared w (v ∷ ws) = none_shared w ws

  first_shared : (w : Width) (d : Decision) (part : Part) (ws : List Width)
      → shared w (d ∷ part) ws ≡ (is_breakable offers w d && list_any (λ v. is_breakable offers v d) ws || shared w part ws)
  first_shared w d part [] = sym (neither (is_breakable offers w d))
    where
      neither : (b : Bool) → (b && false || false) ≡ false
      neither true = refl
      neither false = refl
  first_shared w d part (v ∷ ws) =
      ap (λ b. (is_breakable offers w d && is_breakable offers v d || share_a_slot offers part w v) || b) (first_shared w d part ws)
      ∙ mixed (is_breakable offers w d) (is_breakable offers v d) (share_a_slot offers part w v) (list_any (λ u. is_breakable offers u d) ws) (shared w part ws)
    where
      mixed : (b p q r s : Bool) → ((b && p || q) || (b && r || s)) ≡ (b && (p || r) || (q || s))
      mixed true true q r s = refl
      mixed true false true true s = refl
      mixed true false true false s = refl
      mixed true false false r s = refl
      mixed false p q r s = refl

  none_at : (w : Width) (ws : List Width) (part : Part) → list_all (none_later w ws) part ≡ not (shared w part ws)
  none_at w ws [] = ap not (sym (none_shared w ws))
  none_at w ws (d ∷ part) =
      ap (λ b. none_later w ws d && b) (none_at w ws part)
      ∙ (neither (is_breakable offers w d && list_any (λ v. is_breakable offers v d) ws) (shared w part ws) ∙ ap not (sym (first_shared w d part ws)))
    where
      neither : (a b : Bool) → (not a && not b) ≡ not (a || b)
      neither true b = refl
      neither false b = refl

  all_one : (part : Part) → list_all (one_at []) part ≡ true
  all_one [] = refl
  all_one (d ∷ part) = all_one part

  pub pair_by_pair : (part : Part) (ws : List Width) → list_all (one_at ws) part ≡ are_apart offers part ws
  pair_by_pair part [] = all_one part
  pair_by_pair part (w ∷ ws) =
      both_all (none_later w ws) (one_at ws) (one_at (w ∷ ws)) (one_more w ws) part
      ∙ ap₂ (λ b c. b && c) (none_at w ws part) (pair_by_pair part ws)
