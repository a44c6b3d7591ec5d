-- When witnesses bound a part, by what is known of each.
use Rattle.std.proofs.Common.{◌≡◌, ℕ, zero, suc, ◌+◌, ◌<◌, Bool, ◌&&◌, Option, None, Some, List, [], ◌∷◌, map, length, take, refl, sym, ap, ap₂, ◌∙◌, arith, subst}
use Rattle.std.specs.Prelude.{nat_lt, get_or, slice_get}
use Rattle.std.specs.List.{list_all, count_by}
use Rattle.fs_kinds.specs.declared.slot.Slot.{Slot}
use Rattle.fs_board_offers.specs.Offers.{Offers, cost}
use Rattle.fs_board_offers.specs.Parts.{Part, Decision, floor}
use Rattle.fs_board_offers.specs.Pruning.{is_breakable, least_break, are_apart, sum_of, lower_bound}
use Rattle.fs_cert_evidence.specs.Widths.{Width}
use Rattle.fs_board_offers.specs.Breaks.{break_apart, bound_of}
use Rattle.fs_board_offers.proofs.Apart.{sum_swap, sum_none, count_one, count-cons, one_at, pair_by_pair}

-- ---- what loops over witnesses need

module _ {W A : Type 0} (least : W → Option ℕ) (low : ℕ) (known : A → W) where
  pub bound_more : (xs : List A) (i : ℕ) (d : A) → i < length xs
      → bound_of least low (map known (take (i + 1) xs)) ≡ sum_of (least (known (get_or xs i d))) (bound_of least low (map known (take i xs)))
  bound_more [] i d l = absurd (omega arith)
  bound_more (x ∷ xs) zero d l = refl
  bound_more (x ∷ xs) (suc i) d l =
      let e : suc i + 1 ≡ suc (i + 1) = omega arith in
      rw e (ap (sum_of (least (known x))) (bound_more xs i d (omega arith))
      ∙ sum_swap (least (known x)) (least (known (get_or xs i d))) (bound_of least low (map known (take i xs))))

  pub bound_none : (xs : List A) (i : ℕ) (d : A) → i < length xs → least (known (get_or xs i d)) ≡ None → bound_of least low (map known xs) ≡ None
  bound_none [] i d l none = absurd (omega arith)
  bound_none (x ∷ xs) zero d l none = ap (λ n. sum_of n (bound_of least low (map known xs))) none
  bound_none (x ∷ xs) (suc i) d l none = ap (sum_of (least (known x))) (bound_none xs i d (omega arith) none) ∙ sum_none (least (known x))

-- ---- sums of what it costs to break each

pub same_bound : {W : Type 0} (offers : Offers) (part : Part) (least : W → Option ℕ) (known : Width → W)
    → ((w : Width) → least (known w) ≡ least_break offers part w) → (ws : List Width)
    → bound_of least (cost offers (floor part)) (map known ws) ≡ lower_bound offers part ws
same_bound offers part least known same [] = refl
same_bound offers part least known same (w ∷ ws) = ap₂ sum_of (same w) (same_bound offers part least known same ws)

-- ---- no two share a breakable slot, slot by slot

module _ {W : Type 0} (offers : Offers) (test : ℕ → Decision → W → Bool) (known : List Slot → Width → W)
    (same : (ss : List Slot) (k : ℕ) (d : Decision) (w : Width) → slice_get ss k ≡ Some d.slot → test k d (known ss w) ≡ is_breakable offers w d) where
  -- these slots stand in the list from number k on
  abbrev StandAt : List Slot → ℕ → Part → Type 0
  StandAt ss k part = (j : ℕ) (d : Decision) → slice_get part j ≡ Some d → slice_get ss (k + j) ≡ Some d.slot

  count_at : (ss : List Slot) (k : ℕ) (d : Decision) (ws : List Width) → slice_get ss k ≡ Some d.slot
      → count_by (test k d) (map (known ss) ws) ≡ count_by (λ w. is_breakable offers w d) ws
  count_at ss k d [] at = refl
  count_at ss k d (w ∷ ws) at =
      count-cons (test k d) (known ss w) (map (known ss) ws)
      ∙ (ap₂ (λ b n. count_one b + n) (same ss k d w at) (count_at ss k d ws at)
      ∙ sym (count-cons (λ w. is_breakable offers w d) w ws))

  slot_by_slot : (ss : List Slot) (k : ℕ) (part : Part) (ws : List Width) → StandAt ss k part
      → break_apart test k part (map (known ss) ws) ≡ list_all (one_at offers ws) part
  slot_by_slot ss k [] ws stand = refl
  slot_by_slot ss k (d ∷ part) ws stand =
      let z : k + 0 ≡ k = omega arith in
      let here : slice_get ss k ≡ Some d.slot = subst (λ n. slice_get ss n ≡ Some d.slot) z (stand 0 d refl) in
      ap₂ (λ n b. nat_lt n 2 && b) (count_at ss k d ws here)
      (slot_by_slot ss (k + 1) part ws (λ j e at. let s : k + suc j ≡ (k + 1) + j = omega arith in subst (λ n. slice_get ss n ≡ Some e.slot) s (stand (suc j) e at)))

  stand_whole : (part : Part) → StandAt (map (λ d. d.slot) part) 0 part
  stand_whole part j d at = let z : 0 + j ≡ j = omega arith in subst (λ n. slice_get (map (λ d. d.slot) part) n ≡ Some d.slot) (sym z) (got part j at)
    where
      got : (part : Part) (j : ℕ) → slice_get part j ≡ Some d → slice_get (map (λ d. d.slot) part) j ≡ Some d.slot
      got [] j at = absurd (cc)
      got (e ∷ part) zero at = let same : e ≡ d = cc in ap (λ (x : Decision). Some x.slot) same
      got (e ∷ part) (suc j) at = got part j at

  pub same_apart : (part : Part) (ws : List Width) → break_apart test 0 part (map (known (map (λ d. d.slot) part)) ws) ≡ are_apart offers part ws
  same_apart part ws = slot_by_slot (map (λ d. d.slot) part) 0 part ws (stand_whole part) ∙ pair_by_pair offers part ws
