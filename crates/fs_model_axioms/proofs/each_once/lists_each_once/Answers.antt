use Rattle.std.proofs.Common.{◌≡◌, ◌==◌, ◌&&◌, length, take, ℕ, ◌<◌, Bool, true, false, arith, List, refl, sym, ◌∙◌, replicate, zero, suc, get_or, ap, ◌≤◌}
use Rattle.std.specs.List.{list_all}
use Rattle.std.proofs.lemmas.Bool.{eq-eqb}
use Rattle.std.proofs.lemmas.List.{length-set, get_or-take, length-take, take_all}
use Rattle.fs_model.specs.Numbers.{has_number, numbers_below}
use Rattle.fs_model_axioms.proofs.Listed.{not_listed, fails_below, table_says, entered}
use Rattle.fs_model_axioms.proofs.each_once.lists_each_once.Goals as goal

both_false : (p q : Bool) → q ≡ false → false ≡ (p && q)
both_false true q e = sym e
both_false false q e = refl

pub returns-then-count-gt256 : goal.returns-then-count-gt256
returns-then-count-gt256 c = both_false (length c.args.order.now == c.args.count) _
    (fails_below (has_number c.args.order.now) c.args.count 256 c.if-count-gt256.true (not_listed c.args.order.now 256
    (λ k low. omega (arith, c.type_inv.order k))))

none_at_first : (n k : ℕ) → get_or (replicate n false) k false ≡ false
none_at_first zero k = refl
none_at_first (suc n) zero = refl
none_at_first (suc n) (suc k) = none_at_first n k

pub loop-a-init : goal.loop-a-init
loop-a-init c = (refl, λ k below. none_at_first 256 k)

pub loop-a-preserved : goal.loop-a-preserved
loop-a-preserved c =
    let fits : get_or c.args.order.now c.loop-a.a-index 0 < 256 = omega (arith, c.type_inv.order c.loop-a.a-index) in (
      length-set c.loop-a.is_listed _ true ∙ c.loop-a.invariant.0,
      entered c.loop-a.is_listed c.args.order.now c.loop-a.a-index 256 c.loop-a.invariant.0 c.loop-a-test.true fits
          c.loop-a.invariant.1,
    )

-- the table of the whole list, cut at the count
says : (order : List ℕ) (table : List Bool) (count i : ℕ) → length order ≡ count → count ≤ 256 → length order ≤ i
    → ((length table ≡ 256) × ((k : ℕ) → k < 256 → get_or table k false ≡ has_number (take i order) k))
    → list_all (λ flag. flag) (take count table) ≡ ((length order == count) && list_all (has_number order) (numbers_below count))
says order table count i e bound past h =
    table_says (has_number order) count (take count table) (omega (arith, length-take count table, h.0))
    (λ k low. get_or-take count table k false low ∙ h.1 k (omega (arith, low))
    ∙ ap (λ ys. has_number ys k) (take_all i order past))
    ∙ sym (ap (λ b. b && list_all (has_number order) (numbers_below count)) (eq-eqb (length order) count e))

pub returns : goal.returns
returns c = c.are_all_true.ensures
    ∙ says c.args.order.now c.loop-a.is_listed c.args.count c.loop-a.a-index c.if-order-count.false c.if-count-gt256.false
    c.loop-a-test.false c.loop-a.invariant
