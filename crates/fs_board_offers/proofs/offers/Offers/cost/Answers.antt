use Rattle.std.proofs.Common.{◌≡◌, ◌<◌, ℕ, arith, length, get_or, subst, refl}
use Rattle.std.proofs.lemmas.List.Sums.{sum_by_more}
use Rattle.fs_kinds.specs.Slot.{IsSlot}
use Rattle.fs_board_offers.specs.Offers.{entry_cost}
use Rattle.fs_kinds.proofs.Entries.{count-before, IsCounted, blank}
use Rattle.fs_board_offers.proofs.offers.Offers.cost.Goals as goal

low : (c : goal.After-entry_cost-total) → c.loop-entry.entry-index < length c.args.placement.now
low c = rw c.as_slice-entry-items.ensures.entries at c.loop-entry-test.true

-- the entry of this turn has at least as many slots below it as there were turns
counted : (c : goal.After-entry_cost-total) → IsCounted c.loop-entry.entry-index (get_or c.args.placement.now c.loop-entry.entry-index blank).slot
counted c =
    let is : IsSlot (get_or c.args.placement.now c.loop-entry.entry-index blank).slot = rw c.as_slice-entry-items.ensures.entries at c.entry_cost-total.ensures.in_range in
    count-before c.args.placement.now c.loop-entry.entry-index blank c.as_slice-entry-items.ensures.rising (low c) c.loop-entry.invariant.counted is

pub overflow_add-total : goal.overflow_add-total
overflow_add-total c =
    let f = counted c in
    omega (arith, f.0, f.1.0, f.1.1)

pub loop-entry-preserved : goal.loop-entry-preserved
loop-entry-preserved c = record {
  so_far =
      (let more = sum_by_more (entry_cost c.args.self.now) c.args.placement.now c.loop-entry.entry-index blank (low c) in
      let value = rw c.as_slice-entry-items.ensures.entries at c.entry_cost-total.ensures.value in
      rw (more, ← c.loop-entry.invariant.so_far, value) refl);
  bound = omega arith;
  counted = λ k last.
      let same : c.loop-entry.entry-index ≡ k = omega arith in
      let P : ℕ → Type 0 = λ i. IsCounted i (get_or c.args.placement.now i blank).slot in
      subst P same (counted c);
}
