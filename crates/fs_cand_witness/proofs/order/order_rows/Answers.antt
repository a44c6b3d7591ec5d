use Rattle.std.proofs.Common.{◌≡◌, ◌-◌, ◌+◌, ◌<◌, ◌∷◌, ◌∙◌, ◌==◌, ◌&&◌, ◌||◌, sym, ap, arith, drop, length, slice_index_or}
use Rattle.std.proofs.lemmas.List.{drop_more}
use Rattle.fs_model.specs.Numbers.{has_number, stands_before}
use Rattle.fs_cand_witness.specs.Edges.{has_bit, has_edge}
use Rattle.fs_cand_witness.proofs.Bits.{bit_set_test}
use Rattle.fs_cand_witness.proofs.Listing.{has_at, row_before, bit_before}
use Rattle.fs_cand_witness.proofs.order.order_rows.Goals as goal

pub bounds-numbers-left : goal.bounds-numbers-left
bounds-numbers-left c = omega (arith, c.loop-left.invariant.0, c.loop-left-test.true)

pub add_row-requires : goal.add_row-requires
add_row-requires c =
    let low : c.loop-left.left - 1 < length c.args.numbers.now = omega (arith, c.loop-left.invariant.0, c.loop-left-test.true) in
    let small = c.requires _ (has_at c.args.numbers.now (c.loop-left.left - 1) low) in
    omega (arith, small, c.from.ensures)

pub overflow_shl-later : goal.overflow_shl-later
overflow_shl-later c =
    let low : c.loop-left.left - 1 < length c.args.numbers.now = omega (arith, c.loop-left.invariant.0, c.loop-left-test.true) in
    c.requires _ (has_at c.args.numbers.now (c.loop-left.left - 1) low)

pub loop-left-preserved : goal.loop-left-preserved
loop-left-preserved c =
    let numbers = c.args.numbers.now in
    let left = c.loop-left.left in
    let later = c.loop-left.later in
    let rest = drop left numbers in
    let number = slice_index_or numbers (left - 1) 0 in
    let low : left - 1 < length numbers = omega (arith, c.loop-left.invariant.0, c.loop-left-test.true) in
    let small = c.requires _ (has_at numbers (left - 1) low) in
    let next : left - 1 + 1 ≡ left = omega (arith, c.loop-left-test.true) in
    let split : drop (left - 1) numbers ≡ number ∷ rest =
    drop_more numbers (left - 1) 0 low ∙ ap (λ k. number ∷ drop k numbers) next in (
      omega (arith, low),
      (λ a b.
          c.add_row.ensures a b ∙ (ap (λ n. has_edge c.loop-left.rows a b || ((a == n) && has_bit later b)) c.from.ensures
          ∙ (row_before number rest later a b (has_edge c.loop-left.rows a b) (c.loop-left.invariant.1 a b) (c.loop-left.invariant.2 b)
          ∙ ap (λ ns. stands_before ns a b) (sym split)))),
      (λ a.
          bit_set_test later number a small ∙ (bit_before number rest a (has_bit later a) (c.loop-left.invariant.2 a)
          ∙ ap (λ ns. has_number ns a) (sym split))),
    )
