use Rattle.std.proofs.Common.{◌∙◌, ap, List, ℕ, map}
use Rattle.std.specs.Map.{lookup}
use Rattle.fs_app_states.specs.Tallies.{is_of, with_row, entries_of}
use Rattle.fs_app_states.proofs.Tallying.{Entry, view, rising_view, exact_next}
use Rattle.fs_app_states.proofs.tally.tally_of.Goals as goal

-- src/tally.rt:47:5
pub loop-row-init : goal.loop-row-init
loop-row-init c = (
  λ s. ap (λ (es : List Entry). lookup (is_of s) (map view es)) c.new-tally.ensures.empty,
  rising_view c.new-tally.result.entries c.new-tally.ensures.ordered,
)

-- src/tally.rt:47:5
pub loop-row-preserved : goal.loop-row-preserved
loop-row-preserved c = (
  λ s. ap (lookup (is_of s)) (c.in_ok-add_row.ensures.added
      ∙ ap (λ (words : List ℕ). with_row (entries_of c.loop-row.tally) (words, c.row-item.result.times)) c.as_slice.ensures)
      ∙ exact_next c.args.rows.now c.loop-row.row-index c.row-item.result (entries_of c.loop-row.tally)
      c.loop-row-test.true c.row-item.is c.loop-row.invariant.0 s,
  c.in_ok-add_row.ensures.rising,
)
