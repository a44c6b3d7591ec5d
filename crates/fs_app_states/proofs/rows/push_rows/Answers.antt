use Rattle.std.proofs.Common.{sym, subst, List, ◌+◌, ◌++◌, map, take}
use Rattle.std.specs.List.{AllZip}
use Rattle.fs_app_states.specs.Rows.{IsRow}
use Rattle.fs_app_states.specs.Tallies.{counted}
use Rattle.fs_app_states.specs.declared.tally.Row.{Row}
use Rattle.fs_app_states.proofs.Matching.{zip_next}
use Rattle.fs_app_states.proofs.rows.push_rows.Goals as goal

-- src/rows.rt:164:5
pub loop-seen-preserved : goal.loop-seen-preserved
loop-seen-preserved c =
    let is_row = IsRow c.args.test.now c.args.columns.now in
    let seen = c.as_slice-seen-items.result.now in
    λ states all. subst (λ (rows : List Row). AllZip is_row (states ++ take (c.loop-seen.seen-index + 1) seen) (map counted rows))
    (sym c.in_ok-push.ensures.items)
    (zip_next is_row counted states seen c.loop-seen.rows.items c.loop-seen.seen-index c.seen-item.result c.in_ok-row_of.field-0
    c.loop-seen-test.true c.seen-item.is (c.loop-seen.invariant states all) c.in_ok-row_of.ensures)
