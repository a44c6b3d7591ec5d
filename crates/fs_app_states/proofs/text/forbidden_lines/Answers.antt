use Rattle.std.proofs.Common.{string_bytes}
use Rattle.fs_app_states.specs.Compared.{forbidden_line}
use Rattle.fs_app_states.specs.Tallies.{counted}
use Rattle.fs_app_states.proofs.Joined.{joined_next}
use Rattle.fs_app_states.proofs.text.forbidden_lines.Goals as goal

pub loop-row-preserved : goal.loop-row-preserved
loop-row-preserved c =
    joined_next (λ row. forbidden_line c.args.locations.now c.args.columns.now (counted row)) c.args.rows.now c.loop-row.row-index
    c.row-item.result (string_bytes c.loop-row.text) (string_bytes c.push_forbidden.new.text) c.loop-row-test.true c.row-item.is
    c.in_ok-push_forbidden.ensures c.loop-row.invariant
