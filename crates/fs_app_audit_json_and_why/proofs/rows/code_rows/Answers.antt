use Rattle.std.proofs.Common.{◌++◌, ◌∙◌, arith, ap, flat_map}
use Rattle.fs_model.proofs.Numbered.{numbered_end, numbered_flat}
use Rattle.fs_app_audit.specs.Report.{line_of}
use Rattle.fs_app_audit_json_and_why.specs.Rows.{instruction_row, place_of, row_of}
use Rattle.fs_app_audit_json_and_why.proofs.rows.code_rows.Goals as goal

pub loop-at-preserved : goal.loop-at-preserved
loop-at-preserved c =
    let before = c.loop-at.rows.items in
    let hart = c.args.hart in
    let at = c.loop-at.at in
    let item = c.index-code-at.result in
    numbered_flat (instruction_row c.args.prices.now c.args.lines.now c.args.placement.now hart c.args.code.now) c.args.code.now
    at item before _ (omega arith) c.index-code-at.is
    (c.in_ok-push_row.ensures
    ∙ ap (λ line. before ++ row_of line (place_of hart at) item c.advice_in_place-advice.result) c.line_of-line.ensures
    ∙ ap (λ found. before ++ row_of (line_of c.args.lines.now hart at) (place_of hart at) item found) c.advice_in_place-advice.ensures)
    c.loop-at.invariant

pub returns : goal.returns
returns c =
    c.loop-at.invariant
    ∙ ap (flat_map (instruction_row c.args.prices.now c.args.lines.now c.args.placement.now c.args.hart c.args.code.now))
    (numbered_end c.args.code.now c.loop-at.at (omega arith))
