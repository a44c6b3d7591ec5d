use Rattle.std.proofs.Common.{◌++◌, ◌∙◌, arith, ap, flat_map}
use Rattle.fs_model.proofs.Numbered.{numbered_end, numbered_flat}
use Rattle.fs_app_audit_json_and_why.specs.Rows.{code_anew}
use Rattle.fs_app_audit_json_and_why.proofs.rows.rows_anew.Goals as goal

pub loop-hart-preserved : goal.loop-hart-preserved
loop-hart-preserved c =
    let before = c.loop-hart.rows.items in
    numbered_flat (code_anew c.args.lines.now c.args.placement.now) c.args.codes.now c.loop-hart.hart
    c.index-codes-hart.result before _ (omega arith) c.index-codes-hart.is
    (c.in_ok-extend_from_slice.ensures.items ∙ ap (λ more. before ++ more) (c.deref.ensures.value
    ∙ c.in_ok-here.ensures
    ∙ ap (λ code. code_anew c.args.lines.now c.args.placement.now (c.loop-hart.hart, code)) c.as_slice.ensures))
    c.loop-hart.invariant

pub returns : goal.returns
returns c =
    c.loop-hart.invariant
    ∙ ap (flat_map (code_anew c.args.lines.now c.args.placement.now)) (numbered_end c.args.codes.now c.loop-hart.hart (omega arith))
