use Rattle.std.proofs.Common.{◌++◌, ◌∙◌, arith, ap, flat_map, string_bytes}
use Rattle.fs_model.proofs.Numbered.{numbered_end, numbered_flat}
use Rattle.fs_app_audit.specs.InPlace.{code_in_place}
use Rattle.fs_app_audit.proofs.report_in_place.lines_in_place.Goals as goal

pub loop-hart-preserved : goal.loop-hart-preserved
loop-hart-preserved c =
    let before = string_bytes c.loop-hart.text in
    numbered_flat (code_in_place c.args.prices.now c.args.lines.now c.args.placement.now) c.args.codes.now c.loop-hart.hart c.index-codes-hart.result
    before _ (omega arith) c.index-codes-hart.is
    (c.in_ok-push_str.ensures.bytes ∙ ap (λ more. before ++ more) (c.as_str.ensures.value
    ∙ c.in_ok-said.ensures
    ∙ ap (λ code. code_in_place c.args.prices.now c.args.lines.now c.args.placement.now (c.loop-hart.hart, code)) c.as_slice.ensures))
    c.loop-hart.invariant

pub returns : goal.returns
returns c =
    c.loop-hart.invariant
    ∙ ap (flat_map (code_in_place c.args.prices.now c.args.lines.now c.args.placement.now)) (numbered_end c.args.codes.now c.loop-hart.hart (omega arith))
