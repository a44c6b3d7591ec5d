use Rattle.std.proofs.Common.{◌++◌, ◌∙◌, arith, ap, flat_map, string_bytes}
use Rattle.fs_model.proofs.Numbered.{numbered_end, numbered_flat}
use Rattle.fs_app_audit.specs.Report.{advised, line_of}
use Rattle.fs_app_audit.specs.InPlace.{instruction_in_place}
use Rattle.fs_app_audit.proofs.report_in_place.code_in_place.Goals as goal

pub loop-at-preserved : goal.loop-at-preserved
loop-at-preserved c =
    let before = string_bytes c.loop-at.text in
    let hart = c.args.hart in
    let at = c.loop-at.at in
    let item = c.index-code-at.result in
    numbered_flat (instruction_in_place c.args.prices.now c.args.lines.now c.args.placement.now hart c.args.code.now) c.args.code.now
    at item before _ (omega arith) c.index-code-at.is
    (c.in_ok-push_str.ensures.bytes
    ∙ ap (λ more. before ++ more)
    (c.as_str.ensures.value
    ∙ c.in_ok-said.ensures
    ∙ ap (λ line. advised line hart at item c.advice_in_place-advice.result) c.line_of-line.ensures
    ∙ ap (λ found. advised (line_of c.args.lines.now hart at) hart at item found) c.advice_in_place-advice.ensures))
    c.loop-at.invariant

pub returns : goal.returns
returns c =
    c.loop-at.invariant
    ∙ ap (flat_map (instruction_in_place c.args.prices.now c.args.lines.now c.args.placement.now c.args.hart c.args.code.now))
    (numbered_end c.args.code.now c.loop-at.at (omega arith))
