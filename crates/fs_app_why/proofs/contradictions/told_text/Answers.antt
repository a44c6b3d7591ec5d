use Rattle.std.proofs.Common.{◌++◌, ◌∙◌, arith, ap, flat_map, string_bytes, sym}
use Rattle.std.specs.List.{range_with_len}
use Rattle.fs_model.proofs.Numbered.{flat_map_range_more}
use Rattle.fs_app_why.specs.Contradictions.{numbered_text}
use Rattle.fs_app_why.proofs.contradictions.told_text.Goals as goal

pub loop-number-preserved : goal.loop-number-preserved
loop-number-preserved c =
    let one = numbered_text c.args.test.now c.args.lines.now c.args.telling c.args.kinds.now in
    let before = string_bytes c.loop-number.text in
    let number = c.loop-number.number in
    c.in_ok-push_str.ensures.bytes
    ∙ ap (λ more. before ++ more) (c.as_str.ensures.value ∙ c.in_ok-told.ensures)
    ∙ ap (λ text. text ++ one number) c.loop-number.invariant
    ∙ sym (flat_map_range_more one number)

pub returns : goal.returns
returns c =
    c.loop-number.invariant
    ∙ ap (λ n. flat_map (numbered_text c.args.test.now c.args.lines.now c.args.telling c.args.kinds.now) (range_with_len 0 n))
    (omega (arith, c.loop-number-test.false, c.loop-number.auto.number-end))
