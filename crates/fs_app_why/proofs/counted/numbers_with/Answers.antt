use Rattle.std.proofs.Common.{◌+◌, ◌++◌, ◌∙◌, arith, ap, flat_map, length, sym}
use Rattle.std.specs.List.{range_with_len}
use Rattle.fs_model.proofs.Numbered.{flat_map_range_more}
use Rattle.fs_app_why.specs.Counted.{number_if, number_of}
use Rattle.fs_app_why.proofs.counted.numbers_with.Goals as goal

pub loop-number-preserved : goal.loop-number-preserved
loop-number-preserved c =
    let one = number_of c.args.telling c.args.kinds.now c.args.key c.args.in_told in
    let number = c.loop-number.number in
    c.in_ok-push_number.ensures
    ∙ ap (λ is. c.loop-number.numbers.items ++ number_if is (number + 1)) c.is_counted.ensures
    ∙ ap (λ numbers. numbers ++ one number) c.loop-number.invariant
    ∙ sym (flat_map_range_more one number)

pub returns : goal.returns
returns c =
    c.loop-number.invariant
    ∙ ap (λ n. flat_map (number_of c.args.telling c.args.kinds.now c.args.key c.args.in_told) (range_with_len 0 n))
    (omega (arith, c.loop-number-test.false, c.loop-number.auto.number-end))
