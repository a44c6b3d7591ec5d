use Rattle.std.proofs.Common.{◌∙◌, sym}
use Rattle.fs_litmus_tokens.proofs.number.numeral.Goals as goal
use Rattle.fs_litmus_tokens.proofs.Numerals.{parsed, plus}

pub returns : goal.returns
returns c =
    let plain = sym c.begins_with_plus.ensures ∙ c.if-begins_with_plus.false in
    c.ok.ensures.value ∙ parsed c.args.radix c.args.digits.now c.from_str_radix.result plain c.from_str_radix.ensures.value

pub returns-then-begins_with_plus : goal.returns-then-begins_with_plus
returns-then-begins_with_plus c = plus c.args.radix c.args.digits.now c.requires.high (sym c.begins_with_plus.ensures ∙ c.if-begins_with_plus.true)
