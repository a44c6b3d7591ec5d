use Rattle.std.proofs.Common.{◌∙◌, sym, refl}
use Rattle.std.specs.Str.Parse.{digits_value}
use Rattle.fs_kinds.proofs.PlaceNames.{parsed}
use Rattle.fs_kinds.proofs.place.read_number.Goals as goal

pub returns-then-is_numeral-clause-some : goal.returns-then-is_numeral-clause-some
returns-then-is_numeral-clause-some c =
    let numeral = sym c.if-is_numeral.ensures in
    (digits_value 10 c.args.digits.now, record { numeral = numeral; value = refl }, c.ok.ensures.value ∙ parsed c.args.digits.now c.parse.result c.parse.ensures.value.0 numeral)
