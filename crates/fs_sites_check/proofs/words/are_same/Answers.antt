use Rattle.std.proofs.Common.{◌≡◌, ◌<◌, true, length, string_bytes, arith}
use Rattle.fs_sites_check.proofs.Lists.{same-more}
use Rattle.fs_sites_check.proofs.words.are_same.Goals as goal

pub loop-number-preserved : goal.loop-number-preserved
loop-number-preserved c =
    let words = c.args.words.now in
    let others = c.args.others.now in
    let number = c.loop-number.number in
    let test = c.loop-number-test.true in
    let same = c.if-words-others.false in
    let low : number < length words = omega (arith, test) in
    let within : number < length others = omega (arith, test, same) in
    let passes : c.is_same.result ≡ true = grind (arith, c.if-not-is_same.false) in
    same-more string_bytes words others number c.index-words-number.result c.index-others-number.result low within c.index-words-number.is
    c.index-others-number.is c.loop-number.invariant (c.is_same.ensures passes)
