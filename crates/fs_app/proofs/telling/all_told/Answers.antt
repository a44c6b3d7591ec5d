use Rattle.std.proofs.Common.{◌≡◌, ◌∙◌, ◌+◌, ◌<◌, [], ◌∷◌, ◌++◌, ap, arith, length, map, string_bytes, subst, sym, take}
use Rattle.std.specs.List.{slice_index_or}
use Rattle.std.proofs.lemmas.List.{length-take-le, take_more}
use Rattle.fs_app_test.specs.Judging.{IsJudged}
use Rattle.fs_app.specs.Telling.{AreTold, IsTestTold}
use Rattle.fs_app.proofs.Told.{at_place, one_more}
use Rattle.fs_app.proofs.telling.all_told.Goals as goal

pub push_told-requires : goal.push_told-requires
push_told-requires c =
    let lines = c.args.lines.now in
    let tests = map (λ test. test.items) c.args.tests.now in
    let n = c.loop-number.number in
    let line = c.index-lines-number.result in
    subst (λ bytes. IsJudged line bytes) (sym c.test_at.ensures)
    (subst (λ this. IsJudged this (slice_index_or tests n [])) (sym c.index-lines-number.is)
    (at_place IsJudged lines tests n line [] c.requires (omega arith)))

pub loop-number-preserved : goal.loop-number-preserved
loop-number-preserved c =
    let lines = c.args.lines.now in
    let tests = map (λ test. test.items) c.args.tests.now in
    let n = c.loop-number.number in
    let line = c.index-lines-number.result in
    let low : n < length lines = omega arith in
    let long : 0 + length (take n lines) ≡ n = omega (arith, length-take-le n lines (omega arith)) in
    let told = c.in_ok-push_told.ensures in
    let whole = string_bytes c.push_told.new.text in
    subst (λ those. AreTold c.args.telling those tests whole)
    (sym (take_more lines n line low ∙ ap (λ those. take n lines ++ those ∷ []) (sym c.index-lines-number.is)))
    (one_more c.args.telling tests 0 n (take n lines) line (string_bytes c.loop-number.text) told.0 whole long c.loop-number.invariant
    (subst (λ bytes. IsTestTold c.args.telling line bytes told.0) c.test_at.ensures told.1) told.2)
