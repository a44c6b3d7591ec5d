use Rattle.std.proofs.Common.{◌≤◌, length, subst}
use Rattle.fs_app_plain.proofs.ExactRuns.{exact_test, AreExactBefore}
use Rattle.fs_app_plain.proofs.words.inexact.Goals as goal

pub returns-clause-exact : goal.returns-clause-exact
returns-clause-exact c =
    let t = c.args.test.now in
    let runs = c.in_ok-runs.runs.items in
    let same = c.deref-of_hart-items.ensures.value in
    let n = c.loop-hart.hart in
    let far : length runs ≤ n = subst (λ xs. length xs ≤ n) same c.loop-hart-test.false in
    let exact : AreExactBefore t runs n = subst (λ xs. AreExactBefore t xs n) same c.loop-hart.invariant in
    λ none. exact_test t runs n c.in_ok-runs.ensures.harts c.in_ok-runs.ensures.ok far exact
