use Rattle.std.proofs.Common.{◌≡◌, IfNone, Some, rules, subst}
use Rattle.fs_model.specs.Allows.{no_fences}
use Rattle.fs_report.specs.Given.{given}
use Rattle.fs_app_test.specs.SaidVerdicts.{witness_in}
use Rattle.fs_app_why.specs.Why.{IsNotShown}
use Rattle.fs_app.proofs.Spoken.{is_shown}
use Rattle.fs_app.proofs.telling.push_shown.Goals as goal

pub unreachable-requires-in-None : goal.unreachable-requires-in-None
unreachable-requires-in-None c =
    let test = c.args.test.now in
    let w = given c.as_slice-choices.result.now c.as_slice-order.result.now in
    let has : witness_in c.args.line.now.said.witness ≡ Some w = search rules in
    is_shown c.args.line.now c.requires.allowed test w c.requires.judged has
    (subst (λ found. IfNone found (IsNotShown no_fences test w)) c.in-None.is c.in_ok-told.ensures.none)
