use Rattle.std.proofs.Common.{◌≡◌, ap, sym, subst, ◌∙◌, false}
use Rattle.std.proofs.lemmas.Result.{IfOk-weaker}
use Rattle.serde_json.specs.Written.{has_float}
use Rattle.fs_report.specs.Given.{given}
use Rattle.fs_report.specs.Objects.{json_line}
use Rattle.fs_report.proofs.Values.{none_whole}
use Rattle.fs_app_solve_and_check.specs.Check.{yes_value}
use Rattle.fs_app_solve_and_check.proofs.objects.none_object.Goals as goal

pub yes_object-requires : goal.yes_object-requires
yes_object-requires c = subst (λ d. has_float d ≡ false) (sym c.in_ok-answer.ensures) (none_whole (given c.args.choices.now c.args.order.now))

pub returns : goal.returns
returns c = IfOk-weaker c.yes_object.result _ _ (λ text is. is ∙ ap (λ d. json_line (yes_value d)) c.in_ok-answer.ensures) c.yes_object.ensures
