use Rattle.std.proofs.Common.{◌≡◌, ap, sym, subst, ◌∙◌, refl, false}
use Rattle.std.proofs.lemmas.Result.{IfOk-weaker}
use Rattle.serde_json.specs.Written.{has_float}
use Rattle.fs_report.specs.Objects.{json_line}
use Rattle.fs_app_solve_and_check.proofs.objects.no_object.Goals as goal

pub json_line-requires : goal.json_line-requires
json_line-requires c = subst (λ d. has_float d ≡ false) (sym c.in_ok-value.ensures) refl

pub returns : goal.returns
returns c = IfOk-weaker c.json_line.result _ _ (λ text is. is ∙ ap json_line c.in_ok-value.ensures) c.json_line.ensures
