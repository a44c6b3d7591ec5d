use Rattle.std.proofs.Common.{◌≡◌, ap, sym, subst, ◌∙◌, false, map, string_bytes}
use Rattle.std.proofs.lemmas.Result.{IfOk-weaker}
use Rattle.serde_json.specs.Written.{has_float}
use Rattle.fs_report.specs.Objects.{json_line}
use Rattle.fs_app_solve_and_check.specs.Check.{yes_value}
use Rattle.fs_app_solve_and_check.proofs.Whole.{yes_whole}
use Rattle.fs_app_sites.specs.Printed.{value_of}
use Rattle.fs_app_sites.proofs.Values.{whole-value}
use Rattle.fs_app_sites_check_and_audit.proofs.check_objects.yes_object.Goals as goal

pub json_line-requires : goal.json_line-requires
json_line-requires c =
    let names = map string_bytes c.args.names.now in
    let answer = value_of c.args.tests.now names c.args.answer.now in
    subst (λ d. has_float d ≡ false) (sym (c.in_ok-value.ensures ∙ ap yes_value c.in_ok-answer.ensures))
    (yes_whole answer (whole-value c.args.tests.now names c.args.answer.now))

pub returns : goal.returns
returns c =
    IfOk-weaker c.json_line.result _ _ (λ text is. is ∙ ap json_line (c.in_ok-value.ensures ∙ ap yes_value c.in_ok-answer.ensures))
    c.json_line.ensures
