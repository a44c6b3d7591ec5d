use Rattle.std.proofs.Common.{rules, ◌≡◌, ◌∙◌, ap, [], ◌∷◌, false}
use Rattle.fs_app_test.specs.Report.{json_text}
use Rattle.fs_app_audit_json_and_why.proofs.files.line_object.Goals as goal

pub returns-clause-ok : goal.returns-clause-ok
returns-clause-ok c =
    let one : c.deref.result.now ≡ c.args.line ∷ [] = search rules in
    c.in_ok-output.ensures.text ∙ ap (json_text false) one
