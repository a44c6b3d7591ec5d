use Rattle.std.proofs.Common.{◌≡◌, ap, sym, ◌∙◌, subst, false}
use Rattle.std.proofs.lemmas.Result.{IfOk-weaker}
use Rattle.serde_json.specs.Written.{has_float, compact_text}
use Rattle.fs_app_test.proofs.Whole.{no_floats}
use Rattle.fs_app_test.proofs.objects.object_text.Goals as goal

pub returns : goal.returns
returns c =
    let is = c.in_ok-value.ensures in
    let whole = subst (λ d. has_float d ≡ false) (sym is) (no_floats c.args.expects c.args.line.now) in
    IfOk-weaker c.to_string.result _ _ (λ s h. h whole ∙ ap compact_text is) c.to_string.ensures.text
