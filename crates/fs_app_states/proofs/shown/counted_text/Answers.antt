use Rattle.std.proofs.Common.{◌≡◌, ◌∙◌, ap, string_bytes}
use Rattle.std.proofs.lemmas.Result.{IfOk-weaker}
use Rattle.fs_model.specs.Condition.{condition_of}
use Rattle.fs_app_states.specs.Objects.{shown_text}
use Rattle.fs_app_states.specs.Report.{counted}
use Rattle.fs_app_states.proofs.shown.counted_text.Goals as goal

pub returns-clause-ok : goal.returns-clause-ok
returns-clause-ok c =
    let t = c.args.test.now in
    let p = c.args.placement.now in
    let columns = c.args.columns.now in
    IfOk-weaker c.shown_text.result
    (λ text. string_bytes text ≡ shown_text t p columns c.args.asked c.as_slice.result.now)
    (λ text. string_bytes text
    ≡ shown_text t p columns c.args.asked (counted columns (condition_of t.condition) c.args.asked.guarded c.args.states))
    (λ text is. is ∙ ap (shown_text t p columns c.args.asked) (c.as_slice.ensures ∙ c.in_ok-states.ensures))
    c.shown_text.ensures.ok
