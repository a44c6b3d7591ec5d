use Rattle.std.proofs.Common.{◌≡◌, ◌∙◌, ap, string_bytes}
use Rattle.std.specs.Arc.{arc_value}
use Rattle.std.proofs.lemmas.Result.{IfOk-weaker}
use Rattle.fs_model.specs.Condition.{condition_of}
use Rattle.fs_app_states.specs.Objects.{shown_text}
use Rattle.fs_app_states.specs.Report.{counted}
use Rattle.fs_app_states.specs.inner.Parts.{IsOfStates}
use Rattle.fs_app_states.proofs.shown.placed_states.Goals as goal

pub returns-clause-ok : goal.returns-clause-ok
returns-clause-ok c =
    let t = arc_value c.args.test.now in
    let p = c.args.placement.now in
    let columns = c.args.columns.now in
    let guarded = c.args.asked.guarded in
    let states = c.in_ok-states.states in
    IfOk-weaker c.counted_text.result
    (λ text. string_bytes text
    ≡ shown_text c.deref.result.now p columns c.args.asked (counted columns (condition_of c.deref.result.now.condition) guarded states))
    (λ text. IsOfStates t p columns c.args.asked (string_bytes text))
    (λ text is. record {
      states = states;
      are_states = c.in_ok-states.ensures.ok;
      shown = c.in_ok-states.ensures.shown;
      is_text = is ∙ ap (λ u. shown_text u p columns c.args.asked (counted columns (condition_of u.condition) guarded states)) c.deref.ensures;
    })
    c.counted_text.ensures.ok
