use Rattle.fs_litmus_tokens.specs.Tokens.{views}
use Rattle.std.proofs.lemmas.Result.{err_from_is_err_and}
use Rattle.fs_litmus.proofs.Sections.{form_stops, condition_stops}
use Rattle.fs_app_error_messages.proofs.condition.read_columns.Goals as goal

pub returns-in_err-form-clause-stops : goal.returns-in_err-form-clause-stops
returns-in_err-form-clause-stops c =
    let p = err_from_is_err_and c.from_residual.result c.from_residual.ensures.1 in
    rw (p.1, p.2) (form_stops c.args.tokens.now _ c.in_err-form.ensures.bad)

pub returns-in_err-_condition-clause-stops : goal.returns-in_err-_condition-clause-stops
returns-in_err-_condition-clause-stops c =
    let p = err_from_is_err_and c.from_residual-in_err-_condition.result c.from_residual-in_err-_condition.ensures.1 in
    rw (p.1, p.2) (condition_stops (views c.args.tokens.now) _ _ _ c.in_ok-form.ensures.ok c.in_err-_condition.ensures.stops)
