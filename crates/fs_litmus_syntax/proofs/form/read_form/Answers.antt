use Rattle.std.proofs.lemmas.Result.{err_from_is_err_and}
use Rattle.fs_litmus_syntax.proofs.FormAnswering.{end_of_end}
use Rattle.fs_litmus_syntax.proofs.FormReading.{takes_form, init_refuses, header_refuses, body_refuses}
use Rattle.fs_litmus_syntax.specs.Rows.{body_of}
use Rattle.fs_litmus_syntax.proofs.form.read_form.Goals as goal

pub returns-in_err-entries-clause-bad : goal.returns-in_err-entries-clause-bad
returns-in_err-entries-clause-bad c =
    let p = err_from_is_err_and c.from_residual.result c.from_residual.ensures.1 in
    rw (p.1, p.2) (init_refuses c.args.tokens.now _ c.in_err-entries.ensures.bad)

pub returns-in_err-columns-clause-bad : goal.returns-in_err-columns-clause-bad
returns-in_err-columns-clause-bad c =
    let p = err_from_is_err_and c.from_residual-in_err-columns.result c.from_residual-in_err-columns.ensures.1 in
    rw (p.1, p.2) (header_refuses c.args.tokens.now _ _ c.in_ok-entries.ensures.ok c.in_ok-entries.ensures.rest _ c.in_err-columns.ensures.bad)

pub returns-in_err-body-clause-bad : goal.returns-in_err-body-clause-bad
returns-in_err-body-clause-bad c =
    let p = err_from_is_err_and c.from_residual-in_err-body.result c.from_residual-in_err-body.ensures.1 in
    let end = end_of_end c.args.tokens.now _ _ c.in_ok-entries.ensures.rest c.in_ok-columns.ensures.rest in
    rw (p.1, p.2) (body_refuses c.args.tokens.now _ _ _ _ c.in_ok-entries.ensures.ok c.in_ok-columns.ensures.ok end _ c.in_err-body.ensures.bad)

pub returns-clause-ok : goal.returns-clause-ok
returns-clause-ok c =
    takes_form _ _ _ _ _ _ (body_of c.in_ok-columns.columns c.in_ok-body.body) c.in_ok-entries.ensures.ok c.in_ok-columns.ensures.ok c.in_ok-body.ensures.ok

pub returns-clause-rest : goal.returns-clause-rest
returns-clause-rest c =
    end_of_end c.args.tokens.now _ _ c.in_ok-entries.ensures.rest (end_of_end c.in_ok-entries.rest.now _ _ c.in_ok-columns.ensures.rest c.in_ok-body.ensures.rest)
