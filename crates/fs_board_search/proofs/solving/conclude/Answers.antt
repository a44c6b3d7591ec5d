use Rattle.std.proofs.Common.{rules, ◌∙◌, Option, IfSome, MatchOption, sym, ap, subst}
use Rattle.fs_board_offers.specs.Offers.{Offers}
use Rattle.fs_model.specs.declared.test.Test.{Test}
use Rattle.fs_board_offers.specs.Sizes.{HasNoRunFault}
use Rattle.fs_board_offers.specs.Questions.{Question}
use Rattle.fs_board.specs.View.{Search}
use Rattle.fs_board_search.specs.Answers.{IsAnswer, IsAtAnEnd, IsAtLimit, IsBoardOf}
use Rattle.fs_board_search.specs.Histories.{GoesOn}
use Rattle.fs_board_search.proofs.Ends.{handed, limit-fault, limit-met, limit-not-memory, not_limit, solve-handed}
use Rattle.fs_board_search.proofs.solving.conclude.Goals as goal

pub returns-in_err-solved-in-Err-NodeLimit-clause-err : goal.returns-in_err-solved-in-Err-NodeLimit-clause-err
returns-in_err-solved-in-Err-NodeLimit-clause-err g c =
    let s = c.args.board in
    let there = c.in-Err-NodeLimit.ensures.err (limit-not-memory c.in-Err-NodeLimit.field-0 c.in-Err-NodeLimit.field-0-is) in
    let same = c.deref-in-Err-NodeLimit.ensures ∙ sym c.requires.same in
    let clean = subst HasNoRunFault (sym c.requires.same) c.requires.clean in
    handed c.from_residual-in_err-solved-in-Err-NodeLimit.result _ _ c.from_residual-in_err-solved-in-Err-NodeLimit.ensures.1
    (λ other. limit-fault s.question c.deref-in-Err-NodeLimit.result.now s.board.limit _ same clean
    (limit-met s c.in-Err-NodeLimit.field-0 c.in-Err-NodeLimit.field-0-is clean there) (c.in_err-solved-in-Err-NodeLimit.ensures.err other))

pub returns-in-Err-NodeLimit-clause-ok : goal.returns-in-Err-NodeLimit-clause-ok
returns-in-Err-NodeLimit-clause-ok g c =
    let answer = c.in_ok-solved-in-Err-NodeLimit.solved.answer in
    let priced = ap (λ (q : Question). q.offers) c.in-Err-NodeLimit.ensures.goes.question in
    subst (λ (t : Test). IsAnswer t c.args.board.question.offers answer) (c.deref-in-Err-NodeLimit.ensures ∙ sym c.requires.same)
    (subst (λ (offers : Offers). IsAnswer c.deref-in-Err-NodeLimit.result.now offers answer) priced c.in_ok-solved-in-Err-NodeLimit.ensures.ok)

pub returns-in-Err-NodeLimit-clause-rests : goal.returns-in-Err-NodeLimit-clause-rests
returns-in-Err-NodeLimit-clause-rests g c =
    let s = c.args.board in
    let solved = c.in_ok-solved-in-Err-NodeLimit.solved in
    let there = c.in-Err-NodeLimit.ensures.err (limit-not-memory c.in-Err-NodeLimit.field-0 c.in-Err-NodeLimit.field-0-is) in
    let same = c.deref-in-Err-NodeLimit.ensures ∙ sym c.requires.same in
    let clean = subst HasNoRunFault (sym c.requires.same) c.requires.clean in
    subst (λ (b : Option Search). MatchOption b (IsAtLimit s.question s.board.limit solved.answer) (IsBoardOf s.question s.board.limit solved.answer))
    (sym c.in_ok-solved-in-Err-NodeLimit.ensures.board) (record {
      large = limit-met s c.in-Err-NodeLimit.field-0 c.in-Err-NodeLimit.field-0-is clean there;
      ends = subst (λ (t : Test). IsAtAnEnd t solved.answer) same c.in_ok-solved-in-Err-NodeLimit.ensures.ends;
    })

pub returns-in-Err-NodeLimit-clause-goes : goal.returns-in-Err-NodeLimit-clause-goes
returns-in-Err-NodeLimit-clause-goes g c =
    subst (λ (b : Option Search). IfSome b (GoesOn c.args.board)) (sym c.in_ok-solved-in-Err-NodeLimit.ensures.board) tt

pub returns-in_err-answer-in-Ok-clause-err : goal.returns-in_err-answer-in-Ok-clause-err
returns-in_err-answer-in-Ok-clause-err g c =
    solve-handed c.from_residual-in_err-answer-in-Ok.result _ c.deref.result.now c.args.board.question c.args.board.board.limit
    (c.deref.ensures ∙ sym c.requires.same) c.from_residual-in_err-answer-in-Ok.ensures.1 c.in_err-answer-in-Ok.ensures.err

pub returns : goal.returns
returns g c = record {
  ok = tt;
  rests = tt;
  goes = tt;
  err = not_limit c.args.board c.in-Err.fault (λ limit. search rules) c.in-Err.ensures.err;
}
