use Rattle.std.proofs.Common.{◌∙◌, ap, inl, sym, subst}
use Rattle.std.specs.Prelude.{All}
use Rattle.fs_model.specs.declared.test.Test.{Test}
use Rattle.fs_model.specs.Test.{IsBounded, IsStart}
use Rattle.fs_cert_evidence.specs.CandidateFaults.{IsCandidateFault}
use Rattle.fs_app_audit.specs.Priced.{Priced}
use Rattle.fs_cert_evidence.specs.Sizes.{HasNoRunFault}
use Rattle.fs_board_search.specs.Priced.{question_of}
use Rattle.fs_board_search.proofs.PricedAnswers.{priced-fault}
use Rattle.fs_app_place_and_order.proofs.Faults.{IfErr-handed}
use Rattle.fs_app_audit.proofs.Searched.{asked-best, asked-slots, asked-test}
use Rattle.fs_app_audit.proofs.findings.best.Goals as goal

pub offered_question-requires : goal.offered_question-requires
offered_question-requires c = record { bounded = subst (λ (q : Priced). IsBounded q.test) (sym c.deref.ensures) c.requires.bounded }

pub returns-in_err-asked-clause-err : goal.returns-in_err-asked-clause-err
returns-in_err-asked-clause-err c =
    IfErr-handed c.from_residual.result _ _ c.from_residual.ensures.1 (λ other. absurd (other c.in_err-asked.ensures.err))

pub problem_of-requires-clause-bounded : goal.problem_of-requires-clause-bounded
problem_of-requires-clause-bounded c =
    let of : Priced = c.args.question.now.value in
    let is = c.in_ok-asked.ensures.ok ∙ ap (λ (q : Priced). question_of q.test q.prices) c.deref.ensures in
    subst IsBounded (sym (asked-test of.test of.prices _ is)) c.requires.bounded

pub problem_of-requires-clause-starts : goal.problem_of-requires-clause-starts
problem_of-requires-clause-starts c =
    let of : Priced = c.args.question.now.value in
    let is = c.in_ok-asked.ensures.ok ∙ ap (λ (q : Priced). question_of q.test q.prices) c.deref.ensures in
    subst (λ (t : Test). All IsStart t.starts) (sym (asked-test of.test of.prices _ is)) c.requires.starts

pub returns-in_err-problem-clause-err : goal.returns-in_err-problem-clause-err
returns-in_err-problem-clause-err c =
    let of : Priced = c.args.question.now.value in
    let is = c.in_ok-asked.ensures.ok ∙ ap (λ (q : Priced). question_of q.test q.prices) c.deref.ensures in
    IfErr-handed c.from_residual-in_err-problem.result _ _ c.from_residual-in_err-problem.ensures.1
    (λ other. inl (subst (λ (t : Test). IsCandidateFault t c.in_err-problem.field-0.0) (asked-test of.test of.prices _ is) (c.in_err-problem.ensures.err other)))

pub solve_problem-requires-clause-bounded : goal.solve_problem-requires-clause-bounded
solve_problem-requires-clause-bounded c =
    let of : Priced = c.args.question.now.value in
    let is = c.in_ok-asked.ensures.ok ∙ ap (λ (q : Priced). question_of q.test q.prices) c.deref.ensures in
    subst IsBounded (sym (asked-test of.test of.prices _ is) ∙ c.in_ok-problem.ensures.same ∙ sym c.in_ok-shared.ensures) c.requires.bounded

pub solve_problem-requires-clause-same : goal.solve_problem-requires-clause-same
solve_problem-requires-clause-same c = c.in_ok-problem.ensures.same ∙ sym c.in_ok-shared.ensures

pub solve_problem-requires-clause-slots : goal.solve_problem-requires-clause-slots
solve_problem-requires-clause-slots c =
    let of : Priced = c.args.question.now.value in
    asked-slots of.test of.prices _ (c.in_ok-asked.ensures.ok ∙ ap (λ (q : Priced). question_of q.test q.prices) c.deref.ensures)

pub solve_problem-requires-clause-clean : goal.solve_problem-requires-clause-clean
solve_problem-requires-clause-clean c =
    subst HasNoRunFault (c.in_ok-problem.ensures.same ∙ sym c.in_ok-shared.ensures) c.in_ok-problem.ensures.clean

pub returns-in_err-solved-clause-err : goal.returns-in_err-solved-clause-err
returns-in_err-solved-clause-err c =
    let of : Priced = c.args.question.now.value in
    let is = c.in_ok-asked.ensures.ok ∙ ap (λ (q : Priced). question_of q.test q.prices) c.deref.ensures in
    IfErr-handed c.from_residual-in_err-solved.result _ _ c.from_residual-in_err-solved.ensures.1
    (λ other. priced-fault of.test of.prices _ c.args.limits.nodes c.in_err-solved.field-0.0 is (c.in_err-solved.ensures.err other))

pub kept_or_first-requires-clause-same : goal.kept_or_first-requires-clause-same
kept_or_first-requires-clause-same c =
    let of : Priced = c.args.question.now.value in
    let is = c.in_ok-asked.ensures.ok ∙ ap (λ (q : Priced). question_of q.test q.prices) c.deref.ensures in
    c.deref-in-Fenced.ensures ∙ (sym c.in_ok-problem.ensures.same ∙ asked-test of.test of.prices _ is)

pub kept_or_first-requires-clause-first : goal.kept_or_first-requires-clause-first
kept_or_first-requires-clause-first c =
    let of : Priced = c.args.question.now.value in
    let is = c.in_ok-asked.ensures.ok ∙ ap (λ (q : Priced). question_of q.test q.prices) c.deref.ensures in
    (asked-best of.test of.prices _ is _ _ _ _ c.in-Fenced.is c.deref-in-Fenced-2.ensures c.in_ok-solved.ensures.ok).0

pub kept_or_first-requires-clause-cost : goal.kept_or_first-requires-clause-cost
kept_or_first-requires-clause-cost c =
    let of : Priced = c.args.question.now.value in
    let is = c.in_ok-asked.ensures.ok ∙ ap (λ (q : Priced). question_of q.test q.prices) c.deref.ensures in
    (asked-best of.test of.prices _ is _ _ _ _ c.in-Fenced.is c.deref-in-Fenced-2.ensures c.in_ok-solved.ensures.ok).1

pub returns-in_err-best-in-Fenced-clause-err : goal.returns-in_err-best-in-Fenced-clause-err
returns-in_err-best-in-Fenced-clause-err c =
    IfErr-handed c.from_residual-in_err-best-in-Fenced.result _ _ c.from_residual-in_err-best-in-Fenced.ensures.1
    (λ other. inl (c.in_err-best-in-Fenced.ensures.err other))
