use Rattle.std.proofs.Common.{◌≡◌, Option, None, Some, MatchOption, sym, subst}
use Rattle.fs_kinds.specs.declared.kind.Kind.TheVariants.{RwRw}
use Rattle.fs_kinds.specs.Placement.{all_with}
use Rattle.fs_model.specs.declared.test.Test.{Test}
use Rattle.fs_model.specs.Slots.{slots}
use Rattle.fs_judge.specs.Verdicts.{IsVerdict}
use Rattle.fs_board_search.specs.declared.answer.Answer.{Answer}
use Rattle.fs_board_search.specs.declared.answer.Answer.TheVariants as answer
use Rattle.fs_board_search.specs.Answers.{IsAnswer, placement_of}
use Rattle.fs_board_search.proofs.Ends.{all-allowed, all-shown}
use Rattle.fs_board_search.proofs.solving.answer_of.Goals as goal

pub unreachable-requires : goal.unreachable-requires
unreachable-requires c =
    let t = c.args.problem.now in
    let s = c.args.board.now in
    let refuted = subst (IsVerdict t (all_with (Some RwRw) (slots t))) c.in_default-verdict.is c.in_ok-verdict.ensures.ok in
    let nothing : s.board.bound ≡ None =
    subst (λ (found : Option Answer). MatchOption found (s.board.bound ≡ None) (λ a. IsAnswer s.question.test s.question.offers a × (s.board.bound ≡ placement_of a)))
    c.in_default.is c.in_ok-answer.ensures.ok in
    refuted.2 (all-allowed s t c.requires.same c.log-legal.ensures.offers c.requires.slots c.requires.top c.log-legal.ensures.legal c.requires.finished (sym nothing))

pub returns-clause-ok : goal.returns-clause-ok
returns-clause-ok c =
    let t = c.args.problem.now in
    let w = c.in-Allowed.witness in
    subst (λ (u : Test). IsAnswer u c.args.board.now.question.offers (answer.None w)) (sym c.requires.same)
    (all-shown t w (subst (IsVerdict t (all_with (Some RwRw) (slots t))) c.in-Allowed.is c.in_ok-verdict.ensures.ok))
