use Rattle.std.proofs.Common.{rules}
use Rattle.fs_app.proofs.program.answer_solve.Goals as goal

pub returns : goal.returns
returns g c = record {
  test_name = search rules;
  prices_name = search rules;
  answer = search rules;
}

pub certified-requires-clause-answer : goal.certified-requires-clause-answer
certified-requires-clause-answer g c = c.in_ok-output.ensures.answer _ _ c.in_ok-found.ensures.0 c.in_ok-found.ensures.1
