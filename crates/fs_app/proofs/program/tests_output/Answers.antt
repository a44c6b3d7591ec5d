use Rattle.std.proofs.Common.{rules}
use Rattle.fs_app.specs.Answers.{lacking}
use Rattle.fs_app.proofs.program.tests_output.Goals as goal

pub returns : goal.returns
returns c =
    lacking (search rules) c.in_ok-output.output c.in_ok-output.ensures c.denied.ensures.text c.denied.ensures.status
