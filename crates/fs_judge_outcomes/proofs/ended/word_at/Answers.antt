use Rattle.std.proofs.Common.{◌∙◌, ap, sym}
use Rattle.fs_check.specs.Ordered.{execution_in, runs_in}
use Rattle.fs_judge_outcomes.specs.States.{word_at}
use Rattle.fs_judge_outcomes.proofs.ended.word_at.Goals as goal

pub returns-in-Location : goal.returns-in-Location
returns-in-Location c =
    let x = runs_in c.args.test.now c.args.ordered.now in
    c.final_word.ensures.exact x c.args.ordered.now.order.listed
    (c.as_slice-in-Location.ensures ∙ c.requires.ordered.made.operations)
    (c.order.ensures x (c.requires.ordered.operations ∙ c.requires.ordered.made.operations))
    ∙ ap (word_at c.args.test.now (execution_in c.args.ordered.now)) (sym c.in-Location.is)
