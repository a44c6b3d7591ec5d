use Rattle.std.proofs.Common.{◌∙◌}
use Rattle.fs_check.specs.Ordered.{runs_in}
use Rattle.fs_app_why.proofs.ends.location_word.Goals as goal

pub returns : goal.returns
returns c =
    let x = runs_in c.args.test.now c.args.ordered.now in
    c.final_word.ensures.exact x c.args.ordered.now.order.listed
    (c.as_slice-operations.ensures ∙ c.requires.made.operations)
    (c.order.ensures x (c.requires.operations ∙ c.requires.made.operations))
