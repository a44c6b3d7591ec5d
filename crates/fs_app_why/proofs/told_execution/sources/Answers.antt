use Rattle.std.proofs.Common.{◌∙◌}
use Rattle.fs_check.specs.Ordered.{runs_in}
use Rattle.fs_app_why.proofs.Numbered.{same_sources}
use Rattle.fs_app_why.proofs.told_execution.sources.Goals as goal

pub returns : goal.returns
returns c =
    let t = c.args.test.now in
    let o = c.args.ordered.now in
    c.new.ensures
    ∙ same_sources t o c.requires c.in_ok-sources.sources.items
    (c.in_ok-sources.ensures.items ∙ c.sources.ensures (runs_in t o) (c.requires.operations ∙ c.requires.made.operations))
