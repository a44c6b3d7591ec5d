use Rattle.std.proofs.Common.{◌∙◌, ◌++◌, ap}
use Rattle.fs_region_refutation.specs.inner.Stacks.{stacked}
use Rattle.fs_region_refutation.proofs.walk.is_drawn.Goals as goal

pub returns-clause-regions : goal.returns-clause-regions
returns-clause-regions c drawn =
    c.in_ok-push_all.ensures.regions
    ∙ ap (λ regions. regions ++ stacked c.args.stack.now.items) c.in_ok-left_after.ensures.regions

pub returns-clause-of : goal.returns-clause-of
returns-clause-of c drawn = c.in_ok-push_all.ensures.of c.args.basis.now c.in_ok-left_after.ensures.of
