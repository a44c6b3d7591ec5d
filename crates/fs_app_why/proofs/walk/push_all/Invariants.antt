use Rattle.std.proofs.Common.{◌≡◌, ◌++◌}
use Rattle.std.proofs.Common.{vec_len}
use Rattle.fs_model.specs.declared.test.Test.{Test}
use Rattle.fs_region_refutation.specs.Views.{regions_of, AreOf}
use Rattle.fs_region_refutation.specs.inner.Stacks.{stacked}
use Rattle.fs_app_why.proofs.walk.push_all.Given as goal

abbrev pub invariant-loop-region : goal.invariant-loop-region
invariant-loop-region l =
    (regions_of l.left.items ++ stacked l.stack.items ≡ regions_of l.initial.left.items ++ stacked l.initial.stack.items)
    × ((t : Test) → AreOf t l.initial.left.items → AreOf t l.initial.stack.items → AreOf t l.left.items × AreOf t l.stack.items)

abbrev pub decreases-loop-region : goal.decreases-loop-region
decreases-loop-region l = vec_len l.left
