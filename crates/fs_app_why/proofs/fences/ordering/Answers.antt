use Rattle.std.proofs.Common.{◌∙◌, ◌++◌, ◌+◌, ◌-◌, ap, append_assoc, sym}
use Rattle.std.specs.List.{flat_map, range_with_len}
use Rattle.fs_region_refutation.specs.Views.{runs_of}
use Rattle.fs_app_why.specs.Fences.{ordering_at}
use Rattle.fs_app_why.proofs.Ranges.{at_first}
use Rattle.fs_app_why.proofs.fences.ordering.Goals as goal

pub loop-at-preserved : goal.loop-at-preserved
loop-at-preserved c =
    let at = c.loop-at.at in
    let here = ordering_at c.args.test.now c.args.placement.now (runs_of c.args.runs.now) c.args.first c.args.second in
    let rest = flat_map here (range_with_len (at + 1 + 1) (c.args.second.at - (at + 1))) in
    ap (λ made. made ++ rest) c.in_ok-push_at.ensures
    ∙ append_assoc c.loop-at.fences.items (here (at + 1)) rest
    ∙ ap (λ more. c.loop-at.fences.items ++ more) (sym (at_first here at c.args.second.at c.loop-at-test.true))
    ∙ c.loop-at.invariant
