use Rattle.std.proofs.Common.{◌∙◌, ap}
use Rattle.std.specs.Prelude.{not}
use Rattle.fs_region_refutation.specs.Views.{runs_of}
use Rattle.fs_region_refutation.specs.inner.Each.{own_are_quiet}
use Rattle.fs_region_refutation.proofs.Quiet.{marks_more, marked}
use Rattle.fs_region_refutation.proofs.parted.own_marks.Goals as goal

pub loop-location-preserved : goal.loop-location-preserved
loop-location-preserved c =
    c.in_ok-push.ensures.items
    ∙ marks_more (own_are_quiet (runs_of c.args.runs.now) c.args.names.now) c.loop-location.marks.items _ c.loop-location.location c.loop-location.invariant
    (ap not c.any_stores_there.ensures)

pub returns : goal.returns
returns c =
    marked (own_are_quiet (runs_of c.args.runs.now) c.args.names.now) c.loop-location.marks.items c.loop-location.location c.loop-location.invariant
