use Rattle.std.proofs.Common.{◌∙◌, ap}
use Rattle.std.specs.Prelude.{not}
use Rattle.fs_region_refutation.specs.Views.{region_of}
use Rattle.fs_region_refutation.specs.inner.Each.{others_are_quiet}
use Rattle.fs_region_refutation.proofs.Quiet.{marks_more, marked}
use Rattle.fs_region_refutation.proofs.parted.others_marks.Goals as goal

pub loop-location-preserved : goal.loop-location-preserved
loop-location-preserved c =
    c.in_ok-push.ensures.items
    ∙ marks_more (others_are_quiet (region_of c.args.region.now) c.args.names.now) c.loop-location.marks.items _ c.loop-location.location c.loop-location.invariant
    (ap not c.some_store.ensures)

pub returns : goal.returns
returns c =
    marked (others_are_quiet (region_of c.args.region.now) c.args.names.now) c.loop-location.marks.items c.loop-location.location c.loop-location.invariant
