use Rattle.std.proofs.Common.{Bool, List, sym, ◌∙◌, ap}
use Rattle.std.specs.Prelude.{slice_get}
use Rattle.fs_region_refutation.specs.Views.{region_of}
use Rattle.fs_region_refutation.specs.inner.Each.{is_ending}
use Rattle.fs_region_refutation.proofs.Quiet.{none_such}
use Rattle.fs_region_refutation.proofs.endings.others_may.Goals as goal

pub returns-then-is_marked : goal.returns-then-is_marked
returns-then-is_marked c = λ t are.
    none_such c.args.location (is_ending c.args.ending) (region_of c.args.region.now) c.args.names.now.last.others
    (are.others c.args.location
    (sym (ap (λ (marks : List Bool). slice_get marks c.args.location) c.deref.ensures.value) ∙ c.is_marked.ensures c.if-is_marked.true))
