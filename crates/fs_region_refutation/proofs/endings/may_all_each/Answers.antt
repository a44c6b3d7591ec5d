use Rattle.std.proofs.Common.{◌∙◌, ℕ, map, ap}
use Rattle.fs_region_refutation.specs.Views.{region_of}
use Rattle.fs_region_refutation.specs.inner.Each.{may_all_with}
use Rattle.fs_region_refutation.proofs.endings.may_all_each.Goals as goal

pub returns : goal.returns
returns c =
    let region = region_of c.args.region.now in
    c.in_ok-marks.ensures
    ∙ ap (λ (hart : ℕ). map (may_all_with c.args.basis.now hart region region.wanted) (region.runs hart)) c.in_ok-names.ensures.hart
