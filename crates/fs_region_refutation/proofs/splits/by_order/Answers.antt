use Rattle.std.proofs.Common.{ap, subst, sym}
use Rattle.std.proofs.lemmas.List.Elements.{All-nil}
use Rattle.fs_cert_evidence.specs.Splits.{with_order}
use Rattle.fs_cert_evidence.specs.Trees.{is_open}
use Rattle.fs_region_refutation.specs.Views.{region_of, regions_of, AreOf, IsOf}
use Rattle.fs_region_refutation.proofs.Lists.{both_added}
use Rattle.fs_region_refutation.proofs.splits.by_order.Goals as goal

pub returns : goal.returns
returns c =
    let t = c.args.basis.now in
    let old = region_of c.args.region.now in
    let none : AreOf t c.new-left.result.items = subst (AreOf t) (sym c.new-left.ensures.items) (All-nil (IsOf t)) in
    record {
      regions = both_added (is_open t) _ _ _ (region_of c.in_ok-with_order.field-0) (region_of c.in_ok-with_order-2.field-0)
          (with_order c.args.first c.args.second old) (with_order c.args.second c.args.first old)
          (ap regions_of c.new-left.ensures.items) c.in_ok-add_open.ensures.regions c.in_ok-add_open-2.ensures.regions
          c.in_ok-with_order.ensures.region c.in_ok-with_order-2.ensures.region;
      of = c.in_ok-add_open-2.ensures.of (c.in_ok-add_open.ensures.of none (c.in_ok-with_order.ensures.of t c.requires))
          (c.in_ok-with_order-2.ensures.of t c.requires);
    }
