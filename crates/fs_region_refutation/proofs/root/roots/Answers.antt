use Rattle.std.proofs.Common.{ap, subst, sym}
use Rattle.std.proofs.lemmas.List.Elements.{All-nil}
use Rattle.fs_cert_evidence.specs.Trees.{is_open, root}
use Rattle.fs_region_refutation.specs.Views.{region_of, regions_of, AreOf, IsOf}
use Rattle.fs_region_refutation.proofs.Lists.{one_added}
use Rattle.fs_region_refutation.proofs.root.roots.Goals as goal

pub returns : goal.returns
returns c =
    let t = c.args.basis.now in
    let all = c.in_ok-all.ensures.region in
    record {
      regions = (
        all.0,
        all.1,
        one_added (is_open t) _ _ (region_of c.in_ok-all.all) (root t all.0) (ap regions_of c.new-left.ensures.items)
            c.in_ok-add_open.ensures.regions all.2,
      );
      of = c.in_ok-add_open.ensures.of (subst (AreOf t) (sym c.new-left.ensures.items) (All-nil (IsOf t))) c.in_ok-all.ensures.of;
    }
