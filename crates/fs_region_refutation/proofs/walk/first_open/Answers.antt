use Rattle.std.proofs.Common.{◌∙◌, subst, sym}
use Rattle.std.proofs.lemmas.List.Elements.{All-nil}
use Rattle.fs_region_refutation.specs.Views.{AreOf, IsOf}
use Rattle.fs_region_refutation.proofs.Stacks.{stacked_all}
use Rattle.fs_region_refutation.proofs.walk.first_open.Goals as goal

pub returns : goal.returns
returns c =
    let t = c.args.basis.now in
    let are = c.in_ok-roots.ensures.regions in
    record {
      regions = (
        are.0,
        are.1,
        stacked_all c.in_ok-roots.field-0.items c.new-stack.result.items c.push_all.new.stack.items c.new-stack.ensures.items c.in_ok-push_all.ensures.regions
            ∙ are.2,
      );
      of = c.in_ok-push_all.ensures.of t c.in_ok-roots.ensures.of (subst (AreOf t) (sym c.new-stack.ensures.items) (All-nil (IsOf t)));
    }
