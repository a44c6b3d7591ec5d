use Rattle.std.proofs.Common.{◌∙◌, Some, subst, sym}
use Rattle.std.proofs.lemmas.List.Elements.{All-pop, All-push}
use Rattle.fs_region_refutation.specs.Views.{AreOf, IsOf}
use Rattle.fs_region_refutation.proofs.Stacks.{moved}
use Rattle.fs_app_why.proofs.walk.push_all.Goals as goal

pub loop-region-preserved : goal.loop-region-preserved
loop-region-preserved c = (
  moved c.loop-region.left.items c.pop.new.self.items c.loop-region.stack.items c.push.new.self.items c.in-Some.region c.in-Some.ensures.items c.in_ok-push.ensures.items
      ∙ c.loop-region.invariant.0,
  λ t left stack.
      let both = c.loop-region.invariant.1 t left stack in
      let parts = All-pop (IsOf t) c.loop-region.left.items c.pop.new.self.items (Some c.in-Some.region) c.in-Some.ensures.items both.0 in
      (parts.0, subst (AreOf t) (sym c.in_ok-push.ensures.items) (All-push (IsOf t) c.loop-region.stack.items c.in-Some.region both.1 parts.1)),
)
