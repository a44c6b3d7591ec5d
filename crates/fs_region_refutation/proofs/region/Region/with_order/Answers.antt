use Rattle.std.proofs.Common.{◌∙◌, ◌∷◌, List, ap}
use Rattle.fs_region_refutation.specs.declared.region.Ordered.{Ordered}
use Rattle.fs_region_refutation.specs.declared.region.Region.{Region}
use Rattle.fs_region_refutation.proofs.Regions.{order_is, same_of}
use Rattle.fs_region_refutation.proofs.region.Region.with_order.Goals as goal

pub returns : goal.returns
returns c =
    let old = c.args.self.now in
    let shared = c.in_ok-region.region in
    let rest = c.in_ok-region.ensures.rest in
    let known : Ordered = record { first = c.args.first; second = c.args.second } in
    let new : Region = record {
      runs = shared.runs;
      sources = shared.sources;
      orders = c.in_ok-region-2.field-0;
      wanted = shared.wanted;
    } in
    record {
      region = order_is old new c.args.first c.args.second c.in_ok-region.ensures.lists rest.sources
          (c.in_ok-region-2.ensures.ok ∙ c.in_ok-orders.ensures
          ∙ ap (λ (orders : List Ordered). known ∷ orders) (c.as_slice.ensures ∙ c.deref.ensures))
          rest.wanted;
      of = λ t. same_of t old new c.in_ok-region.ensures.lists;
    }
