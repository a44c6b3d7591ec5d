use Rattle.std.proofs.Common.{ap}
use Rattle.fs_region_refutation.specs.declared.region.Region.{Region}
use Rattle.fs_region_refutation.specs.Views.{all_wanted}
use Rattle.fs_region_refutation.proofs.Regions.{wanted_is, same_of}
use Rattle.fs_region_refutation.proofs.region.Region.with_wanted.Goals as goal

pub returns : goal.returns
returns c =
    let old = c.args.self.now in
    let shared = c.in_ok-region.region in
    let rest = c.in_ok-region.ensures.rest in
    let new : Region = record {
      runs = shared.runs;
      sources = shared.sources;
      orders = shared.orders;
      wanted = c.in_ok-region-2.field-0;
    } in
    record {
      region = wanted_is old new (all_wanted c.args.wanted) c.in_ok-region.ensures.lists rest.sources rest.orders
          (ap all_wanted c.in_ok-region-2.ensures.ok);
      of = λ t. same_of t old new c.in_ok-region.ensures.lists;
    }
