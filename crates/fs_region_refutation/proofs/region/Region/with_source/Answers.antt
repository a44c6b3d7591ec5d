use Rattle.std.proofs.Common.{◌∙◌, List, ap, refl}
use Rattle.fs_region_refutation.specs.Alone.{source_of}
use Rattle.fs_region_refutation.specs.declared.region.Sourced.{Sourced}
use Rattle.fs_region_refutation.specs.declared.region.Region.{Region}
use Rattle.fs_region_refutation.specs.Views.{source_in, source_after}
use Rattle.fs_region_refutation.proofs.Regions.{source_is, same_of}
use Rattle.fs_region_refutation.proofs.region.Region.with_source.Goals as goal

pub returns : goal.returns
returns c =
    let old = c.args.self in
    let load = c.args.load in
    let source = source_of c.args.source in
    let new : Region = record {
      runs = old.runs;
      sources = c.in_ok-self.field-0;
      orders = old.orders;
      wanted = old.wanted;
    } in
    record {
      region = source_is old new load source refl
          (λ name. ap (λ (all : List Sourced). source_in all name) c.in_ok-self.ensures.ok ∙ c.in_ok-sources.ensures name
          ∙ ap (λ (known : List Sourced). source_after load source known name) (c.as_slice.ensures ∙ c.deref.ensures))
          refl refl;
      of = λ t of. of;
    }
