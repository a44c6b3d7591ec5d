use Rattle.std.proofs.Common.{◌≡◌, ◌∙◌, ap, [], length, get_or-set_other, arith}
use Rattle.std.specs.Arc.{arc_value}
use Rattle.std.proofs.Math.ListN.{set}
use Rattle.std.proofs.lemmas.List.{map-set, length-map, set_past}
use Rattle.fs_region_refutation.specs.declared.region.Region.{Region}
use Rattle.fs_region_refutation.specs.Views.{lists_in, at_hart, Shares}
use Rattle.fs_region_refutation.proofs.Regions.{set_runs, same_runs, set_or_past_of}
use Rattle.fs_region_refutation.proofs.region.Region.with_runs.Goals as goal

pub returns : goal.returns
returns c =
    let old = c.args.self.now in
    let hart = c.args.hart in
    let shared = c.in_ok-region.region in
    let new : Region = record {
      runs = c.set.new.lists;
      sources = shared.sources;
      orders = shared.orders;
      wanted = shared.wanted;
    } in
    let shares : Shares old new = record {
      sources = c.in_ok-region.ensures.rest.sources;
      orders = c.in_ok-region.ensures.rest.orders;
      wanted = c.in_ok-region.ensures.rest.wanted;
    } in
    let is : lists_in new.runs.items ≡ set (lists_in old.runs.items) hart c.args.runs =
    ap lists_in c.set.ensures
    ∙ map-set arc_value shared.runs.items hart c.in_ok-runs.runs
    ∙ ap (λ lists. set lists hart (arc_value c.in_ok-runs.runs)) c.in_ok-region.ensures.lists
    ∙ ap (set (lists_in old.runs.items) hart) c.in_ok-runs.ensures.ok in
    let long : length (lists_in old.runs.items) ≡ length old.runs.items = length-map old.runs.items arc_value in
    record {
      hart = λ low. set_runs old new shares hart c.args.runs (omega (arith, low, long)) is;
      past = λ high. same_runs old new shares (is ∙ set_past (lists_in old.runs.items) hart c.args.runs (omega (arith, high, long)));
      others = λ h differs. ap (λ lists. at_hart lists h) is ∙ get_or-set_other (lists_in old.runs.items) hart h c.args.runs [] differs;
      of = λ t of are. set_or_past_of t old new hart c.args.runs is of are;
    }
