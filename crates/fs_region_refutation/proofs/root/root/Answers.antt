use Rattle.std.proofs.Common.{◌≡◌, ◌∙◌, Bool, [], ◌∷◌, ap}
use Rattle.std.specs.Arc.{arc_value}
use Rattle.fs_model.specs.Condition.{condition_of}
use Rattle.fs_region_refutation.specs.declared.region.Region.{Region}
use Rattle.fs_region_refutation.specs.Runs.{runs_over}
use Rattle.fs_region_refutation.specs.Views.{lists_in, all_wanted}
use Rattle.fs_region_refutation.proofs.Whole.{root_is, all_of_test}
use Rattle.fs_region_refutation.proofs.root.root.Goals as goal

pub returns : goal.returns
returns c =
    let t = c.args.basis.now in
    let listed = c.runs.result.now in
    let region : Region = record {
      runs = c.in_ok-runs.runs;
      sources = c.in_ok-sources.sources;
      orders = c.in_ok-orders.orders;
      wanted = c.in_ok-wanted-2.wanted;
    } in
    let sources : arc_value region.sources ≡ [] = c.in_ok-sources.ensures.ok ∙ c.new-2.ensures ∙ c.new.ensures.items in
    let orders : arc_value region.orders ≡ [] = c.in_ok-orders.ensures.ok ∙ c.new-5.ensures ∙ c.new-4.ensures.items in
    record {
      region = (
        runs_over listed,
        c.runs.ensures.all,
        root_is t listed region c.in_ok-runs.ensures sources orders
            (ap all_wanted c.in_ok-wanted-2.ensures.ok ∙ c.in_ok-wanted.ensures
            ∙ ap (λ (truth : Bool). (condition_of t.condition, truth) ∷ []) c.requires),
      );
      of = all_of_test t (lists_in region.runs.items) listed c.in_ok-runs.ensures c.runs.ensures.of;
    }
