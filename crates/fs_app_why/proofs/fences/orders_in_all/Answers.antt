use Rattle.std.proofs.Common.{◌≡◌, ◌∙◌, sym, rules, tests}
use Rattle.std.specs.Borrow.{Bor}
use Rattle.std.specs.List.{list_all}
use Rattle.std.proofs.lemmas.Iterator.{YieldsList-from_slice}
use Rattle.std.proofs.lemmas.Iterator.Search.{all_from_yields_List}
use Rattle.std.proofs.lemmas.List.Folds.{list_all-map}
use Rattle.fs_region_refutation.specs.Alone.{RunOf}
use Rattle.fs_app_why.specs.Fences.{orders_in}
use Rattle.fs_app_why.proofs.fences.orders_in_all.Goals as goal

pub returns : goal.returns
returns c =
    let test = orders_in c.args.test.now c.args.fence c.args.first c.args.second in
    let chain : c.all.result ≡ list_all (λ run. test run.now.steps) c.args.runs.now =
    all_from_yields_List (λ (run : Bor RunOf). test run.now.steps) _ _ c.all.result c.all.ensures.ran (YieldsList-from_slice c.args.runs.now cc) (λ x b q k. search (rules, tests)) in
    chain ∙ sym (list_all-map test (λ (run : Bor RunOf). run.now.steps) c.args.runs.now)
