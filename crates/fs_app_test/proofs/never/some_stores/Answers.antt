use Rattle.std.proofs.Common.{◌≡◌, sym, ◌∙◌, rules, tests}
use Rattle.std.proofs.lemmas.Iterator.{YieldsList-from_slice}
use Rattle.std.proofs.lemmas.Iterator.Search.{any_from_yields_List}
use Rattle.std.specs.List.{list_any}
use Rattle.fs_region_refutation.specs.Alone.{RunOf}
use Rattle.fs_region_refutation.proofs.Lists.{any_seen}
use Rattle.fs_app_test.specs.Words.{stores_word}
use Rattle.fs_app_test.proofs.never.some_stores.Goals as goal

pub returns : goal.returns
returns c =
    let test = list_any (stores_word c.args.location c.args.word) in
    let chain : c.any.result ≡ list_any (λ run. test run.steps) c.args.runs.now =
    any_from_yields_List (λ (run : RunOf). test run.steps) _ _ c.any.result c.any.ensures.ran (YieldsList-from_slice c.args.runs.now cc) (λ x b q k. search (rules, tests)) in
    chain ∙ sym (any_seen (λ (run : RunOf). run.steps) test c.args.runs.now)
