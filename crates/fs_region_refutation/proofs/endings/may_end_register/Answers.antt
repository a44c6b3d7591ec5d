use Rattle.std.proofs.Common.{◌≡◌, ◌∙◌, rules, tests}
use Rattle.std.proofs.lemmas.Iterator.{YieldsList-from_slice}
use Rattle.std.proofs.lemmas.Iterator.Search.{any_from_yields_List}
use Rattle.std.specs.List.{list_any}
use Rattle.fs_region_refutation.specs.inner.Asked.{ends_so}
use Rattle.fs_region_refutation.proofs.Alike.{ends_alike}
use Rattle.fs_region_refutation.proofs.endings.may_end_register.Goals as goal

pub returns : goal.returns
returns c =
    let chain : c.any.result ≡ list_any (ends_so c.args.register c.args.ending) c.args.runs.now =
    any_from_yields_List (ends_so c.args.register c.args.ending) _ _ c.any.result c.any.ensures.ran (YieldsList-from_slice c.args.runs.now cc) (λ x b q k. search (rules, tests)) in
    λ t hart are. chain ∙ ends_alike t hart c.args.register c.args.ending c.args.runs.now are
