use Rattle.std.proofs.Common.{◌∙◌}
use Rattle.std.specs.Borrow.{Bor}
use Rattle.std.specs.List.{list_any}
use Rattle.fs_cert_evidence.specs.Regions.{address_at, loaded_at, stored_at}
use Rattle.fs_cert_evidence.specs.Splits.{agree}
use Rattle.fs_region_refutation.specs.Alone.{RunOf}
use Rattle.fs_region_refutation.specs.declared.musts.Access.TheVariants.{Store}
use Rattle.fs_region_refutation.specs.inner.Pairs.{pair_at}
use Rattle.fs_region_refutation.proofs.Pairs.{among_others, filter_alike}
use Rattle.fs_region_refutation.proofs.filters.agreeing_stores.Goals as goal

pub returns : goal.returns
returns c = λ load others loaded.
    let at = c.args.store.at in
    let there = load.at in
    c.in_ok-kept.ensures
    ∙ filter_alike _ (λ (run : Bor RunOf). list_any (λ other. agree other load run.now.steps c.args.store) others)
    (λ run.
    loaded.has (pair_at Store at run.now.steps)
    ∙ among_others (λ other. address_at other there) (λ other. loaded_at other there) (address_at run.now.steps at) (stored_at run.now.steps at) others)
    c.args.runs.now
