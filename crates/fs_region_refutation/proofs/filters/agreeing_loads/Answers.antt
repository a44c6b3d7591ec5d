use Rattle.std.proofs.Common.{◌∙◌, ap}
use Rattle.std.specs.Borrow.{Bor}
use Rattle.std.specs.List.{list_any}
use Rattle.fs_cert_evidence.specs.Regions.{address_at, loaded_at, stored_at}
use Rattle.fs_cert_evidence.specs.Splits.{agree}
use Rattle.fs_region_refutation.specs.Alone.{RunOf}
use Rattle.fs_region_refutation.specs.declared.musts.Access.TheVariants.{Load}
use Rattle.fs_region_refutation.specs.Views.{runs_of}
use Rattle.fs_region_refutation.specs.inner.Pairs.{is_among, pair_at}
use Rattle.fs_region_refutation.proofs.Pairs.{among_others_back, filter_alike}
use Rattle.fs_region_refutation.proofs.filters.agreeing_loads.Goals as goal

pub returns : goal.returns
returns c =
    let at = c.args.load.at in
    let there = c.args.store.at in
    let others = runs_of c.args.others.now in
    c.in_ok-kept.ensures
    ∙ filter_alike _ (λ (run : Bor RunOf). list_any (λ other. agree run.now.steps c.args.load other c.args.store) others)
    (λ run.
    ap (λ pairs. is_among pairs (pair_at Load at run.now.steps)) c.deref.ensures.value
    ∙ c.in_ok-pairs.ensures.has (pair_at Load at run.now.steps)
    ∙ among_others_back (λ other. address_at other there) (λ other. stored_at other there) (address_at run.now.steps at) (loaded_at run.now.steps at) others)
    c.args.runs.now
