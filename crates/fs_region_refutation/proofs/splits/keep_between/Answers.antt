use Rattle.std.proofs.Common.{◌≡◌, ◌∙◌, Bool, List, [], filter, length, ap, subst, sym}
use Rattle.std.specs.Borrow.{Bor}
use Rattle.std.specs.List.{list_any}
use Rattle.std.proofs.lemmas.Bool.{eqb-true, ltb-true}
use Rattle.std.proofs.lemmas.List.{nil_from_length}
use Rattle.fs_model.specs.declared.step.Step.{Step}
use Rattle.fs_cert_evidence.specs.Regions.{From}
use Rattle.fs_cert_evidence.specs.Splits.{agree, keep, with_source}
use Rattle.fs_region_refutation.specs.Alone.{RunOf}
use Rattle.fs_region_refutation.specs.declared.musts.Access.TheVariants.{Load}
use Rattle.fs_region_refutation.specs.inner.Pairs.{ArePairs}
use Rattle.fs_region_refutation.specs.Views.{region_of, list_at, runs_of}
use Rattle.fs_region_refutation.proofs.Closed.{store_between, closed_between}
use Rattle.fs_region_refutation.proofs.Kept.{filter_by_kept}
use Rattle.fs_region_refutation.proofs.Lists.{filter_seen}
use Rattle.fs_region_refutation.proofs.splits.keep_between.Goals as goal

pub returns-then-is_hart-clause-none : goal.returns-then-is_hart-clause-none
returns-then-is_hart-clause-none c =
    let old = c.args.region.now in
    let load = c.args.load in
    let store = c.args.store in
    let stores : List (Bor RunOf) → List Step → Bool = λ others other. list_any (λ run. agree run load other store) (runs_of others) in
    let agreeing =
    c.in_ok-stores.ensures load (runs_of c.runs-loading.result.now)
    (subst (λ runs. ArePairs Load load.at (runs_of runs) c.args.loaded.now) (sym c.runs-loading.ensures) c.requires.loaded) in
    let kept_stores : c.in_ok-stores.stores ≡ filter (λ run. stores (list_at old load.hart) run.now.steps) (list_at old store.hart) =
    agreeing
    ∙ ap (λ others. filter (λ (run : Bor RunOf). stores others run.now.steps) c.runs-storing.result.now) c.runs-loading.ensures
    ∙ ap (filter (λ (run : Bor RunOf). stores (list_at old load.hart) run.now.steps)) c.runs-storing.ensures in
    let nothing : c.in_ok-stores.stores ≡ [] = nil_from_length c.in_ok-stores.stores (eqb-true (length c.in_ok-stores.stores) 0 (sym c.is_empty.ensures ∙ c.if-is_empty.true)) in
    closed_between load (region_of old) store c.args.basis.now c.requires.other
    (ltb-true store.hart (length c.args.basis.now.codes) (sym c.is_hart.ensures ∙ c.if-is_hart.true))
    (sym (filter_seen (λ (run : Bor RunOf). run.now.steps) (stores (list_at old load.hart)) (list_at old store.hart))
    ∙ ap runs_of (sym kept_stores ∙ nothing))

pub returns : goal.returns
returns c =
    let old = c.args.region.now in
    let load = c.args.load in
    let store = c.args.store in
    let loads : List (Bor RunOf) → List Step → Bool = λ others run. list_any (λ other. agree run load other store) (runs_of others) in
    let stores : List (Bor RunOf) → List Step → Bool = λ others other. list_any (λ run. agree run load other store) (runs_of others) in
    let agreeing =
    c.in_ok-stores.ensures load (runs_of c.runs-loading.result.now)
    (subst (λ runs. ArePairs Load load.at (runs_of runs) c.args.loaded.now) (sym c.runs-loading.ensures) c.requires.loaded) in
    let kept_stores : c.in_ok-stores.stores ≡ filter (λ run. stores (list_at old load.hart) run.now.steps) (list_at old store.hart) =
    agreeing
    ∙ ap (λ others. filter (λ (run : Bor RunOf). stores others run.now.steps) c.runs-storing.result.now) c.runs-loading.ensures
    ∙ ap (filter (λ (run : Bor RunOf). stores (list_at old load.hart) run.now.steps)) c.runs-storing.ensures in
    let kept_loads : c.in_ok-loads.loads ≡ filter (λ run. loads (list_at old store.hart) run.now.steps) (list_at c.in_ok-smaller.smaller load.hart) =
    c.in_ok-loads.ensures
    ∙ ap (λ others. filter (λ (run : Bor RunOf). loads others run.now.steps) c.runs-loading.result.now) (c.as_slice.ensures ∙ agreeing)
    ∙ filter_by_kept (λ (run : Bor RunOf). run.now.steps) (λ run other. agree run load other store) c.runs-loading.result.now c.runs-storing.result.now
    ∙ ap (λ others. filter (λ (run : Bor RunOf). loads others run.now.steps) c.runs-loading.result.now) c.runs-storing.ensures
    ∙ ap (filter (λ (run : Bor RunOf). loads (list_at old store.hart) run.now.steps))
    (c.runs-loading.ensures ∙ sym (c.in_ok-smaller.ensures.others load.hart (λ same. c.requires.other (sym same)))) in
    record {
      some = ap (with_source load (From store)) (c.in_ok-smallest.ensures.kept (loads (list_at old store.hart)) kept_loads
          ∙ ap (keep load.hart (loads (list_at old store.hart))) (c.in_ok-smaller.ensures.kept (stores (list_at old load.hart)) kept_stores))
          ∙ sym (store_between load (region_of old) store c.requires.other);
      none = tt;
      of = λ t of. c.in_ok-smallest.ensures.of (loads (list_at old store.hart)) kept_loads t
          (c.in_ok-smaller.ensures.of (stores (list_at old load.hart)) kept_stores t of);
    }
