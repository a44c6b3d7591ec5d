use Rattle.std.proofs.Common.{◌≡◌, ◌∙◌, ◌&&◌, ℕ, Bool, true, Ok, List, map, filter, refl, ap, sym, rules, tests}
use Rattle.std.specs.Prelude.{not, slice_get, unwrap_or}
use Rattle.std.specs.Borrow.{Bor}
use Rattle.std.specs.List.{list_any}
use Rattle.std.proofs.lemmas.Iterator.{YieldsList-from_map, YieldsList-from_slice, items_from_collect}
use Rattle.fs_kinds.specs.declared.reason.OperationName.{OperationName as Name}
use Rattle.fs_model.specs.declared.step.Step.{Step}
use Rattle.fs_model.specs.Execution.{initial_words}
use Rattle.fs_cert_evidence.specs.Regions.{stored_at, names as names_of}
use Rattle.fs_cert_evidence.specs.Musts.{must_be, stores_such}
use Rattle.fs_region_refutation.specs.Alone.{RunOf}
use Rattle.fs_region_refutation.specs.Views.{region_of, list_at}
use Rattle.fs_region_refutation.specs.inner.Each.{is_ending, is_last, of_hart, ends_with}
use Rattle.fs_region_refutation.proofs.Lists.{map_seen}
use Rattle.fs_region_refutation.proofs.Each.{same_seen, ends_stored, ends_kept}
use Rattle.fs_region_refutation.proofs.Quiet.{own_quiet_ends}
use Rattle.fs_region_refutation.proofs.endings.ends_each.Goals as goal

pub returns-then-stored : goal.returns-then-stored
returns-then-stored c =
    let t = c.args.basis.now in
    let hart = c.args.names.now.hart in
    let region = region_of c.args.region.now in
    let stored : List Name → Bool = λ ns. list_any (λ a. list_any (stores_such c.args.location (is_ending c.args.ending) a) (region.runs a.hart)) ns in
    c.in_ok-marks.ensures
    ∙ same_seen true c.runs-runs.result.now (list_at c.args.region.now hart) c.runs-runs.ensures
    ∙ ends_stored t hart region c.args.location c.args.ending
    (sym (c.others_may-stored.ensures t c.requires ∙ ap stored c.requires.last.others) ∙ c.if-stored.true)
    (region.runs hart)

pub returns-then-is_marked : goal.returns-then-is_marked
returns-then-is_marked c =
    let t = c.args.basis.now in
    let names = c.args.names.now in
    let hart = names.hart in
    let region = region_of c.args.region.now in
    let location = c.args.location in
    let ending = c.args.ending in
    let stays = c.may_stay-begins.result in
    let stored : List Name → Bool = λ ns. list_any (λ a. list_any (stores_such location (is_ending ending) a) (region.runs a.hart)) ns in
    let kept : List Name → Bool = λ ns.
    is_ending ending (unwrap_or (slice_get (initial_words t) location) 0) && not (list_any (λ a. must_be t region stored_at a location) ns) in
    c.in_ok-marks-2.ensures
    ∙ same_seen stays c.runs-runs.result.now (list_at c.args.region.now hart) c.runs-runs.ensures
    ∙ own_quiet_ends t location ending stays hart (is_last t region) (names_of t) (region.runs hart) names.all.own c.requires.all.own
    (c.requires.own location
    (sym (ap (λ (marks : List Bool). slice_get marks location) c.deref.ensures.value) ∙ c.is_marked.ensures c.if-is_marked.true))
    ∙ ends_kept t hart region location ending stays (of_hart hart (names_of t)) (of_hart hart (filter (is_last t region) (names_of t)))
    (sym (c.others_may-stored.ensures t c.requires ∙ ap stored c.requires.last.others) ∙ c.if-stored.false)
    (c.may_stay-begins.ensures ∙ ap kept (c.as_slice.ensures ∙ c.requires.all.others))
    refl refl (region.runs hart)

pub returns : goal.returns
returns c =
    let t = c.args.basis.now in
    let names = c.args.names.now in
    let region = region_of c.args.region.now in
    let location = c.args.location in
    let ending = c.args.ending in
    let stays = c.may_stay-begins.result in
    let test : List Step → Bool = ends_with t location ending stays names.all.own names.last.own in
    let stored : List Name → Bool = λ ns. list_any (λ a. list_any (stores_such location (is_ending ending) a) (region.runs a.hart)) ns in
    let kept : List Name → Bool = λ ns.
    is_ending ending (unwrap_or (slice_get (initial_words t) location) 0) && not (list_any (λ a. must_be t region stored_at a location) ns) in
    let made : c.in_ok-marks-3.marks.items ≡ map (λ run. test run.now.steps) c.runs-runs.result.now =
    items_from_collect {E = ℕ} (Ok c.in_ok-marks-3.marks) c.in_ok-marks-3.ensures.ran
    (YieldsList-from_map _ (λ (run : Bor RunOf). test run.now.steps) (YieldsList-from_slice c.runs-runs.result.now cc) c.map.ensures.closure
    (λ x r q k. search (rules, tests))) in
    made
    ∙ ap (λ (runs : List (Bor RunOf)). map (λ run. test run.now.steps) runs) c.runs-runs.ensures
    ∙ sym (map_seen (λ (run : Bor RunOf). run.now.steps) test (list_at c.args.region.now names.hart))
    ∙ ends_kept t names.hart region location ending stays names.all.own names.last.own
    (sym (c.others_may-stored.ensures t c.requires ∙ ap stored c.requires.last.others) ∙ c.if-stored.false)
    (c.may_stay-begins.ensures ∙ ap kept (c.as_slice.ensures ∙ c.requires.all.others))
    c.requires.all.own c.requires.last.own (region.runs names.hart)
