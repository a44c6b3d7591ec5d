use Rattle.std.proofs.Common.{◌≡◌, ◌∙◌, length, ap, subst, sym}
use Rattle.std.specs.Arc.{arc_value}
use Rattle.fs_model.specs.declared.test.Test.{Test}
use Rattle.fs_model.specs.Values.{HasAllRuns}
use Rattle.fs_values.specs.AllRuns.{runs_in}
use Rattle.fs_cert_evidence.specs.Regions.{names}
use Rattle.fs_region_refutation.specs.Runs.{AreReady, AreRunsOfEach, IsBasis}
use Rattle.fs_region_refutation.proofs.Listed.{are_runs, is_basis}
use Rattle.fs_region_refutation.proofs.basis.Basis.new.Goals as goal

pub all_ready-requires-clause-runs : goal.all_ready-requires-clause-runs
all_ready-requires-clause-runs c =
    let u = c.deref.result.now in
    let lists = c.in_ok-lists.lists.items in
    subst (AreRunsOfEach (arc_value c.args.test.now)) (sym c.deref-2.ensures.value)
    (subst (λ (t : Test). AreRunsOfEach t lists) c.deref.ensures
    (are_runs u lists c.in_ok-lists.ensures.harts c.in_ok-lists.ensures.ok c.in_ok-lists.ensures.registers))

pub invariant_of-result : goal.invariant_of-result
invariant_of-result c =
    let t = arc_value c.args.test.now in
    let lists = c.in_ok-lists.lists.items in
    let runs = c.in_ok-runs.runs.items in
    let named = c.new.result in
    let long : length lists ≡ length t.codes =
    c.in_ok-lists.ensures.harts ∙ ap (λ (u : Test). length u.codes) c.deref.ensures in
    let all : HasAllRuns t (runs_in lists) =
    subst (λ (u : Test). HasAllRuns u (runs_in lists)) c.deref.ensures c.in_ok-lists.ensures.ok in
    let ready : AreReady t lists runs =
    subst (λ lists. AreReady t lists runs) c.deref-2.ensures.value c.in_ok-runs.ensures.ok in
    let are : named ≡ names t =
    c.new.ensures ∙ c.in_ok-names.ensures.ok ∙ ap (λ (u : Test). names u) c.deref-3.ensures in
    subst (λ (u : Test). IsBasis u runs named) (sym c.in_ok-shared.ensures)
    (is_basis t lists runs named c.requires.bounded long all ready are)
