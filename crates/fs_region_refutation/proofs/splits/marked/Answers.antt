use Rattle.std.proofs.Common.{◌≡◌, ◌∙◌, Bool, false, List, [], ◌∷◌, ◌++◌, filter, take, length, option_map, refl, ap, sym}
use Rattle.std.specs.Prelude.{if◌then◌else◌, slice_get, unwrap_or}
use Rattle.std.specs.Borrow.{Bor}
use Rattle.std.proofs.lemmas.List.Elements.{filter_more}
use Rattle.std.proofs.lemmas.Option.{slice_get-map, slice_get_read}
use Rattle.fs_model.specs.declared.step.Step.{Step}
use Rattle.fs_region_refutation.specs.Alone.{RunOf}
use Rattle.fs_region_refutation.specs.Views.{runs_of}
use Rattle.fs_region_refutation.proofs.splits.marked.Goals as goal

pub loop-number-preserved : goal.loop-number-preserved
loop-number-preserved c = λ test is.
    let steps : Bor RunOf → List Step = λ run. run.now.steps in
    let keeps : Bor RunOf → Bool = λ run. test run.now.steps in
    let runs = c.args.runs.now in
    let i = c.loop-number.number in
    let run = c.index-runs-number.result in
    let here : Bor RunOf → List (Bor RunOf) = λ run. if keeps run then run ∷ [] else [] in
    let passes : c.mark_at.result ≡ keeps run =
    c.mark_at.ensures
    ∙ ap (λ marks. unwrap_or (slice_get marks i) false) is
    ∙ ap (λ mark. unwrap_or mark false) (slice_get-map test (runs_of runs) i ∙ ap (option_map test) (slice_get-map steps runs i
    ∙ ap (option_map steps) (slice_get_read runs (length runs) i run refl c.loop-number-test.true c.index-runs-number.is))) in
    c.in_ok-push_if.ensures
    ∙ ap (λ b. c.loop-number.kept.items ++ (if b then run ∷ [] else [])) passes
    ∙ ap (λ kept. kept ++ here run) (c.loop-number.invariant test is)
    ∙ ap (λ run. filter keeps (take i runs) ++ here run) c.index-runs-number.is
    ∙ sym (filter_more keeps runs i run c.loop-number-test.true)
