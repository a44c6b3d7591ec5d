use Rattle.std.proofs.Common.{◌≡◌, ℕ, ◌<◌, ◌≤◌, ◌++◌, List, [], ◌∷◌, map, flat_map, length, get_or, sym, ap, ◌∙◌, arith}
use Rattle.std.proofs.lemmas.List.{append-nil, length-map}
use Rattle.fs_model.specs.declared.test.Location.{Location}
use Rattle.fs_model.proofs.Numbered.{numbered_end, numbered_flat}
use Rattle.fs_model.specs.Operations.{accesses, accesses_of, initial_store}
use Rattle.fs_model.specs.Execution.{pre_execution, initial_words}
use Rattle.fs_hart.specs.declared.trace.Trace.{Trace}
use Rattle.fs_hart.specs.Steps.{steps_in}
use Rattle.fs_hart.proofs.Numbering.{mapped_push, mapped_at}
use Rattle.fs_hart.proofs.accesses.operations.Goals as goal

within : (traces : List Trace) (i : ℕ) → i < length traces → i < length (steps_in traces)
within traces i l = rw length-map l

pub loop-hart-preserved : goal.loop-hart-preserved
loop-hart-preserved c =
    let i = c.loop-hart.hart in
    let trace = c.index-traces-hart.result in
    let old = c.loop-hart.operations.items in
    numbered_flat accesses_of (steps_in c.args.traces.now) i trace.steps old c.add_accesses.new.operations.items (within c.args.traces.now i (omega arith))
    (mapped_at (λ t. t.steps) c.args.traces.now i trace c.index-traces-hart.is)
    (c.in_ok-add_accesses.ensures ∙ ap (λ steps. old ++ accesses_of (i, steps)) c.steps.ensures) c.loop-hart.invariant

ended : (traces : List Trace) (i : ℕ) → length traces ≤ i → length (steps_in traces) ≤ i
ended traces i l = rw length-map l

pub loop-location-init : goal.loop-location-init
loop-location-init c =
    let traces = c.args.traces.now in
    c.loop-hart.invariant ∙ ap (flat_map accesses_of) (numbered_end (steps_in traces) c.loop-hart.hart (ended traces c.loop-hart.hart (omega arith))) ∙ sym (append-nil _)

pub loop-location-preserved : goal.loop-location-preserved
loop-location-preserved c =
    let x = pre_execution c.args.test.now (steps_in c.args.traces.now) in
    let i = c.loop-location.location in
    let locations = c.args.test.now.locations in
    let same : c.as_slice-declared-items.result.now ≡ locations = c.as_slice-declared-items.ensures in
    let declared = c.declared-item.result in
    let old = c.loop-location.operations.items in
    mapped_push (λ location. location.word) initial_store locations i declared (accesses x) old c.push.new.self.items (let l : i < length c.as_slice-declared-items.result.now = omega arith in rw same at l)
    (c.declared-item.is ∙ ap (λ ls. get_or ls i declared) same)
    (c.in_ok-push.ensures.items ∙ ap (λ o. old ++ o ∷ []) c.initial_store.ensures) c.loop-location.invariant

last : (locations : List Location) (i : ℕ) → length locations ≤ i → length (map (λ location. location.word) locations) ≤ i
last locations i l = rw length-map l

pub returns-clause-ok : goal.returns-clause-ok
returns-clause-ok c =
    let x = pre_execution c.args.test.now (steps_in c.args.traces.now) in
    let i = c.loop-location.location in
    let same : c.as_slice-declared-items.result.now ≡ c.args.test.now.locations = c.as_slice-declared-items.ensures in
    let past : length c.as_slice-declared-items.result.now ≤ i = omega arith in
    c.new.ensures ∙ c.loop-location.invariant
    ∙ ap (λ ls. accesses x ++ map initial_store ls) (numbered_end (initial_words c.args.test.now) i (last c.args.test.now.locations i (rw same at past)))
