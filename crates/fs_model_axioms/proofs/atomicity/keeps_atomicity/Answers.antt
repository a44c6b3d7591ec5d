use Rattle.std.proofs.Common.{◌≡◌, ◌∙◌, ℕ, Bool, true, false, Option, List, [], option_map, unwrap_or, refl, sym}
use Rattle.std.specs.List.{slice_index_or}
use Rattle.fs_model.specs.declared.operation.Operation.{Operation}
use Rattle.fs_model.specs.declared.step.Step.{Step}
use Rattle.fs_model.specs.Operations.{PreExecution, nothing, operations, precedes, steps_of, are_paired, po, paired}
use Rattle.fs_model.specs.Tests.{keeps_atomicity}
use Rattle.fs_hart.specs.Steps.{steps_in}
use Rattle.fs_model_axioms.proofs.atomicity.keeps_atomicity.Goals as goal

abbrev pair_of : List (List Step) → Operation → Operation → Bool
pair_of traces first second = are_paired (unwrap_or (option_map (steps_of traces) first.hart) []) first.place second.place

same_pair : (x : PreExecution) (ops : List Operation) (traces : List (List Step)) (r w : ℕ) (first second : Operation)
    → ops ≡ operations x → x.traces ≡ traces
    → first ≡ slice_index_or ops r nothing → second ≡ slice_index_or ops w nothing
    → (po x r w ≡ precedes first second) × (paired x r w ≡ pair_of traces first second)
same_pair x ops traces r w first second e t f s = (rw (f, s, e) refl, rw (sym t, f, s, e) refl)

unpaired : (x : PreExecution) (rf : ℕ → Option ℕ) (order : List ℕ) (r w : ℕ) → po x r w ≡ true → paired x r w ≡ false
    → true ≡ keeps_atomicity x rf order r w
unpaired x rf order r w e f = rw (e, f) refl

pub returns-then-not-are_paired : goal.returns-then-not-are_paired
returns-then-not-are_paired c = λ x rf e t f.
    let traces = steps_in c.args.traces.now in
    let same = same_pair x c.args.operations.now traces c.args.r c.args.w c.numbered-first.result c.numbered-second.result e t
    c.numbered-first.ensures c.numbered-second.ensures in
    let before : po x c.args.r c.args.w ≡ true = same.0 ∙ sym c.precedes.ensures ∙ c.if-not-precedes.false in
    let pair : paired x c.args.r c.args.w ≡ c.are_paired.result =
    rw (c.are_paired.ensures, c.from.ensures, c.from-2.ensures, c.steps_of-steps.ensures) same.1 in
    rw c.if-not-are_paired.true (unpaired x rf c.args.order.now c.args.r c.args.w before (pair ∙ c.if-not-are_paired.true))
