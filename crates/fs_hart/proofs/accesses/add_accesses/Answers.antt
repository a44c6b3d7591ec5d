use Rattle.std.proofs.Common.{◌++◌, [], ◌∷◌, map, filter, sym, ap, ◌∙◌, arith}
use Rattle.fs_model.proofs.Numbered.{numbered_end}
use Rattle.fs_model.specs.Operations.{access_of}
use Rattle.fs_hart.proofs.Numbering.{does_access, access_added, access_skipped}
use Rattle.fs_hart.proofs.accesses.add_accesses.Goals as goal
use Rattle.fs_hart.proofs.accesses.add_accesses.Goals.{then-is_some+in_ok-push, else-is_some}

pub loop-place-preserved : goal.loop-place-preserved
loop-place-preserved c =
    let steps = c.args.steps.now in
    let i = c.loop-place.place in
    let s = c.index-steps-place.result in
    let start = c.args.operations.now.items in
    let old = c.loop-place.operations.items in
    elim c.if-is_some.branch [
      | then-is_some+in_ok-push w ↦ access_added c.args.hart steps i s start old c.if-is_some.operations.items (omega arith) c.index-steps-place.is (sym c.is_some.ensures ∙ w.if-is_some.true)
          (ap (λ v. v.items) w.operations-is ∙ w.in_ok-push.ensures.items ∙ ap (λ o. old ++ o ∷ []) w.access.ensures) c.loop-place.invariant
      | else-is_some w ↦ ap (λ v. v.items) w.operations-is ∙ access_skipped c.args.hart steps i s start old (omega arith) c.index-steps-place.is (sym c.is_some.ensures ∙ w.if-is_some.false) c.loop-place.invariant
    ]

pub returns : goal.returns
returns c =
    c.loop-place.invariant ∙ ap (λ xs. c.args.operations.now.items ++ map (access_of c.args.hart) (filter does_access xs)) (numbered_end c.args.steps.now c.loop-place.place (omega arith))
