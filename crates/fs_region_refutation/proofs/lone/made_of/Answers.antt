use Rattle.std.proofs.Common.{List, length, ◌∙◌, ap, arith}
use Rattle.fs_model.specs.declared.step.Step.{Step}
use Rattle.fs_model.specs.declared.operation.Operation.{Operation}
use Rattle.fs_model.specs.Operations.{steps_of}
use Rattle.fs_hart.specs.declared.trace.Trace.{Trace}
use Rattle.fs_hart.specs.Steps.{steps_in}
use Rattle.fs_region_refutation.proofs.ReadyRuns.{own_run, short_run, few_operations, ready}
use Rattle.fs_region_refutation.proofs.lone.made_of.Goals as goal

pub places-requires : goal.places-requires
places-requires c =
    let alone = c.in_ok-candidate.ensures.ok in
    let same = ap (λ (ss : List Step). length ss)
    (c.steps_of-steps.ensures ∙ ap (λ (traces : List Trace). steps_of (steps_in traces) c.args.hart) c.as_slice.ensures
    ∙ own_run c.args.test.now c.args.hart c.args.trace.steps c.in_ok-candidate.candidate alone) in
    let short = short_run c.args.test.now c.args.hart c.args.trace.steps c.in_ok-candidate.candidate alone c.requires.test c.requires.run.steps in
    omega (arith, same, short)

pub numbers-requires : goal.numbers-requires
numbers-requires c =
    let alone = c.in_ok-candidate.ensures.ok in
    let same = ap (λ (os : List Operation). length os) c.as_slice-operations.ensures in
    let few = few_operations c.args.test.now c.args.hart c.args.trace.steps c.in_ok-candidate.candidate alone c.requires.test c.requires.run.steps in
    omega (arith, same, few)

pub returns-clause-ready : goal.returns-clause-ready
returns-clause-ready c =
    let alone = c.in_ok-candidate.ensures.ok in
    ready c.args.test.now c.args.hart c.args.trace.steps c.in_ok-candidate.candidate alone c.requires.test c.requires.run.steps
    c.code_of-positions.result.now c.steps_of-steps.result.now c.as_slice-operations.result.now c.in_ok-places.places.items c.in_ok-numbers.numbers.items
    c.code_of-positions.ensures
    (c.steps_of-steps.ensures ∙ ap (λ (traces : List Trace). steps_of (steps_in traces) c.args.hart) c.as_slice.ensures
    ∙ own_run c.args.test.now c.args.hart c.args.trace.steps c.in_ok-candidate.candidate alone)
    c.as_slice-operations.ensures c.in_ok-places.ensures c.in_ok-numbers.ensures

pub returns-clause-steps : goal.returns-clause-steps
returns-clause-steps c = own_run c.args.test.now c.args.hart c.args.trace.steps c.in_ok-candidate.candidate c.in_ok-candidate.ensures.ok
