use Rattle.std.proofs.Common.{◌∙◌, length, ap, arith}
use Rattle.fs_model.specs.Execution.{ObeysAxioms}
use Rattle.fs_model_brute_force.specs.Whole.{pre_execution_of}
use Rattle.fs_model_brute_force.proofs.Showing.{is_so, all_short, few, shown}
use Rattle.fs_model_brute_force.proofs.executions.traces_show.Goals as goal

pub obeys_axioms-requires-clause-steps : goal.obeys_axioms-requires-clause-steps
obeys_axioms-requires-clause-steps c = all_short c.args.test.now c.args.traces.now c.requires.test c.requires.last c.requires.runs

pub obeys_axioms-requires-clause-few : goal.obeys_axioms-requires-clause-few
obeys_axioms-requires-clause-few c = few c.args.test.now c.args.traces.now c.requires.test c.requires.last c.requires.runs

pub operations-requires-clause-steps : goal.operations-requires-clause-steps
operations-requires-clause-steps c = all_short c.args.test.now c.args.traces.now c.requires.test c.requires.last c.requires.runs

pub new-requires : goal.new-requires
new-requires c =
    let most = few c.args.test.now c.args.traces.now c.requires.test c.requires.last c.requires.runs in
    omega (arith, most, ap length (c.as_slice.ensures ∙ c.in_ok-operations.ensures.ok))

pub returns-clause-ok : goal.returns-clause-ok
returns-clause-ok c =
    let x = pre_execution_of c.args.test.now c.args.traces.now in
    let obeys = is_so (ObeysAxioms x c.args.placement.now c.args.order.now) c.in_ok-obeys_axioms.field-0 c.if-not-branch.false
    c.in_ok-obeys_axioms.ensures.ok in
    shown c.args.test.now c.args.traces.now c.requires.test c.requires.last c.requires.runs c.args.placement.now c.args.order.now
    c.has_outcome.result obeys
    (c.has_outcome.ensures c.args.order.now (c.as_slice-2.ensures ∙ c.in_ok-operations.ensures.ok)
    (c.in_ok-order.ensures.ok x (c.as_slice.ensures ∙ c.in_ok-operations.ensures.ok)))
