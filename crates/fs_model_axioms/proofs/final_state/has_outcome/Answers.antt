use Rattle.std.proofs.Common.{◌≡◌, ◌∙◌, ℕ, List, refl, ap}
use Rattle.fs_model.specs.declared.test.Test.{Test}
use Rattle.fs_model.specs.Condition.{condition_of}
use Rattle.fs_model.specs.declared.operation.Operation.{Operation}
use Rattle.fs_model.specs.Operations.{PreExecution, operations}
use Rattle.fs_model.specs.Source.{gmo}
use Rattle.fs_model.specs.Execution.{pre_execution}
use Rattle.fs_model.specs.Shows.{is_outcome, final_register, final_word}
use Rattle.fs_hart.specs.declared.trace.Trace.{Trace}
use Rattle.fs_hart.specs.Steps.{steps_in}
use Rattle.fs_model_axioms.specs.Among.{word_among}
use Rattle.fs_model_axioms.specs.Final.{register_in}
use Rattle.fs_model_axioms.proofs.Registers.{holds_same, same_register}
use Rattle.fs_model_axioms.proofs.final_state.has_outcome.Goals as goal

same_word : (x : PreExecution) (ops : List Operation) (order listed : List ℕ) → ops ≡ operations x → order ≡ gmo x listed
    → (location : ℕ) → word_among ops order location ≡ final_word x listed location
same_word x ops order listed e g location = rw (e, g) refl

pub returns : goal.returns
returns c = λ listed e g.
    let test : Test = c.args.test.now in
    let traces : List Trace = c.args.traces.now in
    c.is_outcome.ensures
    ∙ ap (is_outcome test.quantifier)
    (c.holds.ensures
    ∙ holds_same (register_in traces) (final_register test (steps_in traces)) (word_among c.args.operations.now c.args.order.now)
    (final_word (pre_execution test (steps_in traces)) listed) (same_register test traces c.requires)
    (same_word (pre_execution test (steps_in traces)) c.args.operations.now c.args.order.now listed e g)
    (condition_of test.condition))
