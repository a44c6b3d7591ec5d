use Rattle.std.proofs.Common.{◌≡◌, ◌∙◌, ◌-◌, ◌++◌, List, ℕ, length}
use Rattle.std.specs.List.{range_with_len}
use Rattle.fs_model.specs.declared.operation.Operation.{Operation}
use Rattle.fs_model.specs.Operations.{PreExecution, accesses, operations}
use Rattle.fs_model.specs.Source.{gmo}
use Rattle.fs_model_axioms.proofs.Counted.{initial_numbers}
use Rattle.fs_model_axioms.proofs.global_order.GlobalOrder.new.Goals as goal

numbers_of : (x : PreExecution) (ops : List Operation) (order : List ℕ) (count : ℕ) → ops ≡ operations x
    → count ≡ length (accesses x)
    → range_with_len count (length ops - count) ++ order ≡ gmo x order
numbers_of x ops order count e f = rw (e, f) (initial_numbers x order)

pub returns-clause-ok : goal.returns-clause-ok
returns-clause-ok c = λ x e.
    c.in_ok-listed.ensures
    ∙ numbers_of x c.args.operations.now c.args.order.now c.count_accesses.result e (c.count_accesses.ensures.count x e)
