use Rattle.std.proofs.Common.{◌≡◌, ℕ, List, map}
use Rattle.std.specs.List.{range_with_len}
use Rattle.fs_model.specs.Operations.{PreExecution, operations}
use Rattle.fs_model.specs.Source.{gmo, source_in}
use Rattle.fs_model_axioms.proofs.ordered.sources.Given as goal

-- the sources of the operations so far
abbrev pub invariant-loop-a : goal.invariant-loop-a
invariant-loop-a l =
    (x : PreExecution) (listed : List ℕ) → l.fn.operations ≡ operations x → l.fn.order ≡ gmo x listed
    → l.sources.items ≡ map (source_in x listed) (range_with_len 0 l.a)
