use Rattle.std.proofs.Common.{◌≡◌, ◌∙◌, ℕ, List, refl, ap}
use Rattle.fs_model.specs.declared.test.Test.{Test}
use Rattle.fs_model.specs.Condition.{condition_of}
use Rattle.fs_model.specs.declared.operation.Operation.{Operation}
use Rattle.fs_model.specs.Operations.{operations}
use Rattle.fs_model.specs.Shows.{is_outcome, final_register}
use Rattle.fs_hart.specs.declared.trace.Trace.{Trace}
use Rattle.fs_hart.specs.Steps.{steps_in}
use Rattle.fs_model_axioms.specs.Final.{register_in}
use Rattle.fs_cert_evidence.specs.Candidates.{Candidate, last_word, runs_of}
use Rattle.fs_cand_listing.specs.RawCandidates.{candidate}
use Rattle.fs_cand_listing.specs.inner.Tested.{word_among}
use Rattle.fs_model_axioms.proofs.Registers.{holds_same, same_register}
use Rattle.fs_cand_listing.proofs.shown_outcome.has_outcome.Goals as goal

same_word : (t : Test) (c : Candidate) (os : List Operation) → os ≡ operations (runs_of t c) → (location : ℕ)
    → word_among os c.store_order location ≡ last_word t c location
same_word t c os e location = rw e refl

pub returns : goal.returns
returns c = λ sources e.
    let test : Test = c.args.test.now in
    let traces : List Trace = c.args.traces.now in
    let made : Candidate = candidate (steps_in traces) sources c.args.orders.now in
    c.is_outcome.ensures
    ∙ ap (is_outcome test.quantifier)
    (c.holds.ensures
    ∙ holds_same (register_in traces) (final_register test (steps_in traces)) (word_among c.args.operations.now c.args.orders.now)
    (last_word test made) (same_register test traces c.requires) (same_word test made c.args.operations.now e)
    (condition_of test.condition))
