-- A run of a hart has at most one store for each sw, sc.w and AMO of its code.
use Rattle.std.proofs.Common.{◌≡◌, ℕ, ◌<◌, ◌≤◌, Bool, true, is_some, List, length, refl}
use Rattle.std.specs.List.{count_by}
use Rattle.fs_instr.specs.declared.instr.Instr.{Instr}
use Rattle.fs_instr.specs.declared.instr.Instr.TheVariants.{Sw, Sc, Amo}
use Rattle.fs_model.specs.Test.{GoesForward}
use Rattle.fs_model.specs.declared.test.Test.{Test}
use Rattle.fs_model.specs.declared.hart.Hart.{Hart}
use Rattle.fs_model.specs.declared.operation.Operation.{Operation}
use Rattle.fs_model.specs.declared.step.Step.{Step}
use Rattle.fs_model.specs.Forms.{is_storing}
use Rattle.fs_model.specs.Trace.{Accesses}
use Rattle.fs_model.specs.Operations.{accesses, steps_of}
use Rattle.fs_model.specs.Execution.{IsTrace, code_of, pre_execution}
use Rattle.fs_model.specs.Values.{rounds}
use Rattle.fs_model.proofs.OptionalNumbers.{none_there}
use Rattle.fs_hart.proofs.Few.{few_of_kind}

abbrev pub stores : Operation → Bool
stores o = is_some o.stored

only_storing : (n : ℕ) (h : Hart) (s : Step) (i : Instr) → Accesses n h s i → is_some s.stored ≡ true → is_storing i ≡ true
only_storing n h s (Sw ann value base offset) a there = refl
only_storing n h s (Sc ann rd value base) a there = refl
only_storing n h s (Amo op ann rd value base) a there = refl
only_storing n h s _ a there = absurd (none_there s.stored a.2 there)

pub few_stores : (t : Test) (traces : List (List Step)) → ((k : ℕ) → k < length t.codes → GoesForward (code_of t k))
    → length traces ≡ length t.codes → ((hart : ℕ) → hart < length t.codes → IsTrace t hart (steps_of traces hart))
    → count_by stores (accesses (pre_execution t traces)) ≤ rounds t
few_stores t traces forward same runs =
    few_of_kind stores is_storing (λ n h s hart place access there passes. only_storing n h s s.instr access passes) t traces forward same runs
