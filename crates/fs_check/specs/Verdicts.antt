-- What is said of a witness.
use Rattle.std.specs.Prelude.{◌≡◌, ℕ, Bool, Option, None, Some, List, length, true, false}
use Rattle.fs_kinds.specs.declared.placement.Entry.{Entry}
use Rattle.fs_kinds.specs.declared.reason.Reason.{Reason}
use Rattle.fs_kinds.specs.declared.reason.Reason.TheVariants as reason
use Rattle.fs_model.specs.declared.test.Test.{Test}
use Rattle.fs_model.specs.Operations.{PreExecution}
use Rattle.fs_model.specs.Source.{gmo, source_in, lists_each_once}
use Rattle.fs_model.specs.Execution.{IsAtomic, initial_words}
use Rattle.fs_model.specs.Shows.{has_outcome}
use Rattle.fs_model.specs.Witness.{Witness}
use Rattle.fs_model.specs.Reasons.{IsYes, IsReason, HaveNames, LoadsRightly, IsFirstWrongLoad, IsFirstBrokenPair, KeepsRules, IsFirstBrokenRule, Breaks}
use Rattle.fs_hart.specs.declared.trace.Trace.{Trace}
use Rattle.fs_cand.specs.declared.candidate.Candidate.{Candidate}
use Rattle.fs_cand.specs.Candidates.{runs_of}
use Rattle.fs_check.specs.declared.order.OrderVerdict.{OrderVerdict}
use Rattle.fs_check.specs.declared.order.OrderVerdict.TheVariants.{Yes, No}
use Rattle.fs_check.specs.declared.ordered.OrderedCandidate.{OrderedCandidate}
use Rattle.fs_cert_evidence.specs.declared.witness.WitnessFile.{WitnessFile}
use Rattle.fs_check.specs.Ordered.{runs_in, execution_in}
use Rattle.fs_check.specs.inner.WitnessRuns.{AreWholeRuns}

-- yes where the witness gives an execution with these fences that shows the outcome; else no, for the first reason
abbrev pub IsVerdict : Test → List Entry → Witness → OrderVerdict → Type 0
IsVerdict t p w Yes = IsYes t p w
IsVerdict t p w (No why) = IsReason t p w why

-- ---- the steps towards it

-- the file has choices for each hart, and they make these runs, which are whole
abbrev pub IsWholeFile : Test → WitnessFile → List Trace → Type 0
IsWholeFile t file traces = (length file.choices ≡ length t.codes) × (length traces ≡ length t.codes) × AreWholeRuns t file.choices traces

-- the numbers of the operations that the witness names, where they are each operation of the harts once
abbrev pub IsFoundOrder : Test → Candidate → Witness → Option (List ℕ) → Type 0
IsFoundOrder t c w (Some order) = HaveNames (runs_of c (initial_words t)) order w.order × (lists_each_once (runs_of c (initial_words t)) order ≡ true)
IsFoundOrder t c w None = (order : List ℕ) → HaveNames (runs_of c (initial_words t)) order w.order → lists_each_once (runs_of c (initial_words t)) order ≡ true → ⊥

-- the file makes these runs, and this is the order that the witness names
abbrev pub IsFoundBy : Test → WitnessFile → Witness → OrderedCandidate → Type 0
IsFoundBy t file w o = IsWholeFile t file o.candidate.traces × IsFoundOrder t o.candidate w (Some o.order.listed)

-- whatever the fences, the witness names no order that has each operation once
abbrev pub HasNoOrder : Test → Witness → Type 0
HasNoOrder t w = (p : List Entry) → IsReason t p w reason.Order

-- the runs are the candidate's, and the order is the one given
pub record IsArranged (c : Candidate) (listed : List ℕ) (o : OrderedCandidate) : Type 0 where
  pub traces : o.candidate.traces ≡ c.traces
  pub order : o.order.listed ≡ listed

-- the reason is the first wrong load
abbrev pub IsLoadReason : PreExecution → List ℕ → Reason → Type 0
IsLoadReason x order (reason.Load name) = IsFirstWrongLoad x order name
IsLoadReason x order _ = ⊥

-- the reason is the first broken rule, at its first pair
abbrev pub IsRuleReason : PreExecution → List Entry → List ℕ → Reason → Type 0
IsRuleReason x p order (reason.Rule n first second) = IsFirstBrokenRule x p order n first second
IsRuleReason x p order _ = ⊥

-- the reason is the first pair against atomicity
abbrev pub IsAtomicReason : PreExecution → List ℕ → Reason → Type 0
IsAtomicReason x order (reason.Atomic load store) = IsFirstBrokenPair x order load store
IsAtomicReason x order _ = ⊥

abbrev pub KeepsAtomicity : PreExecution → List ℕ → Type 0
KeepsAtomicity x order = IsAtomic x (source_in x order) (gmo x order)

abbrev pub KeepsAxioms : PreExecution → List Entry → List ℕ → Type 0
KeepsAxioms x p order = LoadsRightly x order × KeepsRules x p order × KeepsAtomicity x order

-- is the outcome true at the end?
abbrev pub is_shown : Test → OrderedCandidate → Bool
is_shown t o = has_outcome t (execution_in o)

-- what is said of runs with an order that lists each operation once
abbrev pub IsJudgement : Test → List Entry → OrderedCandidate → OrderVerdict → Type 0
IsJudgement t p o Yes = KeepsAxioms (runs_in t o) p o.order.listed × (is_shown t o ≡ true)
IsJudgement t p o (No reason.Outcome) = KeepsAxioms (runs_in t o) p o.order.listed × (is_shown t o ≡ false)
IsJudgement t p o (No why) = Breaks (runs_in t o) p o.order.listed why
