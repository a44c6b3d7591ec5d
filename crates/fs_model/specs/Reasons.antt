-- What is said of a witness with a list of choices for each hart: yes, or the first reason against it. Their order is:
-- choices or astray, of the first hart that makes no run; order; load; rule; atomic; outcome. One that names an
-- operation names it by its hart and instruction. Nothing is meant to be said of a witness with another number of lists
-- than harts: it is never a yes, and a file with such a witness is refused before, by the fault F17.
use Rattle.std.specs.Prelude.{◌≡◌, ℕ, zero, suc, ◌<◌, ◌==◌, nat_lt, Bool, true, false, ◌&&◌, ◌||◌, not, Some, option_map, unwrap_or, List, [], map, length, slice_get}
use Rattle.std.specs.List.{slice_index_or}
use Rattle.fs_kinds.specs.declared.placement.Entry.{Entry}
use Rattle.fs_kinds.specs.declared.reason.OperationName.{OperationName as Name}
use Rattle.fs_kinds.specs.declared.reason.Reason.{Reason}
use Rattle.fs_kinds.specs.declared.reason.Reason.TheVariants as reason
use Rattle.fs_model.specs.declared.test.Test.{Test}
use Rattle.fs_model.specs.declared.step.Step.{Step}
use Rattle.fs_model.specs.declared.step.Choice.{Choice}
use Rattle.fs_model.specs.declared.step.Stop.{Stop}
use Rattle.fs_model.specs.declared.step.Stop.TheVariants.{Astray}
use Rattle.fs_model.specs.Numbers.{stands_before}
use Rattle.fs_model.specs.Choices.{IsStopped}
use Rattle.fs_model.specs.Operations.{PreExecution, steps_of}
use Rattle.fs_model.specs.Source.{lists_each_once, gmo, source_in}
use Rattle.fs_model.specs.Preserved.{all_rules, rule, ppo}
use Rattle.fs_model.specs.Tests.{returns_source, keeps_atomicity}
use Rattle.fs_model.specs.Execution.{Execution, pre_execution, code_of, registers_of, ReturnsSources, Respects, IsExecution}
use Rattle.fs_model.specs.Shows.{has_outcome}
use Rattle.fs_model.specs.Witness.{Witness, name_of, Chooses, IsOfWitness}

-- the witness gives an execution with these fences that shows the outcome
abbrev pub IsYes : Test → List Entry → Witness → Type 0
IsYes t p w = (e : Execution) × IsOfWitness t w e × IsExecution t p e × (has_outcome t e ≡ true)

-- ---- the first number, and the first pair of numbers, that passes a test

abbrev pub IsLeast : (ℕ → Bool) → ℕ → Type 0
IsLeast test n = (test n ≡ true) × ((m : ℕ) → m < n → test m ≡ false)

abbrev pub is_earlier : ℕ → ℕ → ℕ → ℕ → Bool
is_earlier a b c d = nat_lt a c || (a == c) && nat_lt b d

abbrev pub IsLeastPair : (ℕ → ℕ → Bool) → ℕ → ℕ → Type 0
IsLeastPair test a b = (test a b ≡ true) × ((c d : ℕ) → is_earlier c d a b ≡ true → test c d ≡ false)

-- ---- choices that make no whole run

abbrev pub choices_for : Witness → ℕ → List Choice
choices_for w hart = slice_index_or w.choices hart []

abbrev pub is_astray : Stop → Bool
is_astray (Astray at) = true
is_astray _ = false

-- the hart's choices stop its run so, and the choices of each earlier hart make a whole run
pub record IsFirstStop (t : Test) (w : Witness) (hart : ℕ) (stop : Stop) : Type 0 where
  pub hart_of_test : hart < length t.codes
  pub steps : List Step
  pub stopped : IsStopped (length t.locations) (code_of t hart) (registers_of t hart) (choices_for w hart) steps stop
  pub earlier : (h : ℕ) → h < hart → (ss : List Step) × Chooses t h (choices_for w h) ss

-- ---- an order that doesn't have each operation once

-- the choices make these runs, all of them whole
pub record AreRuns (t : Test) (w : Witness) (traces : List (List Step)) : Type 0 where
  pub harts : length traces ≡ length t.codes
  pub whole : (hart : ℕ) → hart < length t.codes → Chooses t hart (choices_for w hart) (steps_of traces hart)

-- the operations with these numbers have these names
abbrev pub HaveNames : PreExecution → List ℕ → List Name → Type 0
HaveNames x order names = map (name_of x) order ≡ map (λ name. Some name) names

-- the names are those of an order of all operations
pub record IsOrder (t : Test) (w : Witness) (e : Execution) : Type 0 where
  pub runs : AreRuns t w e.traces
  pub names : HaveNames (pre_execution t e.traces) e.order w.order
  pub once : lists_each_once (pre_execution t e.traces) e.order ≡ true

-- ---- an order against the axioms that know no fences: load value and atomicity
module _ (x : PreExecution) (order : List ℕ) where
  -- a load whose word isn't its source's
  abbrev pub is_wrong_load : ℕ → Bool
  is_wrong_load a = not (returns_source x (source_in x order) a)

  abbrev pub LoadsRightly : Type 0
  LoadsRightly = ReturnsSources x (source_in x order)

  -- the least wrong load has this name
  pub record IsFirstWrongLoad (name : Name) : Type 0 where
    pub a : ℕ
    pub named : name_of x a ≡ Some name
    pub least : IsLeast is_wrong_load a

  -- paired r and w that break atomicity
  abbrev pub is_against_atomicity : ℕ → ℕ → Bool
  is_against_atomicity r w = not (keeps_atomicity x (source_in x order) (gmo x order) r w)

  -- the least pair against atomicity has these names
  pub record IsFirstBrokenPair (load store : Name) : Type 0 where
    pub r : ℕ
    pub w : ℕ
    pub load_named : name_of x r ≡ Some load
    pub store_named : name_of x w ≡ Some store
    pub least : IsLeastPair is_against_atomicity r w

-- ---- and against the rules of preserved program order, with these fences
module _ (x : PreExecution) (p : List Entry) (order : List ℕ) where
  -- a comes before b by the rule of this number, but not in the order
  abbrev pub is_against_rule : ℕ → ℕ → ℕ → Bool
  is_against_rule zero a b = false
  is_against_rule (suc n) a b =
      unwrap_or (option_map (rule x p (source_in x order) a b) (slice_get all_rules n)) false && not (stands_before (gmo x order) a b)

  abbrev pub KeepsRules : Type 0
  KeepsRules = Respects (gmo x order) (λ a b. ppo x p (source_in x order) a b ≡ true)

  -- this is the least rule that the order goes against, and the least pair of operations at which it does has these
  -- names
  pub record IsFirstBrokenRule (n : ℕ) (first second : Name) : Type 0 where
    pub kept : (m : ℕ) → m < n → (a b : ℕ) → is_against_rule m a b ≡ false
    pub a : ℕ
    pub b : ℕ
    pub first_named : name_of x a ≡ Some first
    pub second_named : name_of x b ≡ Some second
    pub least : IsLeastPair (is_against_rule n) a b

  -- the axiom that the order breaks, and the first place where it does
  abbrev pub Breaks : Reason → Type 0
  Breaks (reason.Load name) = IsFirstWrongLoad x order name
  Breaks (reason.Rule n first second) = LoadsRightly x order × IsFirstBrokenRule n first second
  Breaks (reason.Atomic load store) = LoadsRightly x order × KeepsRules × IsFirstBrokenPair x order load store
  Breaks _ = ⊥

-- ---- the reason against a witness; those against certificates are none
abbrev pub IsReason : Test → List Entry → Witness → Reason → Type 0
IsReason t p w (reason.Choices hart) = (stop : Stop) × (is_astray stop ≡ false) × IsFirstStop t w hart stop
IsReason t p w (reason.Astray hart at) = IsFirstStop t w hart (Astray at)
IsReason t p w reason.Order = (traces : List (List Step)) × AreRuns t w traces × ((order : List ℕ) → IsOrder t w (record { traces = traces; order = order }) → ⊥)
IsReason t p w reason.Outcome = (e : Execution) × IsOrder t w e × IsExecution t p e × (has_outcome t e ≡ false)
IsReason t p w other = (e : Execution) × IsOrder t w e × Breaks (pre_execution t e.traces) p e.order other
