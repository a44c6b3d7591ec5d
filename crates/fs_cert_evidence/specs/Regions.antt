-- Regions of a test: sets of candidates, each given by what is known of its members. Where every showing candidate
-- has a cycle, a few regions show it for all of them: the members of one have a cycle in common, whatever else they
-- differ in.
use Rattle.std.specs.Prelude.{◌≡◌, ℕ, ◌<◌, ◌==◌, Bool, true, false, ◌&&◌, Option, None, Some, is_some, option_and_then, List, map, filter, length}
use Rattle.std.specs.List.{Contains, enumerate_from, find, flat_map}
use Rattle.fs_kinds.specs.declared.reason.OperationName.{OperationName as Name}
use Rattle.fs_instr.specs.declared.instr.Instr.{Instr}
use Rattle.fs_model.specs.declared.test.Test.{Test}
use Rattle.fs_model.specs.Condition.{Condition}
use Rattle.fs_model.specs.Slots.{is_memory_at}
use Rattle.fs_model.specs.declared.step.Step.{Step}
use Rattle.fs_model.specs.Numbers.{numbers_below}
use Rattle.fs_model.specs.Operations.{steps_of}
use Rattle.fs_model.specs.Shows.{holds, final_register}
use Rattle.fs_model.specs.Witness.{name_of}
use Rattle.fs_cert_evidence.specs.Candidates.{Candidate, runs_of, rf, co, last_word}

-- ---- names: one name serves in many runs, and a number doesn't

abbrev pub same_name : Name → Name → Bool
same_name a b = (a.hart == b.hart) && (a.at == b.at)

-- the names of a hart's memory instructions, which alone can be operations
abbrev pub names_in : ℕ × List Instr → List Name
names_in (hart, code) =
    map (λ at. record { hart = hart; at = at }) (filter (is_memory_at code) (numbers_below (length code)))

-- hart by hart, in the order of the code
abbrev pub names : Test → List Name
names t = flat_map names_in (enumerate_from 0 t.codes)

-- what a load returns from: the initial store of its location, which has no name, or the operation of this name
pub data Source : Type 0 where
  Initial : Source
  From : Name → Source

abbrev pub same_source : Source → Source → Bool
same_source Initial Initial = true
same_source (From a) (From b) = same_name a b
same_source _ _ = false

abbrev pub name_in : Source → Option Name
name_in Initial = None
name_in (From name) = Some name

-- ---- regions

-- For each hart the runs that are left; of some loads what they return from; of some stores which comes first in
-- coherence order; and conditions, each with the truth value that it is to have.
pub record Region : Type 0 where
  pub runs : ℕ → List (List Step)
  pub source : Name → Option Source
  pub before : Name → Name → Bool
  pub wanted : List (Condition × Bool)

module _ (t : Test) (c : Candidate) where
  -- operation number a has this name
  abbrev pub IsNamed : ℕ → Name → Type 0
  IsNamed a name = name_of (runs_of t c) a ≡ Some name

  -- the candidate has an operation of this name, which returns from this source
  abbrev pub Returns : Name → Source → Type 0
  Returns load source = (a s : ℕ) × IsNamed a load × (rf c a ≡ Some s) × (name_of (runs_of t c) s ≡ name_in source)

  -- it has operations of both names, the first earlier in coherence order
  abbrev pub IsStoredBefore : Name → Name → Type 0
  IsStoredBefore first second = (a b : ℕ) × IsNamed a first × IsNamed b second × (co c a b ≡ true)

  -- whether the condition is true of it
  abbrev pub truth : Condition → Bool
  truth condition = holds (final_register t c.traces) (last_word t c) condition

-- The candidate is in the region. A name with a source, and names in an order, are executed.
pub record In (t : Test) (c : Candidate) (region : Region) : Type 0 where
  pub runs : (hart : ℕ) → hart < length t.codes → Contains (region.runs hart) (steps_of c.traces hart)
  pub sources : (load : Name) (source : Source) → region.source load ≡ Some source → Returns t c load source
  pub orders : (first second : Name) → region.before first second ≡ true → IsStoredBefore t c first second
  pub wanted :
      (condition : Condition) (v : Bool) → Contains region.wanted (condition, v) → truth t c condition ≡ v

-- ---- what one run does at a position of its hart's code

-- the step that executes the instruction there, if one does: branches go forward, so no other does
abbrev pub step_at : List Step → ℕ → Option Step
step_at run at = find (λ s. s.at == at) run

abbrev pub address_at : List Step → ℕ → Option ℕ
address_at run at = option_and_then (λ s. s.address) (step_at run at)

abbrev pub loaded_at : List Step → ℕ → Option ℕ
loaded_at run at = option_and_then (λ s. s.loaded) (step_at run at)

abbrev pub stored_at : List Step → ℕ → Option ℕ
stored_at run at = option_and_then (λ s. s.stored) (step_at run at)

abbrev pub loads_at : List Step → ℕ → Bool
loads_at run at = is_some (loaded_at run at)
