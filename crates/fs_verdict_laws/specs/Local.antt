-- The rules of preserved program order by the run of one hart alone: of its steps number i and j, without numbers of
-- operations.
use Rattle.std.specs.Prelude.{◌≡◌, ℕ, ◌+◌, ◌==◌, nat_lt, Bool, true, false, ◌&&◌, ◌||◌, not, Option, None, Some, is_some, option_and_then, List, slice_get}
use Rattle.std.specs.List.{list_all, list_any, position}
use Rattle.fs_kinds.specs.declared.kind.Classes.{Classes}
use Rattle.fs_kinds.specs.declared.kind.Kind.{Kind}
use Rattle.fs_kinds.specs.declared.placement.Entry.{Entry}
use Rattle.fs_kinds.specs.Placement.{kind_at}
use Rattle.fs_kinds.specs.declared.reason.OperationName.{OperationName as Name}
use Rattle.fs_model.specs.declared.test.Test.{Test}
use Rattle.fs_model.specs.Slots.{slot_at}
use Rattle.fs_model.specs.declared.operation.Operation.{Operation}
use Rattle.fs_model.specs.declared.step.Step.{Step}
use Rattle.fs_model.specs.Forms.{is_sc, is_amo, annotation}
use Rattle.fs_model.specs.Numbers.{is_same, between}
use Rattle.fs_model.specs.Operations.{PreExecution, are_paired, instr_at}
use Rattle.fs_model.specs.Fences.{instr_orders, kind_orders}
use Rattle.fs_model.specs.Dependencies.{address_depends, data_depends, control_depends}
use Rattle.fs_model.specs.Preserved.{Rule, Rule1, Rule2, Rule3, Rule4, Rule5, Rule6, Rule7, Rule8, Rule9, Rule10, Rule11, Rule12, Rule13}
use Rattle.fs_model.specs.Witness.{name_of}
use Rattle.fs_cert_evidence.specs.Candidates.{Candidate, runs_of, rf}
use Rattle.fs_cert_evidence.specs.Judged.{Cause, is_edge}

-- ---- steps by their places

abbrev pub address_at : List Step → ℕ → Option ℕ
address_at steps i = option_and_then (λ s. s.address) (slice_get steps i)

abbrev pub loaded_at : List Step → ℕ → Option ℕ
loaded_at steps i = option_and_then (λ s. s.loaded) (slice_get steps i)

abbrev pub stored_at : List Step → ℕ → Option ℕ
stored_at steps i = option_and_then (λ s. s.stored) (slice_get steps i)

-- the operation that step i of the hart's run is, where it accesses memory
abbrev pub access_at : ℕ → List Step → ℕ → Operation
access_at hart steps i = record {
  hart = Some hart;
  place = i;
  instr = instr_at steps i;
  address = address_at steps i;
  loaded = loaded_at steps i;
  stored = stored_at steps i;
}

abbrev pub accesses_at : List Step → ℕ → Bool
accesses_at steps i = is_some (address_at steps i)

abbrev pub loads_at : List Step → ℕ → Bool
loads_at steps i = is_some (loaded_at steps i)

abbrev pub stores_at : List Step → ℕ → Bool
stores_at steps i = is_some (stored_at steps i)

abbrev pub classes_at : List Step → ℕ → Classes
classes_at steps i = record { reads = loads_at steps i; writes = stores_at steps i }

abbrev pub one_word : List Step → ℕ → ℕ → Bool
one_word steps i j = is_same (address_at steps i) (address_at steps j)

abbrev pub acquires : List Step → ℕ → Bool
acquires steps i = (annotation (instr_at steps i)).acquire

abbrev pub releases : List Step → ℕ → Bool
releases steps i = (annotation (instr_at steps i)).release

-- the fence that the placement has right before step k
abbrev pub fence_before : ℕ → List Step → List Entry → ℕ → Option Kind
fence_before hart steps p k = option_and_then (λ s. kind_at (slot_at hart s.at) p) (slice_get steps k)

abbrev pub fenced : ℕ → List Step → List Entry → ℕ → ℕ → Bool
fenced hart steps p i j =
    list_any (λ k. instr_orders (classes_at steps i) (classes_at steps j) (instr_at steps k)) (between i j)
    || list_any (λ k. kind_orders (classes_at steps i) (classes_at steps j) (fence_before hart steps p k)) (between i (j + 1))

-- step m depends on step i for its address or its data
abbrev pub depends_on : List Step → ℕ → ℕ → Bool
depends_on steps i m = address_depends steps i m || data_depends steps i m

-- ---- the rules

-- those that look at the run alone
abbrev pub is_local : Rule → Bool
is_local Rule2 = false
is_local Rule3 = false
is_local Rule12 = false
is_local _ = true

-- What rule r asks of the run besides that i is before j. Of rules 2, 3 and 12 a fact on sources is left: that the
-- two loads return different stores, that the load returns from the first, and that it returns from such a store
-- between.
abbrev pub local_case : ℕ → List Step → List Entry → ℕ → ℕ → Rule → Bool
local_case hart steps p i j Rule1 = stores_at steps j && one_word steps i j
local_case hart steps p i j Rule2 =
    loads_at steps i && loads_at steps j && one_word steps i j
    && not (list_any (λ k. stores_at steps k && one_word steps k i) (between i j))
local_case hart steps p i j Rule3 = (is_amo (instr_at steps i) || is_sc (instr_at steps i)) && loads_at steps j
local_case hart steps p i j Rule4 = fenced hart steps p i j
local_case hart steps p i j Rule5 = acquires steps i
local_case hart steps p i j Rule6 = releases steps j
local_case hart steps p i j Rule7 = (acquires steps i || releases steps i) && (acquires steps j || releases steps j)
local_case hart steps p i j Rule8 = are_paired steps i j
local_case hart steps p i j Rule9 = address_depends steps i j
local_case hart steps p i j Rule10 = data_depends steps i j
local_case hart steps p i j Rule11 = stores_at steps j && control_depends steps i j
local_case hart steps p i j Rule12 =
    loads_at steps j && list_any (λ k. stores_at steps k && depends_on steps i k) (between i j)
local_case hart steps p i j Rule13 = stores_at steps j && list_any (address_depends steps i) (between i j)

abbrev pub local_rule : ℕ → List Step → List Entry → ℕ → ℕ → Rule → Bool
local_rule hart steps p i j r = nat_lt i j && local_case hart steps p i j r

-- rule 12 through the store of step k: k is between i and j, and depends on i
abbrev pub through : List Step → ℕ → ℕ → ℕ → Bool
through steps i k j = loads_at steps j && (nat_lt i k && nat_lt k j && (stores_at steps k && depends_on steps i k))

-- ---- by names

-- the place of the hart's instruction number `at` in the run: of the first step that executes it
abbrev pub place_of : List Step → ℕ → Option ℕ
place_of steps at = position (λ s. s.at == at) steps

abbrev pub both_there : (ℕ → ℕ → Bool) → Option ℕ → Option ℕ → Bool
both_there test None o = false
both_there test (Some i) None = false
both_there test (Some i) (Some j) = test i j

-- the run executes both instructions, they access memory, and the rule finds what it asks of the run
abbrev pub named_rule : ℕ → List Step → List Entry → (first second : ℕ) → Rule → Bool
named_rule hart steps p first second r =
    both_there (λ i j. accesses_at steps i && accesses_at steps j && local_rule hart steps p i j r) (place_of steps first) (place_of steps second)

-- it does so in each run of a set
abbrev pub always : ℕ → List (List Step) → List Entry → (first second : ℕ) → Rule → Bool
always hart runs p first second r = list_all (λ steps. named_rule hart steps p first second r) runs

-- and in none
abbrev pub never : ℕ → List (List Step) → List Entry → (first second : ℕ) → Rule → Bool
never hart runs p first second r = list_all (λ steps. not (named_rule hart steps p first second r)) runs

-- the candidate has operations of these names, and the first comes before the second for this cause
abbrev pub HasLink : Test → List Entry → Candidate → Name → Name → Cause → Type 0
HasLink t p c first second cause =
    (a b : ℕ) × (name_of (runs_of t c) a ≡ Some first) × (name_of (runs_of t c) b ≡ Some second)
    × (is_edge (runs_of t c) p c a b cause ≡ true)

-- ---- with sources by their names

-- the name of what a load returns from; an initial store has none
abbrev pub source_name : PreExecution → Candidate → ℕ → Option Name
source_name x c a = option_and_then (name_of x) (rf c a)

abbrev pub all_there : (ℕ → ℕ → ℕ → Bool) → Option ℕ → Option ℕ → Option ℕ → Bool
all_there test None o u = false
all_there test (Some i) o u = both_there (test i) o u

-- rule 12 through the store of instruction `middle`
abbrev pub named_through : List Step → (first middle last : ℕ) → Bool
named_through steps first middle last =
    all_there (λ i k j. accesses_at steps i && accesses_at steps k && accesses_at steps j && through steps i k j)
    (place_of steps first) (place_of steps middle) (place_of steps last)

abbrev pub always_through : List (List Step) → (first middle last : ℕ) → Bool
always_through runs first middle last = list_all (λ steps. named_through steps first middle last) runs
