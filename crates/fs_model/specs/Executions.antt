-- 6. Executions and what they show (RISC-V Unprivileged ISA 20191213, chapter "RVWMO Memory Consistency Model", section
-- "Memory Model Axioms"). An execution of a program is a run of each hart, and a global memory order that obeys the
-- axioms. The progress axiom holds of each, since runs are finite.
use Rattle.std.specs.Prelude.{◌≡◌, ℕ, ◌<◌, ◌==◌, Bool, true, false, ◌&&◌, ◌||◌, not, Option, None, Some, List, [], ◌∷◌, ◌++◌, filter, map, length, option_and_then, unwrap_or, if◌then◌else◌}
use Rattle.std.specs.List.{range_with_len, last_or, list_all}
use Rattle.fs_model.specs.declared.step.Step.{Step}
use Rattle.fs_model.specs.declared.test.Quantifier.{Quantifier}
use Rattle.fs_model.specs.declared.test.Quantifier.TheVariants.{Exists, NotExists, Forall}
use Rattle.fs_model.specs.Instructions.{read}
use Rattle.fs_model.specs.Runs.{Program, registers_of, address_of, start_with, hart_after, IsTrace}
use Rattle.fs_model.specs.Operations.{PreExecution, accesses, steps_of, operation, is_load, is_store, same_word, same_hart, po, paired, is_same, numbers_below}
use Rattle.fs_model.specs.Rules.{ppo}

-- ---- orders

abbrev pub has_number : List ℕ → ℕ → Bool
has_number [] a = false
has_number (n ∷ ns) a = (n == a) || has_number ns a

-- both are in the order, and a is the earlier one
abbrev pub stands_before : List ℕ → ℕ → ℕ → Bool
stands_before [] a b = false
stands_before (n ∷ ns) a b = if n == a then has_number ns b else stands_before ns a b

-- the order lists each operation of the harts once, and nothing else
abbrev pub lists_each_once : PreExecution → List ℕ → Bool
lists_each_once x order = (length order == length (accesses x)) && list_all (has_number order) (numbers_below (length (accesses x)))

-- the global memory order: the initial stores by location, and then the harts' operations as listed
abbrev pub gmo : PreExecution → List ℕ → List ℕ
gmo x order = range_with_len (length (accesses x)) (length x.words) ++ order

-- ---- load value axiom

-- s is a store to the address of the load, and precedes it in the global memory order or in program order
abbrev pub may_return : PreExecution → List ℕ → ℕ → ℕ → Bool
may_return x order load s = is_store x s && same_word x s load && (stands_before (gmo x order) s load || po x s load)

-- the source of a load: the latest of these in the global memory order
abbrev pub source_in : PreExecution → List ℕ → ℕ → Option ℕ
source_in x order load = last_or None (filter (may_return x order load) (gmo x order))

-- each load returns the word of its source
abbrev pub ReturnsSources : PreExecution → (ℕ → Option ℕ) → Type 0
ReturnsSources x rf = (a : ℕ) → is_load x a ≡ true → (operation x a).loaded ≡ option_and_then (λ s. (operation x s).stored) (rf a)

-- ---- atomicity axiom

-- no store of another hart to the address of w stands after s and before w in the global memory order
abbrev pub HasNoneBetween : PreExecution → List ℕ → ℕ → ℕ → Type 0
HasNoneBetween x global s w =
    (m : ℕ) → is_store x m ≡ true → same_word x m w ≡ true → same_hart x m w ≡ false
    → stands_before global s m ≡ true → stands_before global m w ≡ true → ⊥

-- of paired operations r and w, the source of r precedes w, and no other hart stores to their address between
abbrev pub IsAtomic : PreExecution → (ℕ → Option ℕ) → List ℕ → Type 0
IsAtomic x rf global =
    (r w s : ℕ) → po x r w ≡ true → paired x r w ≡ true → rf r ≡ Some s
    → (stands_before global s w ≡ true) × HasNoneBetween x global s w

-- ---- executions

-- the global memory order respects preserved program order
abbrev pub Respects : List ℕ → (ℕ → ℕ → Type 0) → Type 0
Respects global Before = (a b : ℕ) → Before a b → stands_before global a b ≡ true

-- an order of the harts' operations obeys the axioms
pub record ObeysAxioms (x : PreExecution) (order : List ℕ) : Type 0 where
  pub once : lists_each_once x order ≡ true
  pub preserved : Respects (gmo x order) (λ a b. ppo x (source_in x order) a b ≡ true)
  pub values : ReturnsSources x (source_in x order)
  pub atomic : IsAtomic x (source_in x order) (gmo x order)

-- the steps of each hart, and the order of the harts' operations, by their numbers
pub record Execution : Type 0 where
  pub traces : List (List Step)
  pub order : List ℕ

abbrev pub pre_execution : Program → List (List Step) → PreExecution
pre_execution t traces = record { traces = traces; words = map (λ location. location.word) t.locations }

pub record IsExecution (t : Program) (e : Execution) : Type 0 where
  pub harts : length e.traces ≡ length t.codes
  pub runs : (hart : ℕ) → hart < length t.codes → IsTrace t hart (steps_of e.traces hart)
  pub axioms : ObeysAxioms (pre_execution t e.traces) e.order

-- ---- final states: the registers at the end of each run, and of each location the word of its last store in the
-- global memory order

abbrev pub final_register : Program → Execution → (hart reg : ℕ) → ℕ
final_register t e hart reg = read (hart_after (start_with (registers_of t hart)) (steps_of e.traces hart)).registers reg

abbrev pub is_store_to : PreExecution → ℕ → ℕ → Bool
is_store_to x location a = is_store x a && is_same (operation x a).address (Some (address_of location))

abbrev pub last_word : PreExecution → List ℕ → ℕ → ℕ
last_word x order location =
    unwrap_or (option_and_then (λ a. (operation x a).stored) (last_or None (filter (is_store_to x location) (gmo x order)))) 0

abbrev pub final_word : Program → Execution → (location : ℕ) → ℕ
final_word t e location = last_word (pre_execution t e.traces) e.order location

-- ---- the outcome that a test asks for

-- true, false, the two atoms, and ~, /\ and \/
pub data Condition : Type 0 where
  Always : Condition
  Never : Condition
  RegisterIs : (hart reg word : ℕ) → Condition
  LocationIs : (location word : ℕ) → Condition
  Deny : Condition → Condition
  Both : Condition → Condition → Condition
  Either : Condition → Condition → Condition

pub record Outcome : Type 0 where
  pub quantifier : Quantifier
  pub condition : Condition

-- the condition is true, where register h r is the word of a register and word k that of a location
abbrev pub holds : (ℕ → ℕ → ℕ) → (ℕ → ℕ) → Condition → Bool
holds register word Always = true
holds register word Never = false
holds register word (RegisterIs hart reg w) = register hart reg == w
holds register word (LocationIs location w) = word location == w
holds register word (Deny c) = not (holds register word c)
holds register word (Both c d) = holds register word c && holds register word d
holds register word (Either c d) = holds register word c || holds register word d

-- with forall it is the denial of the condition
abbrev pub is_outcome : Quantifier → Bool → Bool
is_outcome Exists condition = condition
is_outcome NotExists condition = condition
is_outcome Forall condition = not condition

abbrev pub has_outcome : Program → Outcome → Execution → Bool
has_outcome t o e = is_outcome o.quantifier (holds (final_register t e) (final_word t e) o.condition)

-- some execution shows the outcome
abbrev pub Allows : Program → Outcome → Type 0
Allows t o = (e : Execution) × IsExecution t e × (has_outcome t o e ≡ true)
