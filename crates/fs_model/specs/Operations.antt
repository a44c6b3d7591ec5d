-- 4. Memory operations, program order and syntactic dependencies (RISC-V Unprivileged ISA 20191213, chapter "RVWMO
-- Memory Consistency Model", sections "Memory Model Primitives" and "Syntactic Dependencies"). An operation is known by
-- its number: hart by hart in program order, and then the initial stores, location by location, which are of no hart.
-- Its place is its step's in the run, which is not its position in the code. An AMO is one operation, which loads and
-- stores. All accesses are of aligned words, so two overlap where their addresses are the same.
use Rattle.std.specs.Prelude.{ℕ, zero, suc, ◌+◌, ◌-◌, ◌==◌, false, nat_lt, Bool, Option, ◌&&◌, ◌||◌, not, None, Some, is_some, option_map, unwrap_or, List, [], ◌++◌, map, filter, length, slice_get}
use Rattle.std.specs.List.{enumerate_from, flat_map, list_any, range_with_len, slice_index_or}
use Rattle.fs_kinds.specs.declared.kind.Classes.{Classes}
use Rattle.fs_instr.specs.declared.instr.Instr.{Instr}
use Rattle.fs_model.specs.Runs as runs
use Rattle.fs_model.specs.declared.operation.Operation.{Operation}
use Rattle.fs_model.specs.declared.step.Step.{Step}
use Rattle.fs_instr.specs.Roles.{nop, is_lr, is_sc, is_amo, annotation, dest_of, sources_of, address_of, data_of, carries_of, is_conditional}

-- ---- numbers

abbrev pub numbers_below : ℕ → List ℕ
numbers_below n = range_with_len 0 n

-- the numbers after i and before j
abbrev pub between : ℕ → ℕ → List ℕ
between i j = range_with_len (i + 1) (j - (i + 1))

-- both are there, and they are the same number
abbrev pub is_same : Option ℕ → Option ℕ → Bool
is_same (Some a) (Some b) = a == b
is_same (Some a) None = false
is_same None b = false

-- ---- operations

-- What an execution has before any order, x below: a run of each hart, and the words that the locations begin with (a
-- herd reader's event structure, with its words).
pub record PreExecution : Type 0 where
  pub traces : List (List Step)
  pub words : List ℕ

abbrev pub access_of : ℕ → ℕ × Step → Operation
access_of hart (place, s) =
    record { hart = Some hart; place = place; instr = s.instr; address = s.address; loaded = s.loaded; stored = s.stored }

-- each step that accesses memory is an operation, so a failed sc.w is none
abbrev pub accesses_of : ℕ × List Step → List Operation
accesses_of (hart, steps) = map (access_of hart) (filter (λ numbered. is_some numbered.1.address) (enumerate_from 0 steps))

abbrev pub accesses : PreExecution → List Operation
accesses x = flat_map accesses_of (enumerate_from 0 x.traces)

abbrev pub initial_store : ℕ × ℕ → Operation
initial_store (location, word) = record { hart = None; place = 0; instr = nop; address = Some (runs.address_of location); loaded = None; stored = Some word }

abbrev pub operations : PreExecution → List Operation
operations x = accesses x ++ map initial_store (enumerate_from 0 x.words)

-- a number past the last is that of nothing: no hart, no address, no word
abbrev pub nothing : Operation
nothing = record { hart = None; place = 0; instr = nop; address = None; loaded = None; stored = None }

abbrev pub operation : PreExecution → ℕ → Operation
operation x a = slice_index_or (operations x) a nothing

-- the place of its step in the run of its hart
abbrev pub place : PreExecution → ℕ → ℕ
place x a = (operation x a).place

abbrev pub is_load : PreExecution → ℕ → Bool
is_load x a = is_some (operation x a).loaded

abbrev pub is_store : PreExecution → ℕ → Bool
is_store x a = is_some (operation x a).stored

-- whether it loads, and whether it stores
abbrev pub classes : PreExecution → ℕ → Classes
classes x a = record { reads = is_load x a; writes = is_store x a }

-- both access the same address (loc in cat), whatever they load or store there
abbrev pub same_word : PreExecution → ℕ → ℕ → Bool
same_word x a b = is_same (operation x a).address (operation x b).address

abbrev pub same_hart : PreExecution → ℕ → ℕ → Bool
same_hart x a b = is_same (operation x a).hart (operation x b).hart

-- program order
abbrev pub precedes : Operation → Operation → Bool
precedes a b = is_same a.hart b.hart && nat_lt a.place b.place

abbrev pub po : PreExecution → ℕ → ℕ → Bool
po x a b = precedes (operation x a) (operation x b)

-- some operation between a and b in program order passes the test
abbrev pub any_between : PreExecution → (ℕ → Bool) → ℕ → ℕ → Bool
any_between x test a b = list_any (λ m. po x a m && po x m b && test m) (numbers_below (length (accesses x)))

-- annotations: aq acquires and rl releases, and each of them is RCsc. (In the manual lr.w with rl alone and sc.w with
-- aq alone have none; no test has these instructions: IsOfTable.)
abbrev pub is_acquire : PreExecution → ℕ → Bool
is_acquire x a = (annotation (operation x a).instr).acquire

abbrev pub is_release : PreExecution → ℕ → Bool
is_release x a = (annotation (operation x a).instr).release

abbrev pub is_rcsc : PreExecution → ℕ → Bool
is_rcsc x a = is_acquire x a || is_release x a

abbrev pub is_amo_or_sc : PreExecution → ℕ → Bool
is_amo_or_sc x a = is_amo (operation x a).instr || is_sc (operation x a).instr

-- the run of a hart, that of an operation's hart, and the instruction of a run's step number k
abbrev pub steps_of : List (List Step) → ℕ → List Step
steps_of traces hart = slice_index_or traces hart []

abbrev pub trace_of : PreExecution → ℕ → List Step
trace_of x a = unwrap_or (option_map (steps_of x.traces) (operation x a).hart) []

abbrev pub instr_at : List Step → ℕ → Instr
instr_at steps k = unwrap_or (option_map (λ s. s.instr) (slice_get steps k)) nop

-- an lr.w and a later sc.w with no other lr.w or sc.w between
abbrev pub are_paired : List Step → ℕ → ℕ → Bool
are_paired steps i j =
    nat_lt i j && is_lr (instr_at steps i) && is_sc (instr_at steps j)
    && not (list_any (λ k. is_lr (instr_at steps k) || is_sc (instr_at steps k)) (between i j))

-- the same of operations of one hart
abbrev pub paired : PreExecution → ℕ → ℕ → Bool
paired x a b = are_paired (trace_of x a) (place x a) (place x b)

-- ---- syntactic dependencies between the steps of a run, which are known by their place in it

-- the register is the destination of step i
abbrev pub writes : List Step → ℕ → Option ℕ → Bool
writes steps i register = is_same (dest_of (instr_at steps i)) register

-- For i before j: step j depends on step i through its source `register`, where they are at most so far apart. i writes
-- the register and no step between does, or a step m between depends on i through a source from which it carries, and j
-- depends on m.
abbrev pub depends_within : ℕ → List Step → ℕ → ℕ → Option ℕ → Bool
depends_within zero steps i j register = false
depends_within (suc d) steps i j register =
    writes steps i register && not (list_any (λ m. writes steps m register) (between i j))
    || list_any (λ m. carries_of (instr_at steps m) && list_any (depends_within d steps i m) (sources_of (instr_at steps m)) && depends_within d steps m j register)
    (between i j)

abbrev pub depends : List Step → ℕ → ℕ → Option ℕ → Bool
depends steps i j register = nat_lt i j && depends_within (j - i) steps i j register

abbrev pub address_depends : List Step → ℕ → ℕ → Bool
address_depends steps i j = depends steps i j (address_of (instr_at steps j))

abbrev pub data_depends : List Step → ℕ → ℕ → Bool
data_depends steps i j = depends steps i j (data_of (instr_at steps j))

-- a conditional branch between them depends on i
abbrev pub control_depends : List Step → ℕ → ℕ → Bool
control_depends steps i j =
    list_any (λ m. is_conditional (instr_at steps m) && list_any (depends steps i m) (sources_of (instr_at steps m))) (between i j)

-- ---- the same between operations of one hart: b depends on a

abbrev pub address_dependency : PreExecution → ℕ → ℕ → Bool
address_dependency x a b = address_depends (trace_of x a) (place x a) (place x b)

-- (the manual asks that b is a store: only stores and AMOs have a data source)
abbrev pub data_dependency : PreExecution → ℕ → ℕ → Bool
data_dependency x a b = data_depends (trace_of x a) (place x a) (place x b)

abbrev pub control_dependency : PreExecution → ℕ → ℕ → Bool
control_dependency x a b = control_depends (trace_of x a) (place x a) (place x b)

-- an instruction between a and b has an address dependency on a
abbrev pub address_between : PreExecution → ℕ → ℕ → Bool
address_between x a b = list_any (address_depends (trace_of x a) (place x a)) (between (place x a) (place x b))
