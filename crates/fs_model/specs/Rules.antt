-- 5. Fences, and preserved program order (RISC-V Unprivileged ISA 20191213, chapter "RVWMO Memory Consistency Model",
-- section "Preserved Program Order"; for what a FENCE orders chapter "RV32I Base Integer Instruction Set", section
-- "Memory Ordering Instructions").
use Rattle.std.specs.Prelude.{ℕ, Bool, false, ◌&&◌, ◌||◌, not, Option, Some, List, [], ◌∷◌}
use Rattle.std.specs.List.{list_any}
use Rattle.fs_instr.specs.declared.instr.Instr.{Instr}
use Rattle.fs_instr.specs.declared.instr.Instr.TheVariants.{Fence, FenceTso}
use Rattle.fs_kinds.specs.declared.kind.Classes.{Classes}
use Rattle.fs_kinds.specs.Kind.{pairs_order, product, tso_pairs}
use Rattle.fs_model.specs.Operations.{PreExecution, is_load, is_store, same_word, po, any_between, is_acquire, is_release, is_rcsc, is_amo_or_sc, paired, is_same, between, place, classes, trace_of, instr_at, address_dependency, data_dependency, control_dependency, address_between}

-- ---- fences. The letters i and o, for devices, order no memory operation.

-- The instruction is a FENCE that orders operations of the first classes before those of the second: where a letter r
-- or w before the comma is among the first, and one behind it among the second. fence.tso orders a load before all, and
-- a store before a store. fence.i orders the fetching of instructions, which isn't modelled. (Sets of pairs of classes are in `Kind` of fs_kinds. By letters: the law rule_4_by_letters.)
abbrev pub instr_orders : Classes → Classes → Instr → Bool
instr_orders first second (Fence before after) = pairs_order (product before.reads before.writes after.reads after.writes) first second
instr_orders first second FenceTso = pairs_order tso_pairs first second
instr_orders first second _ = false

-- there is one between a and b in program order that orders them
abbrev pub fence_between : PreExecution → ℕ → ℕ → Bool
fence_between x a b = list_any (λ k. instr_orders (classes x a) (classes x b) (instr_at (trace_of x a) k)) (between (place x a) (place x b))

-- ---- the manual's rules, by their numbers, and beside each its line in riscv-defs.cat of the manual's appendix. All
-- locations are main memory, so what the manual asks of a and b there is left out.

pub data Rule : Type 0 where
  Rule1 Rule2 Rule3 Rule4 Rule5 Rule6 Rule7 Rule8 Rule9 Rule10 Rule11 Rule12 Rule13 : Rule

abbrev pub all_rules : List Rule
all_rules = Rule1 ∷ Rule2 ∷ Rule3 ∷ Rule4 ∷ Rule5 ∷ Rule6 ∷ Rule7 ∷ Rule8 ∷ Rule9 ∷ Rule10 ∷ Rule11 ∷ Rule12 ∷ Rule13 ∷ []

-- For operations a and b. rf goes from a load to its source, the operation that wrote what it returns; in cat it goes
-- the other way.
module _ (x : PreExecution) (rf : ℕ → Option ℕ) (a b : ℕ) where
  -- what each rule asks besides program order
  abbrev pub case_of : Rule → Bool
  -- Overlapping addresses. b is a store to the address of a:                             [M];po-loc;[W]
  case_of Rule1 = is_store x b && same_word x a b
  -- loads of one address, with no store to it between, that return different stores:     ([R];po-loc-no-w;[R]) \ rsw
  -- (loads without a source would count as such; in an execution each has one. Of an AMO a the own store isn't between)
  case_of Rule2 =
      is_load x a && is_load x b && same_word x a b
      && not (any_between x (λ m. is_store x m && same_word x m a) a b) && not (is_same (rf a) (rf b))
  -- b returns what the AMO or sc.w a stored:                                             [AMO|StCond];rfi;[R]
  case_of Rule3 = is_amo_or_sc x a && is_load x b && is_same (rf b) (Some a)
  -- Explicit synchronization. A FENCE orders a before b:                                 fence
  case_of Rule4 = fence_between x a b
  -- a acquires:                                                                          [AQ];po;[M]
  case_of Rule5 = is_acquire x a
  -- b releases:                                                                          [M];po;[RL]
  case_of Rule6 = is_release x b
  -- both are annotated, and so RCsc:                                                     [RCsc];po;[RCsc]
  case_of Rule7 = is_rcsc x a && is_rcsc x b
  -- a is paired with b, which is an operation, so the sc.w succeeded:                    rmw
  case_of Rule8 = paired x a b
  -- Syntactic dependencies. b has an address dependency on a:                            [M];addr;[M]
  case_of Rule9 = address_dependency x a b
  -- b has a data dependency on a:                                                        [M];data;[W]
  case_of Rule10 = data_dependency x a b
  -- the store b has a control dependency on a:                                           [M];ctrl;[W]
  case_of Rule11 = is_store x b && control_dependency x a b
  -- Pipeline dependencies. b returns what a store m between stored, whose address or data depends on a:
  -- [M];(addr|data);[W];rfi;[R]
  case_of Rule12 =
      is_load x b && any_between x (λ m. is_store x m && (address_dependency x a m || data_dependency x a m) && is_same (rf b) (Some m)) a b
  -- b is a store, and the address of an instruction between depends on a:                [M];addr;[M];po;[W]
  -- (as in the manual it may be any that has an address: a failed sc.w too, which is no [M] in cat)
  case_of Rule13 = is_store x b && address_between x a b

  -- a before b in program order is a case of the rule
  abbrev pub rule : Rule → Bool
  rule r = po x a b && case_of r

  -- a before b is in preserved program order
  abbrev pub ppo : Bool
  ppo = list_any rule all_rules
