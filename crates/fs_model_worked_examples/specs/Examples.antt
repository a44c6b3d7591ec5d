-- Small runs with an order, each to show one of the rules. Not each is an execution: where the order goes against the
-- rule, the axioms refuse it. The harts' operations have the numbers 0, 1, .. in their order here, and the initial
-- stores come after them. Location 0 has address 4096, and location 1 has address 4112; both hold 0 at first, where
-- nothing else is said.
use Rattle.std.specs.Prelude.{ℕ, Bool, true, false, Option, None, Some, List, [], ◌∷◌, filter, pos}
use Rattle.fs_kinds.specs.declared.kind.Kind.{Kind}
use Rattle.fs_kinds.specs.declared.placement.Entry.{Entry}
use Rattle.fs_instr.specs.declared.names.Ann.{Ann}
use Rattle.fs_instr.specs.declared.names.AmoOp.TheVariants.{Swap}
use Rattle.fs_instr.specs.declared.names.RegOp.TheVariants.{Xor}
use Rattle.fs_instr.specs.declared.names.BranchOp.TheVariants.{Bne}
use Rattle.fs_instr.specs.declared.letters.Letters.{Letters}
use Rattle.fs_instr.specs.declared.instr.Instr.{Instr}
use Rattle.fs_instr.specs.declared.instr.Instr.TheVariants.{Register, Li, Lw, Sw, Lr, Sc, Amo, Branch}
use Rattle.fs_model.specs.Slots.{slot_at}
use Rattle.fs_model.specs.declared.step.Step.{Step}
use Rattle.fs_model.specs.Operations.{PreExecution}
use Rattle.fs_model.specs.Source.{source_in}
use Rattle.fs_model.specs.Preserved.{Rule, rule, all_rules}

-- the rules of which a before b is a case, where the harts' operations come in this order
abbrev pub rules_of : PreExecution → List Entry → List ℕ → ℕ → ℕ → List Rule
rules_of x p order a b = filter (rule x p (source_in x order) a b) all_rules

-- ---- steps; what the registers hold is left open

abbrev step : ℕ → Instr → (address loaded stored : Option ℕ) → Step
step at i address loaded stored = record { at = at; instr = i; address = address; loaded = loaded; stored = stored }

-- a step that accesses nothing
abbrev quiet : ℕ → Instr → Step
quiet at i = step at i None None None

abbrev annotated : (aq rl : Bool) → Ann
annotated aq rl = record { acquire = aq; release = rl }

abbrev plain : Ann
plain = annotated false false

abbrev lw : ℕ → (rd base address word : ℕ) → Step
lw at rd base address word = step at (Lw plain rd base (pos 0)) (Some address) (Some word) None

abbrev sw : ℕ → (value base address word : ℕ) → Step
sw at value base address word = step at (Sw plain value base (pos 0)) (Some address) None (Some word)

abbrev lr : ℕ → Ann → (rd base address word : ℕ) → Step
lr at ann rd base address word = step at (Lr ann rd base) (Some address) (Some word) None

abbrev sc : ℕ → Ann → (rd value base address word : ℕ) → Step
sc at ann rd value base address word = step at (Sc ann rd value base) (Some address) None (Some word)

-- an sc.w that fails
abbrev failed : ℕ → (rd value base : ℕ) → Step
failed at rd value base = quiet at (Sc plain rd value base)

abbrev swap : ℕ → Ann → (rd value base address old new : ℕ) → Step
swap at ann rd value base address old new = step at (Amo Swap ann rd value base) (Some address) (Some old) (Some new)

abbrev bne : ℕ → (first second target : ℕ) → Step
bne at first second target = quiet at (Branch Bne first second target)

abbrev of_two_words : List (List Step) → PreExecution
of_two_words traces = record { traces = traces; words = 0 ∷ 0 ∷ [] }

abbrev with_first_word : ℕ → List (List Step) → PreExecution
with_first_word word traces = record { traces = traces; words = word ∷ 0 ∷ [] }

-- a fence of a kind before the instruction of a hart at a position
abbrev pub fence_at : ℕ → ℕ → Kind → List Entry
fence_at hart position kind = record { slot = slot_at hart position; kind = Some kind } ∷ []

-- the letters o and i of a fence
abbrev pub output : Letters
output = record { input = false; output = true; reads = false; writes = false }

abbrev pub input : Letters
input = record { input = true; output = false; reads = false; writes = false }

-- ---- overlapping addresses

-- lw x5,0(x6) / sw x7,0(x6)
unfoldable pub load_then_store : PreExecution
load_then_store = of_two_words ((lw 0 5 6 4096 0 ∷ sw 1 7 6 4096 1 ∷ []) ∷ [])

-- sw x5,0(x6) | lw x5,0(x6) / lw x7,0(x6), the loads returning 1 and 0
unfoldable pub coherent_reads : PreExecution
coherent_reads = of_two_words ((sw 0 5 6 4096 1 ∷ []) ∷ (lw 0 5 6 4096 1 ∷ lw 1 7 6 4096 0 ∷ []) ∷ [])

-- lr.w x5,(x6) / sc.w x7,x9,(x6) / lw x8,0(x6), the sc.w succeeding and the lw returning its word
unfoldable pub reserved : PreExecution
reserved = of_two_words ((lr 0 plain 5 6 4096 0 ∷ sc 1 plain 7 9 6 4096 1 ∷ lw 2 8 6 4096 1 ∷ []) ∷ [])

-- amoswap.w x5,x7,(x6) / lw x9,0(x6), the lw returning the word that is swapped in
unfoldable pub swap_then_read : PreExecution
swap_then_read = of_two_words ((swap 0 plain 5 7 6 4096 0 1 ∷ lw 1 9 6 4096 1 ∷ []) ∷ [])

-- sw x5,0(x6) / lw x7,0(x6), the lw returning the store's word
unfoldable pub store_then_read : PreExecution
store_then_read = of_two_words ((sw 0 5 6 4096 1 ∷ lw 1 7 6 4096 1 ∷ []) ∷ [])

-- lw x5,0(x6) / sw x7,0(x6) / lw x9,0(x6), the second load returning the store's word
unfoldable pub read_store_read : PreExecution
read_store_read = of_two_words ((lw 0 5 6 4096 0 ∷ sw 1 7 6 4096 1 ∷ lw 2 9 6 4096 1 ∷ []) ∷ [])

-- ---- explicit synchronization

-- sw x5,0(x6) / lw x7,0(x8)
unfoldable pub store_then_load : PreExecution
store_then_load = of_two_words ((sw 0 5 6 4096 1 ∷ lw 1 7 8 4112 0 ∷ []) ∷ [])

-- amoswap.w x5,x7,(x6) / lw x9,0(x8)
unfoldable pub swap_then_load : PreExecution
swap_then_load = of_two_words ((swap 0 plain 5 7 6 4096 0 1 ∷ lw 1 9 8 4112 0 ∷ []) ∷ [])

-- sw x5,0(x6) / an instruction / lw x7,0(x8)
unfoldable pub around : Instr → PreExecution
around i = of_two_words ((sw 0 5 6 4096 1 ∷ quiet 1 i ∷ lw 2 7 8 4112 0 ∷ []) ∷ [])

-- lw x5,0(x6) / an instruction / sw x7,0(x8)
unfoldable pub load_and_store_around : Instr → PreExecution
load_and_store_around i = of_two_words ((lw 0 5 6 4096 0 ∷ quiet 1 i ∷ sw 2 7 8 4112 1 ∷ []) ∷ [])

-- sw x5,0(x6) | sw x5,0(x6) / bne x5,x0,L / sw x5,0(x6) / L: lw x7,0(x8) / li x9,1 / lw x10,0(x8), the branch jumping
unfoldable pub jumped : PreExecution
jumped = of_two_words (
    (sw 0 5 6 4096 1 ∷ [])
    ∷ (sw 0 5 6 4096 1 ∷ bne 1 5 0 3 ∷ lw 3 7 8 4112 0 ∷ quiet 4 (Li 9 1) ∷ lw 5 10 8 4112 0 ∷ [])
    ∷ [])

-- lr.w x5,(x6) / lr.w x5,(x6) / sc.w x7,x9,(x6), the sc.w succeeding
unfoldable pub reserved_twice : PreExecution
reserved_twice = of_two_words ((lr 0 plain 5 6 4096 0 ∷ lr 1 plain 5 6 4096 0 ∷ sc 2 plain 7 9 6 4096 1 ∷ []) ∷ [])

-- lr.w x5,(x6) / sc.w x7,x9,(x6) / sc.w x7,x9,(x6), both failing
unfoldable pub tried_twice : List Step
tried_twice = lr 0 plain 5 6 4096 0 ∷ failed 1 7 9 6 ∷ failed 2 7 9 6 ∷ []

-- message passing: sw x5,0(x6) / amoswap.w.rl x9,x5,(x8) | lr.w.aq x5,(x8) / lw x7,0(x6), the loads returning 1 and 0
unfoldable pub message_passing : PreExecution
message_passing = of_two_words (
    (sw 0 5 6 4096 1 ∷ swap 1 (annotated false true) 9 5 8 4112 0 1 ∷ [])
    ∷ (lr 0 (annotated true false) 5 8 4112 1 ∷ lw 1 7 6 4096 0 ∷ [])
    ∷ [])

-- amoswap.w.rl x5,x7,(x6) / lr.w.aq x9,(x8)
unfoldable pub release_then_acquire : PreExecution
release_then_acquire = of_two_words ((swap 0 (annotated false true) 5 7 6 4096 0 1 ∷ lr 1 (annotated true false) 9 8 4112 0 ∷ []) ∷ [])

-- ---- dependencies

-- lw x5,0(x6) / lw x7,0(x5) / sw x9,0(x8), where location 0 holds its own address at first
unfoldable pub address_known_late : PreExecution
address_known_late = with_first_word 4096 ((lw 0 5 6 4096 4096 ∷ lw 1 7 5 4096 4096 ∷ sw 2 9 8 4112 1 ∷ []) ∷ [])

-- lw x5,0(x6) / sw x5,0(x8) / lw x7,0(x8), the second load returning the store's word; location 0 holds 1 at first
unfoldable pub forwarded : PreExecution
forwarded = with_first_word 1 ((lw 0 5 6 4096 1 ∷ sw 1 5 8 4112 1 ∷ lw 2 7 8 4112 1 ∷ []) ∷ [])

-- lw x5,0(x6) / bne x5,x0,L / sw x9,0(x8) / L:
unfoldable pub branched : PreExecution
branched = of_two_words ((lw 0 5 6 4096 0 ∷ bne 1 5 0 3 ∷ sw 2 9 8 4112 1 ∷ []) ∷ [])

-- lw x5,0(x6) / xor x7,x9,x5 / sw x7,0(x8)
unfoldable pub carried : PreExecution
carried = of_two_words ((lw 0 5 6 4096 0 ∷ quiet 1 (Register Xor 7 9 5) ∷ sw 2 7 8 4112 0 ∷ []) ∷ [])

-- lw x5,0(x6) / li x5,1 / sw x5,0(x8)
unfoldable pub overwritten : PreExecution
overwritten = of_two_words ((lw 0 5 6 4096 0 ∷ quiet 1 (Li 5 1) ∷ sw 2 5 8 4112 1 ∷ []) ∷ [])

-- lw x5,0(x6) / bne x5,x0,L / lw x9,0(x8) / L:
unfoldable pub branch_then_load : PreExecution
branch_then_load = of_two_words ((lw 0 5 6 4096 0 ∷ bne 1 5 0 3 ∷ lw 2 9 8 4112 0 ∷ []) ∷ [])

-- lw x5,0(x6) / lw x7,0(x5) / lw x9,0(x8), where location 0 holds its own address at first
unfoldable pub address_then_load : PreExecution
address_then_load = with_first_word 4096 ((lw 0 5 6 4096 4096 ∷ lw 1 7 5 4096 4096 ∷ lw 2 9 8 4112 0 ∷ []) ∷ [])
