-- Small tests, each with the runs of its harts over the value sets. In all of them x5 is 1, x10 is 2, x6 is the
-- address of x and x8 that of y, and x and y hold 0 at first.
use Rattle.std.specs.Prelude.{ℕ, ◌+◌, false, Option, None, Some, List, [], ◌∷◌, ◌++◌, pos, codes}
use Rattle.std.specs.List.{flat_map, slice_index_or}
use Rattle.fs_model.specs.Numbers.{numbers_below}
use Rattle.std.proofs.Common.{Box}
use Rattle.std.specs.declared.alloc.Global.{Global}
use Rattle.fs_instr.specs.declared.names.Ann.{Ann}
use Rattle.fs_instr.specs.declared.names.AmoOp.TheVariants.{Swap}
use Rattle.fs_instr.specs.declared.names.BranchOp.TheVariants.{Beq, Bne}
use Rattle.fs_instr.specs.declared.names.ImmOp.TheVariants.{Addi, Ori}
use Rattle.fs_instr.specs.declared.instr.Instr.{Instr}
use Rattle.fs_instr.specs.declared.instr.Instr.TheVariants.{Immediate, Lw, Sw, Lr, Sc, Amo, Branch}
use Rattle.fs_model.specs.declared.outcome.Outcome.{Outcome}
use Rattle.fs_model.specs.declared.outcome.Outcome.TheVariants as outcome
use Rattle.fs_model.specs.declared.test.Test.{Test}
use Rattle.fs_model.specs.declared.test.Quantifier.{Quantifier}
use Rattle.fs_model.specs.declared.test.Quantifier.TheVariants.{Exists, Forall}
use Rattle.fs_model.specs.declared.step.Step.{Step}

-- where the parts of a condition lie in memory
abbrev pub Place : Type 0
Place = Box (Unit {0}) Global

abbrev start : List ℕ
start =
    0 ∷ 0 ∷ 0 ∷ 0 ∷ 0 ∷ 1 ∷ 4096 ∷ 0 ∷ 4112 ∷ 0 ∷ 2 ∷ 0 ∷ 0 ∷ 0 ∷ 0 ∷ 0
    ∷ 0 ∷ 0 ∷ 0 ∷ 0 ∷ 0 ∷ 0 ∷ 0 ∷ 0 ∷ 0 ∷ 0 ∷ 0 ∷ 0 ∷ 0 ∷ 0 ∷ 0 ∷ 0 ∷ []

-- a test of two harts
abbrev test : (first second : List Instr) → Quantifier → Outcome → Test
test first second quantifier condition = record {
  name = codes "T";
  codes = first ∷ second ∷ [];
  starts = start ∷ start ∷ [];
  locations = record { name = codes "x"; word = 0 } ∷ record { name = codes "y"; word = 0 } ∷ [];
  quantifier = quantifier;
  condition = condition;
}

-- the runs of two harts
abbrev pub runs : (first second : List (List Step)) → ℕ → List (List Step)
runs first second hart = slice_index_or (first ∷ second ∷ []) hart []

-- ---- instructions and their steps

abbrev pub x : ℕ
x = 6

abbrev pub y : ℕ
y = 8

abbrev address : (base : ℕ) → ℕ
address base = slice_index_or start base 0

abbrev pub plain : Ann
plain = record { acquire = false; release = false }

abbrev load : (rd base : ℕ) → Instr
load rd base = Lw plain rd base (pos 0)

abbrev store : (value base : ℕ) → Instr
store value base = Sw plain value base (pos 0)

abbrev step : ℕ → Instr → (address loaded stored : Option ℕ) → Step
step at i address loaded stored = record { at = at; instr = i; address = address; loaded = loaded; stored = stored }

abbrev pub lw : ℕ → (rd base word : ℕ) → Step
lw at rd base word = step at (load rd base) (Some (address base)) (Some word) None

abbrev pub sw : ℕ → (value base : ℕ) → Step
sw at value base = step at (store value base) (Some (address base)) None (Some (slice_index_or start value 0))

-- ---- store buffering: sw x5,x / lw x7,y | sw x5,y / lw x7,x

-- exists (0:x7=0 /\ 1:x7=0)
abbrev pub sb : Place → Test
sb p =
    test (store 5 x ∷ load 7 y ∷ []) (store 5 y ∷ load 7 x ∷ []) Exists
    (outcome.Both' p (outcome.RegisterIs 0 7 0) p (outcome.RegisterIs 1 7 0))

-- exists (0:x7=2 \/ (0:x7=0 /\ 1:x7=0)), of which the first can't be
abbrev pub sb_or : Place → Test
sb_or p =
    test (store 5 x ∷ load 7 y ∷ []) (store 5 y ∷ load 7 x ∷ []) Exists
    (outcome.Either' p (outcome.RegisterIs 0 7 2)
    p (outcome.Both' p (outcome.RegisterIs 0 7 0) p (outcome.RegisterIs 1 7 0)))

abbrev pub sb_runs : ℕ → List (List Step)
sb_runs =
    runs ((sw 0 5 x ∷ lw 1 7 y 0 ∷ []) ∷ (sw 0 5 x ∷ lw 1 7 y 1 ∷ []) ∷ [])
    ((sw 0 5 y ∷ lw 1 7 x 0 ∷ []) ∷ (sw 0 5 y ∷ lw 1 7 x 1 ∷ []) ∷ [])

-- ---- message passing: sw x5,x / sw x5,y | lw x7,y / lw x9,x

-- exists (1:x7=1 /\ 1:x9=0)
abbrev pub mp : Place → Test
mp p =
    test (store 5 x ∷ store 5 y ∷ []) (load 7 y ∷ load 9 x ∷ []) Exists
    (outcome.Both' p (outcome.RegisterIs 1 7 1) p (outcome.RegisterIs 1 9 0))

-- the same as forall (1:x7=0 \/ ~1:x9=0)
abbrev pub mp_forall : Place → Test
mp_forall p =
    test (store 5 x ∷ store 5 y ∷ []) (load 7 y ∷ load 9 x ∷ []) Forall
    (outcome.Either' p (outcome.RegisterIs 1 7 0) p (outcome.Deny' p (outcome.RegisterIs 1 9 0)))

abbrev loads : (base word next other : ℕ) → List Step
loads base word next other = lw 0 7 base word ∷ lw 1 9 next other ∷ []

abbrev four_loads : (base next : ℕ) → List (List Step)
four_loads base next = loads base 0 next 0 ∷ loads base 0 next 1 ∷ loads base 1 next 0 ∷ loads base 1 next 1 ∷ []

abbrev pub mp_runs : ℕ → List (List Step)
mp_runs = runs ((sw 0 5 x ∷ sw 1 5 y ∷ []) ∷ []) (four_loads y x)

-- ---- coherent reads: sw x5,x | lw x7,x / lw x9,x

-- exists (1:x7=1 /\ 1:x9=0)
abbrev pub corr : Place → Test
corr p =
    test (store 5 x ∷ []) (load 7 x ∷ load 9 x ∷ []) Exists
    (outcome.Both' p (outcome.RegisterIs 1 7 1) p (outcome.RegisterIs 1 9 0))

abbrev pub corr_runs : ℕ → List (List Step)
corr_runs = runs ((sw 0 5 x ∷ []) ∷ []) (four_loads x x)

-- ---- a pair and a store: lr.w x7,x / sc.w x9,x5,x | sw x10,x

abbrev pair : List Instr
pair = Lr plain 7 x ∷ Sc plain 9 5 x ∷ []

-- exists (0:x7=word /\ (0:x9=0 /\ x=last)): the pair's store succeeds
abbrev paired : (word last : ℕ) → Place → Test
paired word last p =
    test pair (store 10 x ∷ []) Exists
    (outcome.Both' p (outcome.RegisterIs 0 7 word)
    p (outcome.Both' p (outcome.RegisterIs 0 9 0) p (outcome.LocationIs 0 last)))

-- the store comes after what the pair loads and before what it stores
abbrev pub parted : Place → Test
parted = paired 0 1

-- the pair loads the store's word, and the store comes last
abbrev pub reversed : Place → Test
reversed = paired 2 2

abbrev pub reserve : (word : ℕ) → Step
reserve word = step 0 (Lr plain 7 x) (Some (address x)) (Some word) None

abbrev pub success : Step
success = step 1 (Sc plain 9 5 x) (Some (address x)) None (Some 1)

abbrev pub failure : Step
failure = step 1 (Sc plain 9 5 x) None None None

abbrev pub succeeds : (word : ℕ) → List Step
succeeds word = reserve word ∷ success ∷ []

abbrev pub fails : (word : ℕ) → List Step
fails word = reserve word ∷ failure ∷ []

abbrev pub pair_runs : ℕ → List (List Step)
pair_runs =
    runs (succeeds 0 ∷ fails 0 ∷ succeeds 1 ∷ fails 1 ∷ succeeds 2 ∷ fails 2 ∷ [])
    ((sw 0 10 x ∷ []) ∷ [])

-- ---- a store of the pair's own hart between: lr.w x7,x / sw x10,x / sc.w x9,x5,x | sw x10,y

-- exists 0:x9=0
abbrev pub inner : Place → Test
inner p = test (Lr plain 7 x ∷ store 10 x ∷ Sc plain 9 5 x ∷ []) (store 10 y ∷ []) Exists (outcome.RegisterIs 0 9 0)

abbrev inner_succeeds : (word : ℕ) → List Step
inner_succeeds word = reserve word ∷ sw 1 10 x ∷ step 2 (Sc plain 9 5 x) (Some (address x)) None (Some 1) ∷ []

abbrev inner_fails : (word : ℕ) → List Step
inner_fails word = reserve word ∷ sw 1 10 x ∷ step 2 (Sc plain 9 5 x) None None None ∷ []

abbrev pub inner_runs : ℕ → List (List Step)
inner_runs =
    runs (inner_succeeds 0 ∷ inner_fails 0 ∷ inner_succeeds 1 ∷ inner_fails 1 ∷ inner_succeeds 2 ∷ inner_fails 2 ∷ [])
    ((sw 0 10 y ∷ []) ∷ [])

-- ---- a guarded store: lw x7,x / beq x7,x0,3 / sw x5,y | lw x7,y / sw x5,x

-- exists (0:x7=1 /\ 1:x7=1)
abbrev pub guarded : Place → Test
guarded p =
    test (load 7 x ∷ Branch Beq 7 0 3 ∷ store 5 y ∷ []) (load 7 y ∷ store 5 x ∷ []) Exists
    (outcome.Both' p (outcome.RegisterIs 0 7 1) p (outcome.RegisterIs 1 7 1))

abbrev branch : Step
branch = step 1 (Branch Beq 7 0 3) None None None

abbrev pub guarded_runs : ℕ → List (List Step)
guarded_runs =
    runs ((lw 0 7 x 0 ∷ branch ∷ []) ∷ (lw 0 7 x 1 ∷ branch ∷ sw 2 5 y ∷ []) ∷ [])
    ((lw 0 7 y 0 ∷ sw 1 5 x ∷ []) ∷ (lw 0 7 y 1 ∷ sw 1 5 x ∷ []) ∷ [])

-- ---- two swaps: amoswap.w x7,x5,x | amoswap.w x7,x5,x

-- exists (0:x7=0 /\ 1:x7=0)
abbrev pub swaps : Place → Test
swaps p =
    test (Amo Swap plain 7 5 x ∷ []) (Amo Swap plain 7 5 x ∷ []) Exists
    (outcome.Both' p (outcome.RegisterIs 0 7 0) p (outcome.RegisterIs 1 7 0))

abbrev swap : (word : ℕ) → List Step
swap word = step 0 (Amo Swap plain 7 5 x) (Some (address x)) (Some word) (Some 1) ∷ []

abbrev pub swap_runs : ℕ → List (List Step)
swap_runs = runs (swap 0 ∷ swap 1 ∷ []) (swap 0 ∷ swap 1 ∷ [])

-- ---- own stores: sw x5,x / lw x7,x | sw x10,x / sw x5,x

-- exists 0:x7=0: the load misses the store before it
abbrev pub own : Place → Test
own p = test (store 5 x ∷ load 7 x ∷ []) (store 10 x ∷ store 5 x ∷ []) Exists (outcome.RegisterIs 0 7 0)

-- forall ~x=2: the second store of hart 1 isn't last
abbrev pub last : Place → Test
last p =
    test (store 5 x ∷ load 7 x ∷ []) (store 10 x ∷ store 5 x ∷ []) Forall (outcome.Deny' p (outcome.LocationIs 0 2))

abbrev pub own_runs : ℕ → List (List Step)
own_runs =
    runs ((sw 0 5 x ∷ lw 1 7 x 0 ∷ []) ∷ (sw 0 5 x ∷ lw 1 7 x 1 ∷ []) ∷ (sw 0 5 x ∷ lw 1 7 x 2 ∷ []) ∷ [])
    ((sw 0 10 x ∷ sw 1 5 x ∷ []) ∷ [])

-- ---- an own store: sw x5,x / lw x7,x | sw x10,x / sw x10,x

-- exists 0:x7=1: the load returns the store before it, for nobody else stores 1
abbrev pub returned : Place → Test
returned p = test (store 5 x ∷ load 7 x ∷ []) (store 10 x ∷ store 10 x ∷ []) Exists (outcome.RegisterIs 0 7 1)

abbrev pub returned_runs : ℕ → List (List Step)
returned_runs =
    runs ((sw 0 5 x ∷ lw 1 7 x 0 ∷ []) ∷ (sw 0 5 x ∷ lw 1 7 x 1 ∷ []) ∷ (sw 0 5 x ∷ lw 1 7 x 2 ∷ []) ∷ [])
    ((sw 0 10 x ∷ sw 1 10 x ∷ []) ∷ [])

-- ---- load buffering with data: lw x7,x / sw x7,y | lw x9,y / sw x5,x

abbrev carry : (word : ℕ) → List Step
carry word = lw 0 7 x word ∷ step 1 (store 7 y) (Some (address y)) None (Some word) ∷ []

-- exists 1:x9=1
abbrev pub carried : Place → Test
carried p = test (load 7 x ∷ store 7 y ∷ []) (load 9 y ∷ store 5 x ∷ []) Exists (outcome.RegisterIs 1 9 1)

abbrev pub carried_runs : ℕ → List (List Step)
carried_runs =
    runs (carry 0 ∷ carry 1 ∷ []) ((lw 0 9 y 0 ∷ sw 1 5 x ∷ []) ∷ (lw 0 9 y 1 ∷ sw 1 5 x ∷ []) ∷ [])

-- ---- rule 12: lw x7,y / sw x7,x / lw x9,x | sw x5,x

-- exists 0:x9=0
abbrev pub through : Place → Test
through p = test (load 7 y ∷ store 7 x ∷ load 9 x ∷ []) (store 5 x ∷ []) Exists (outcome.RegisterIs 0 9 0)

abbrev handed : (word : ℕ) → List Step
handed word = lw 0 7 y 0 ∷ step 1 (store 7 x) (Some (address x)) None (Some 0) ∷ lw 2 9 x word ∷ []

abbrev pub through_runs : ℕ → List (List Step)
through_runs = runs (handed 0 ∷ handed 1 ∷ []) ((sw 0 5 x ∷ []) ∷ [])

-- ---- rule 3: amoswap.w x7,x5,x / lw x9,x | sw x10,x

-- exists 0:x9=1
abbrev pub swapped : Place → Test
swapped p = test (Amo Swap plain 7 5 x ∷ load 9 x ∷ []) (store 10 x ∷ []) Exists (outcome.RegisterIs 0 9 1)

abbrev swap_and_load : (old word : ℕ) → List Step
swap_and_load old word =
    step 0 (Amo Swap plain 7 5 x) (Some (address x)) (Some old) (Some 1) ∷ lw 1 9 x word ∷ []

abbrev pub swapped_runs : ℕ → List (List Step)
swapped_runs =
    runs (swap_and_load 0 0 ∷ swap_and_load 0 1 ∷ swap_and_load 0 2
    ∷ swap_and_load 2 0 ∷ swap_and_load 2 1 ∷ swap_and_load 2 2 ∷ [])
    ((sw 0 10 x ∷ []) ∷ [])

-- ---- conditions: lw x7,x | sw x5,x

abbrev seen : (word : ℕ) → List Step
seen word = lw 0 7 x word ∷ []

-- exists ~0:x7=0
abbrev pub denied : Place → Test
denied p = test (load 7 x ∷ []) (store 5 x ∷ []) Exists (outcome.Deny' p (outcome.RegisterIs 0 7 0))

-- exists (0:x7=0 \/ 0:x7=2)
abbrev pub either : Place → Test
either p =
    test (load 7 x ∷ []) (store 5 x ∷ []) Exists
    (outcome.Either' p (outcome.RegisterIs 0 7 0) p (outcome.RegisterIs 0 7 2))

-- forall (0:x7=0 /\ x=1)
abbrev pub not_both : Place → Test
not_both p =
    test (load 7 x ∷ []) (store 5 x ∷ []) Forall (outcome.Both' p (outcome.RegisterIs 0 7 0) p (outcome.LocationIs 0 1))

abbrev pub seen_runs : ℕ → List (List Step)
seen_runs = runs (seen 0 ∷ seen 1 ∷ []) ((sw 0 5 x ∷ []) ∷ [])

-- the guarded store, with exists y=word
abbrev pub guarded_end : (word : ℕ) → Place → Test
guarded_end word p =
    test (load 7 x ∷ Branch Beq 7 0 3 ∷ store 5 y ∷ []) (load 7 y ∷ store 5 x ∷ []) Exists (outcome.LocationIs 1 word)

-- ---- a guarded load: lw x7,x / beq x7,x0,3 / lw x9,y | sw x5,x / sw x5,y

-- exists 0:x9=0
abbrev pub behind : Place → Test
behind p =
    test (load 7 x ∷ Branch Beq 7 0 3 ∷ load 9 y ∷ []) (store 5 x ∷ store 5 y ∷ []) Exists (outcome.RegisterIs 0 9 0)

abbrev pub behind_runs : ℕ → List (List Step)
behind_runs =
    runs ((lw 0 7 x 0 ∷ branch ∷ [])
    ∷ (lw 0 7 x 1 ∷ branch ∷ lw 2 9 y 0 ∷ [])
    ∷ (lw 0 7 x 1 ∷ branch ∷ lw 2 9 y 1 ∷ []) ∷ [])
    ((sw 0 5 x ∷ sw 1 5 y ∷ []) ∷ [])

-- ---- a spinlock, in both harts: ori x5,x0,1 / amoswap.w x7,x5,x / bne x7,x0,8 / lw x9,y / addi x9,x9,1 / sw x9,y /
-- ori x14,x0,1 / amoswap.w x0,x0,x

abbrev adding : List Instr
adding =
    Immediate Ori 5 0 (pos 1) ∷ Amo Swap plain 7 5 x ∷ Branch Bne 7 0 8 ∷ load 9 y ∷ Immediate Addi 9 9 (pos 1)
    ∷ store 9 y ∷ Immediate Ori 14 0 (pos 1) ∷ Amo Swap plain 0 0 x ∷ []

-- exists (0:x14=1 /\ (1:x14=1 /\ y=1)): both harts have been in, and one addition is lost
abbrev pub spinlock : Place → Test
spinlock p =
    test adding adding Exists
    (outcome.Both' p (outcome.RegisterIs 0 14 1)
    p (outcome.Both' p (outcome.RegisterIs 1 14 1) p (outcome.LocationIs 1 1)))

abbrev computes : (at : ℕ) → Instr → Step
computes at i = step at i None None None

abbrev tries : (old : ℕ) → List Step
tries old =
    computes 0 (Immediate Ori 5 0 (pos 1)) ∷ step 1 (Amo Swap plain 7 5 x) (Some (address x)) (Some old) (Some 1)
    ∷ computes 2 (Branch Bne 7 0 8) ∷ []

-- what a hart does in the lock, and as it leaves
abbrev adds : (word old : ℕ) → List Step
adds word old =
    lw 3 9 y word ∷ computes 4 (Immediate Addi 9 9 (pos 1)) ∷ step 5 (store 9 y) (Some (address y)) None (Some (word + 1))
    ∷ computes 6 (Immediate Ori 14 0 (pos 1)) ∷ step 7 (Amo Swap plain 0 0 x) (Some (address x)) (Some old) (Some 0) ∷ []

-- there are six stores, so the counter is found to come to 6 at most
abbrev adding_runs : List (List Step)
adding_runs =
    flat_map (λ word. (tries 0 ++ adds word 0) ∷ (tries 0 ++ adds word 1) ∷ []) (numbers_below 7) ++ tries 1 ∷ []

abbrev pub spinlock_runs : ℕ → List (List Step)
spinlock_runs = runs adding_runs adding_runs
