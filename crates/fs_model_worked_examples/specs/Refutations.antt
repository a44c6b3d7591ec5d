-- Refutations of the small tests.
use Rattle.std.specs.Prelude.{ℕ, ◌-◌, Option, Some, List, [], ◌∷◌, ◌++◌, map, length, take}
use Rattle.std.specs.List.{slice_index_or}
use Rattle.fs_kinds.specs.declared.kind.Kind.{Kind}
use Rattle.fs_kinds.specs.declared.kind.Kind.TheVariants.{RRw, RwW}
use Rattle.fs_kinds.specs.declared.placement.Entry.{Entry}
use Rattle.fs_kinds.specs.declared.reason.OperationName.{OperationName as Name}
use Rattle.fs_model.specs.declared.test.Test.{Test}
use Rattle.fs_model.specs.Slots.{slot_at}
use Rattle.fs_model.specs.declared.step.Step.{Step}
use Rattle.fs_model.specs.Preserved.{Rule, Rule1, Rule2, Rule4, Rule10, Rule11}
use Rattle.fs_cert_evidence.specs.Judged.{Cause, Preserved, ReadsFrom, Coherence, FromReads}
use Rattle.fs_cert_evidence.specs.Certificate.{Link}
use Rattle.fs_cert_evidence.specs.Regions.{Region, Source}
use Rattle.fs_cert_evidence.specs.Certificate.{Inference, ByChoice, BySource, ByOrder, ByCases, Filter, Cycle, Stale, Reversed, Parted}
use Rattle.fs_cert_evidence.specs.Trees.{left_after, root}

-- the operation of instruction number `at` of hart 0, and of hart 1
abbrev pub P0 : ℕ → Name
P0 at = record { hart = 0; at = at }

abbrev pub P1 : ℕ → Name
P1 at = record { hart = 1; at = at }

-- a fence before the second instruction of each hart
abbrev pub fences : Kind → Kind → List Entry
fences first second =
    record { slot = slot_at 0 1; kind = Some first } ∷ record { slot = slot_at 1 1; kind = Some second } ∷ []

abbrev pub fence_in : (hart : ℕ) → Kind → List Entry
fence_in hart kind = record { slot = slot_at hart 1; kind = Some kind } ∷ []

abbrev pub link : Name → Cause → Link
link operation cause = record { operation = operation; cause = cause }

abbrev pub preserved : Name → Rule → Link
preserved operation rule = link operation (Preserved rule)

-- ---- store buffering

-- each store before the load that follows it, by the fences, and each load before the store that it misses
abbrev pub sb_cycle : List Link
sb_cycle = preserved (P0 0) Rule4 ∷ link (P0 1) FromReads ∷ preserved (P1 0) Rule4 ∷ link (P1 1) FromReads ∷ []

-- the outcome leaves each hart one run, and each load one source
abbrev pub sb_tree : List Inference
sb_tree = Filter 0 ∷ Filter 1 ∷ BySource (P0 1) ∷ BySource (P1 1) ∷ Cycle sb_cycle ∷ []

-- the first case leaves no run of hart 0, and the second is store buffering
abbrev pub sb_or_tree : List Inference
sb_or_tree = ByCases 0 ∷ Filter 0 ∷ sb_tree

-- ---- message passing

abbrev pub mp_cycle : List Link
mp_cycle = preserved (P0 0) Rule4 ∷ link (P0 1) ReadsFrom ∷ preserved (P1 0) Rule4 ∷ link (P1 1) FromReads ∷ []

abbrev pub mp_tree : List Inference
mp_tree = Filter 1 ∷ BySource (P1 0) ∷ BySource (P1 1) ∷ Cycle mp_cycle ∷ []

-- the condition is to be false, so both its parts are
abbrev pub mp_forall_tree : List Inference
mp_forall_tree = ByCases 0 ∷ ByCases 1 ∷ mp_tree

-- ---- coherent reads, which need no fence

abbrev pub corr_cycle : List Link
corr_cycle = link (P0 0) ReadsFrom ∷ preserved (P1 0) Rule2 ∷ link (P1 1) FromReads ∷ []

abbrev pub corr_tree : List Inference
corr_tree = Filter 1 ∷ BySource (P1 0) ∷ BySource (P1 1) ∷ Cycle corr_cycle ∷ []

-- ---- a pair and a store, which need no fence

-- the store is between what the pair loads and what it stores; or it is last, and the outcome isn't there
abbrev pub parted_tree : List Inference
parted_tree = Filter 0 ∷ BySource (P0 0) ∷ ByOrder (P1 0) (P0 1) ∷ Parted (P0 0) (P0 1) (P1 0) ∷ Filter 0 ∷ []

-- the pair's store is last, and the outcome isn't there; or it comes before what the pair loads
abbrev pub reversed_tree : List Inference
reversed_tree = Filter 0 ∷ BySource (P0 0) ∷ ByOrder (P1 0) (P0 1) ∷ Filter 0 ∷ Reversed (P0 0) (P0 1) ∷ []

-- ---- a guarded store

abbrev pub guarded_cycle : List Link
guarded_cycle = preserved (P0 0) Rule11 ∷ link (P0 2) ReadsFrom ∷ preserved (P1 0) Rule4 ∷ link (P1 1) ReadsFrom ∷ []

-- where both loads load 1
abbrev pub guarded_rest : List Inference
guarded_rest = Filter 1 ∷ BySource (P0 0) ∷ BySource (P1 0) ∷ Cycle guarded_cycle ∷ []

-- hart 0 loads 0, and the outcome isn't there; or it loads 1
abbrev pub guarded_tree : List Inference
guarded_tree = ByChoice (P0 0) ∷ Filter 0 ∷ guarded_rest

-- it doesn't store; or it does
abbrev pub guarded_by_store : List Inference
guarded_by_store = ByChoice (P0 2) ∷ Filter 0 ∷ guarded_rest

-- ---- two swaps, which need no fence

abbrev pub swap_cycle : List Link
swap_cycle = link (P0 0) FromReads ∷ link (P1 0) FromReads ∷ []

abbrev pub swap_tree : (links : List Link) → List Inference
swap_tree links = Filter 0 ∷ Filter 1 ∷ BySource (P0 0) ∷ BySource (P1 0) ∷ Cycle links ∷ []

-- ---- own stores, which need no fence

abbrev pub own_tree : List Inference
own_tree = Filter 0 ∷ BySource (P0 1) ∷ Stale (P0 1) (P0 0) ∷ []

-- in program order the first of hart 1's stores isn't last, and the other way round they go against rule 1
abbrev pub last_cycle : List Link
last_cycle = preserved (P1 0) Rule1 ∷ link (P1 1) Coherence ∷ []

abbrev pub last_tree : List Inference
last_tree = ByCases 0 ∷ ByOrder (P1 0) (P1 1) ∷ Filter 1 ∷ Cycle last_cycle ∷ []

-- ---- load buffering with data

abbrev pub carried_cycle : List Link
carried_cycle = preserved (P0 0) Rule10 ∷ link (P0 1) ReadsFrom ∷ preserved (P1 0) Rule4 ∷ link (P1 1) ReadsFrom ∷ []

-- Hart 1 loads the initial word, and the outcome isn't there. Or it loads what hart 0 stores: that has loaded the
-- initial word, and once the outcome is asked for no run agrees any more; or what hart 1 stores.
abbrev pub carried_tree : (again : List Inference) → List Inference
carried_tree again = BySource (P1 0) ∷ Filter 1 ∷ BySource (P0 0) ∷ Filter 1 ∷ again ++ Cycle carried_cycle ∷ []

-- ---- a spinlock

abbrev fence_at : (hart at : ℕ) → Kind → Entry
fence_at hart at kind = record { slot = slot_at hart at; kind = Some kind }

-- in both harts `r,rw` behind the swap that takes the lock, and `rw,w` before the one that leaves it
abbrev pub lock_fences : List Entry
lock_fences = fence_at 0 3 RRw ∷ fence_at 0 7 RwW ∷ fence_at 1 3 RRw ∷ fence_at 1 7 RwW ∷ []

-- both harts find the lock as it is at first
abbrev both_first : List Link
both_first = link (P0 1) FromReads ∷ link (P1 1) FromReads ∷ []

-- hart 1 takes the lock after hart 0, and its load misses what hart 0 stores
abbrev misses : List Link
misses = preserved (P0 5) Rule4 ∷ link (P0 7) ReadsFrom ∷ preserved (P1 1) Rule4 ∷ link (P1 3) FromReads ∷ []

-- it returns that, and its own store comes before it in coherence order
abbrev turned_stores : List Link
turned_stores = link (P0 5) ReadsFrom ∷ preserved (P1 3) Rule1 ∷ link (P1 5) Coherence ∷ []

-- hart 0 loads what hart 1 stores later
abbrev foresees : List Link
foresees = preserved (P0 3) Rule4 ∷ link (P0 7) ReadsFrom ∷ preserved (P1 1) Rule4 ∷ link (P1 5) ReadsFrom ∷ []

-- the same with hart 1 first
abbrev misses_first : List Link
misses_first = preserved (P0 1) Rule4 ∷ link (P0 3) FromReads ∷ preserved (P1 5) Rule4 ∷ link (P1 7) ReadsFrom ∷ []

abbrev turned_first : List Link
turned_first = preserved (P0 3) Rule1 ∷ link (P0 5) Coherence ∷ link (P1 5) ReadsFrom ∷ []

-- Hart 0 is first, or hart 1. Where no addition is lost, the counter doesn't end as the outcome asks.
abbrev pub spinlock_tree : List Inference
spinlock_tree =
    Filter 0 ∷ Filter 1 ∷ BySource (P0 1)
    ∷ BySource (P1 1) ∷ Cycle both_first
    ∷ BySource (P0 3) ∷ BySource (P1 3) ∷ Cycle misses
    ∷ ByOrder (P0 5) (P1 5) ∷ Filter 0 ∷ Cycle turned_stores
    ∷ Cycle foresees
    ∷ BySource (P0 3) ∷ Cycle misses_first
    ∷ ByOrder (P0 5) (P1 5) ∷ Cycle turned_first ∷ Filter 0 ∷ []

-- ---- what refutes nothing, and regions on the way

-- without the last inference
abbrev pub but_last : List Inference → List Inference
but_last inferences = take (length inferences - 1) inferences

-- with this cycle in the place of the last inference
abbrev pub ending_in : List Link → List Inference → List Inference
ending_in links inferences = but_last inferences ++ Cycle links ∷ []

-- the fences are taken the other way round
abbrev pub turned_cycle : List Link
turned_cycle = preserved (P0 1) Rule4 ∷ link (P0 0) FromReads ∷ preserved (P1 1) Rule4 ∷ link (P1 0) FromReads ∷ []

-- the load of y would return what is stored to x
abbrev pub far_cycle : List Link
far_cycle = link (P0 0) ReadsFrom ∷ preserved (P1 0) Rule4 ∷ link (P1 1) FromReads ∷ []

-- the first region that is left after these inferences, one after the other
abbrev pub first_left : Test → Region → List Inference → Region
first_left t region [] = region
first_left t region (inference ∷ inferences) =
    first_left t (slice_index_or (left_after t region inference) 0 region) inferences

-- the same, from the whole test on with these runs
abbrev pub left_by : Test → (ℕ → List (List Step)) → List Inference → Region
left_by t runs inferences = first_left t (root t runs) inferences

-- the region of this number that the inference leaves of the whole test
abbrev pub child : Test → (ℕ → List (List Step)) → Inference → ℕ → Region
child t runs inference k = slice_index_or (left_after t (root t runs) inference) k (root t runs)

-- what the load returns from in the regions that are left, where the test is split by its sources
abbrev pub sources_left : Test → (ℕ → List (List Step)) → Name → List (Option Source)
sources_left t runs load = map (λ left. left.source load) (left_after t (root t runs) (BySource load))
