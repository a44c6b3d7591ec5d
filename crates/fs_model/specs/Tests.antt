-- The axioms (RISC-V Unprivileged ISA 20191213, section "Memory Model Axioms") as tests of one operation or of two.
use Rattle.std.specs.Prelude.{◌≡◌, ℕ, ◌<◌, Bool, true, ◌&&◌, ◌||◌, not, Option, None, Some, option_and_then, List, length}
use Rattle.std.specs.List.{list_any}
use Rattle.fs_kinds.specs.declared.placement.Entry.{Entry}
use Rattle.fs_model.specs.Numbers.{is_same, numbers_below, stands_before}
use Rattle.fs_model.specs.Operations.{PreExecution, accesses, operations, operation, is_load, is_store, same_word, same_hart, po, paired}
use Rattle.fs_model.specs.Source.{lists_each_once, gmo, source_in}
use Rattle.fs_model.specs.Preserved.{ppo}

-- load value, of one operation: a load returns the word of its source
abbrev pub returns_source : PreExecution → (ℕ → Option ℕ) → ℕ → Bool
returns_source x rf a = not (is_load x a) || is_same (operation x a).loaded (option_and_then (λ s. (operation x s).stored) (rf a))

-- m is a store of another hart to the word of w, after s and before w in the order
abbrev pub comes_between : PreExecution → List ℕ → (s w m : ℕ) → Bool
comes_between x order s w m =
    is_store x m && same_word x m w && not (same_hart x m w) && stands_before order s m && stands_before order m w

-- The source precedes w, and no such store comes between. A load without a source can't break atomicity; there is none
-- in an order that returns sources.
abbrev pub follows_closely : PreExecution → List ℕ → Option ℕ → ℕ → Bool
follows_closely x order None w = true
follows_closely x order (Some s) w =
    stands_before order s w && not (list_any (comes_between x order s w) (numbers_below (length (operations x))))

-- atomicity, of two operations
abbrev pub keeps_atomicity : PreExecution → (ℕ → Option ℕ) → List ℕ → (r w : ℕ) → Bool
keeps_atomicity x rf order r w = not (po x r w && paired x r w) || follows_closely x order (rf r) w

-- preserved program order, of two operations
abbrev pub goes_forward : PreExecution → List Entry → (ℕ → Option ℕ) → List ℕ → (a b : ℕ) → Bool
goes_forward x p rf order a b = not (ppo x p rf a b) || stands_before order a b

-- the harts' operations pass the tests
pub record PassesTests (x : PreExecution) (p : List Entry) (order : List ℕ) : Type 0 where
  pub once : lists_each_once x order ≡ true
  pub preserved : (a b : ℕ) → a < length (accesses x) → b < length (accesses x)
      → goes_forward x p (source_in x order) (gmo x order) a b ≡ true
  pub values : (a : ℕ) → a < length (accesses x) → returns_source x (source_in x order) a ≡ true
  pub atomic : (r w : ℕ) → r < length (accesses x) → w < length (accesses x)
      → keeps_atomicity x (source_in x order) (gmo x order) r w ≡ true
