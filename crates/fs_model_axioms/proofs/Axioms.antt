-- An order obeys the axioms just where the harts' operations pass the tests.
use Rattle.std.proofs.Common.{◌≡◌, ℕ, ◌<◌, Bool, true, false, ◌&&◌, ◌||◌, not, Option, None, Some, option_and_then, List, length, refl, sym, arith, subst, ◌∙◌}
use Rattle.std.specs.List.{list_any}
use Rattle.std.proofs.lemmas.Bool.{and_parts, and_from, false≢true, false_from_ne_true, not-true}
use Rattle.fs_kinds.specs.declared.placement.Entry.{Entry}
use Rattle.fs_model.specs.Numbers.{numbers_below, stands_before}
use Rattle.fs_model.specs.Operations.{PreExecution, accesses, operation, operations, is_load, po, paired}
use Rattle.fs_model.specs.Source.{gmo, source_in}
use Rattle.fs_model.specs.Preserved.{ppo}
use Rattle.fs_model.specs.Execution.{ObeysAxioms, HasNoneBetween, ReturnsSources, IsAtomic, Respects}
use Rattle.fs_model.proofs.Preserved.{ppo_in_po}
use Rattle.fs_model.proofs.Ranges.{implies_at}
use Rattle.fs_model.proofs.OptionalNumbers.{same_is, same_from, some_parts}
use Rattle.fs_model.proofs.RangeTests.{any_from, any_to}
use Rattle.fs_model.proofs.WhichOperation.{load_access, store_there}
use Rattle.fs_model.proofs.ProgramOrder.{po_of_harts}
use Rattle.fs_model.specs.Tests.{returns_source, comes_between, follows_closely, keeps_atomicity, goes_forward, PassesTests}

-- ---- one test at a time

implied : (x y : Bool) → (x ≡ true → y ≡ true) → (not x || y) ≡ true
implied true y h = h refl
implied false y h = refl

pub returns_word : (x : PreExecution) (rf : ℕ → Option ℕ) (a : ℕ) → returns_source x rf a ≡ true → is_load x a ≡ true
    → (operation x a).loaded ≡ option_and_then (λ s. (operation x s).stored) (rf a)
returns_word x rf a h loads = same_is _ _ (implies_at _ _ h loads)

pub word_returned : (x : PreExecution) (rf : ℕ → Option ℕ) (a : ℕ)
    → (is_load x a ≡ true → (operation x a).loaded ≡ option_and_then (λ s. (operation x s).stored) (rf a))
    → returns_source x rf a ≡ true
word_returned x rf a h = implied _ _ (λ loads.
    let word = some_parts (operation x a).loaded loads in same_from _ _ word.0 word.1 (sym (h loads) ∙ word.1))

all_five : (a b c d e : Bool) → a ≡ true → b ≡ true → c ≡ false → d ≡ true → e ≡ true → (a && b && not c && d && e) ≡ true
all_five true true false true true h i j k l = refl
all_five true true false true false h i j k l = l
all_five true true false false e h i j k l = k
all_five true true true d e h i j k l = sym j
all_five true false c d e h i j k l = i
all_five false b c d e h i j k l = h

record Five (a b c d e : Bool) : Type 0 where
  first : a ≡ true
  second : b ≡ true
  third : c ≡ false
  fourth : d ≡ true
  fifth : e ≡ true

five_parts : (a b c d e : Bool) → (a && b && not c && d && e) ≡ true → Five a b c d e
five_parts true true false true true h = record { first = refl; second = refl; third = refl; fourth = refl; fifth = refl }
five_parts true true false true false h = absurd (false≢true h)
five_parts true true false false e h = absurd (false≢true h)
five_parts true true true d e h = absurd (false≢true h)
five_parts true false c d e h = absurd (false≢true h)
five_parts false b c d e h = absurd (false≢true h)

none_between : (x : PreExecution) (order : List ℕ) (s w : ℕ)
    → list_any (comes_between x order s w) (numbers_below (length (operations x))) ≡ false → HasNoneBetween x order s w
none_between x order s w h m stores word hart after before =
    false≢true (sym h ∙ any_to (comes_between x order s w) 0 (length (operations x)) m (omega arith)
    (omega (arith, store_there x m stores)) (all_five _ _ _ _ _ stores word hart after before))

between_none : (x : PreExecution) (order : List ℕ) (s w : ℕ) → HasNoneBetween x order s w
    → list_any (comes_between x order s w) (numbers_below (length (operations x))) ≡ false
between_none x order s w h = false_from_ne_true _ (λ some.
    let m = any_from (comes_between x order s w) 0 (length (operations x)) some in
    let parts = five_parts _ _ _ _ _ m.3 in
    h m.0 parts.first parts.second parts.third parts.fourth parts.fifth)

follows : (x : PreExecution) (order : List ℕ) (source : Option ℕ) (w s : ℕ) → source ≡ Some s
    → follows_closely x order source w ≡ true
    → (stands_before order s w ≡ true) × HasNoneBetween x order s w
follows x order source w s e h =
    let at : follows_closely x order (Some s) w ≡ true = subst (λ (o : Option ℕ). follows_closely x order o w ≡ true) e h in
    let parts = and_parts _ _ at in
    (parts.0, none_between x order s w (not-true _ parts.1))

followed : (x : PreExecution) (order : List ℕ) (source : Option ℕ) (w : ℕ)
    → ((s : ℕ) → source ≡ Some s → (stands_before order s w ≡ true) × HasNoneBetween x order s w)
    → follows_closely x order source w ≡ true
followed x order None w h = refl
followed x order (Some s) w h = let at = h s refl in rw (at.0, between_none x order s w at.1) refl

pub atomic_pair : (x : PreExecution) (rf : ℕ → Option ℕ) (order : List ℕ) (r w : ℕ) → keeps_atomicity x rf order r w ≡ true
    → (s : ℕ) → po x r w ≡ true → paired x r w ≡ true → rf r ≡ Some s
    → (stands_before order s w ≡ true) × HasNoneBetween x order s w
atomic_pair x rf order r w h s in_order pair source =
    follows x order (rf r) w s source (implies_at _ _ h (and_from _ _ in_order pair))

pub pair_atomic : (x : PreExecution) (rf : ℕ → Option ℕ) (order : List ℕ) (r w : ℕ)
    → ((s : ℕ) → po x r w ≡ true → paired x r w ≡ true → rf r ≡ Some s
    → (stands_before order s w ≡ true) × HasNoneBetween x order s w)
    → keeps_atomicity x rf order r w ≡ true
pair_atomic x rf order r w h = implied _ _ (λ e.
    let parts = and_parts _ _ e in followed x order (rf r) w (λ s source. h s parts.0 parts.1 source))

-- ---- one axiom at a time: all operations pass just where the axiom holds

pub returning_all : (x : PreExecution) (rf : ℕ → Option ℕ)
    → ((a : ℕ) → a < length (accesses x) → returns_source x rf a ≡ true) → ReturnsSources x rf
returning_all x rf h a loads = returns_word x rf a (h a (load_access x a loads)) loads

pub all_returning : (x : PreExecution) (rf : ℕ → Option ℕ) → ReturnsSources x rf → (a : ℕ) → returns_source x rf a ≡ true
all_returning x rf h a = word_returned x rf a (λ loads. h a loads)

pub atomic_by_pairs : (x : PreExecution) (rf : ℕ → Option ℕ) (order : List ℕ)
    → ((r w : ℕ) → r < length (accesses x) → w < length (accesses x) → keeps_atomicity x rf order r w ≡ true)
    → IsAtomic x rf order
atomic_by_pairs x rf order h r w s in_order pair source =
    let low = po_of_harts x r w in_order in atomic_pair x rf order r w (h r w low.0 low.1) s in_order pair source

pub pairs_atomic : (x : PreExecution) (rf : ℕ → Option ℕ) (order : List ℕ) → IsAtomic x rf order
    → (r w : ℕ) → keeps_atomicity x rf order r w ≡ true
pairs_atomic x rf order h r w = pair_atomic x rf order r w (λ s in_order pair source. h r w s in_order pair source)

pub respecting_all : (x : PreExecution) (p : List Entry) (rf : ℕ → Option ℕ) (order : List ℕ)
    → ((a b : ℕ) → a < length (accesses x) → b < length (accesses x) → goes_forward x p rf order a b ≡ true)
    → Respects order (λ a b. ppo x p rf a b ≡ true)
respecting_all x p rf order h a b e =
    let low = po_of_harts x a b (ppo_in_po x p rf a b e) in implies_at _ _ (h a b low.0 low.1) e

pub all_respecting : (x : PreExecution) (p : List Entry) (rf : ℕ → Option ℕ) (order : List ℕ)
    → Respects order (λ a b. ppo x p rf a b ≡ true) → (a b : ℕ) → goes_forward x p rf order a b ≡ true
all_respecting x p rf order h a b = implied _ _ (λ e. h a b e)

-- ---- all tests

-- the harts' operations pass: the order obeys the axioms
pub passing_obeys : (x : PreExecution) (p : List Entry) (order : List ℕ) → PassesTests x p order → ObeysAxioms x p order
passing_obeys x p order h = record {
  once = h.once;
  preserved = respecting_all x p (source_in x order) (gmo x order) h.preserved;
  values = returning_all x (source_in x order) h.values;
  atomic = atomic_by_pairs x (source_in x order) (gmo x order) h.atomic;
}

-- the order obeys the axioms: each operation passes, and each two do, whatever their numbers
pub obeying_goes_forward : (x : PreExecution) (p : List Entry) (order : List ℕ) → ObeysAxioms x p order
    → (a b : ℕ) → goes_forward x p (source_in x order) (gmo x order) a b ≡ true
obeying_goes_forward x p order h = all_respecting x p (source_in x order) (gmo x order) h.preserved

pub obeying_returns : (x : PreExecution) (p : List Entry) (order : List ℕ) → ObeysAxioms x p order
    → (a : ℕ) → returns_source x (source_in x order) a ≡ true
obeying_returns x p order h = all_returning x (source_in x order) h.values

pub obeying_keeps_atomicity : (x : PreExecution) (p : List Entry) (order : List ℕ) → ObeysAxioms x p order
    → (r w : ℕ) → keeps_atomicity x (source_in x order) (gmo x order) r w ≡ true
obeying_keeps_atomicity x p order h = pairs_atomic x (source_in x order) (gmo x order) h.atomic

pub obeying_passes : (x : PreExecution) (p : List Entry) (order : List ℕ) → ObeysAxioms x p order → PassesTests x p order
obeying_passes x p order h = record {
  once = h.once;
  preserved = λ a b low high. obeying_goes_forward x p order h a b;
  values = λ a low. obeying_returns x p order h a;
  atomic = λ r w low high. obeying_keeps_atomicity x p order h r w;
}
