-- Operations between two in program order, without their numbers.
use Rattle.std.proofs.Common.{◌≡◌, ℕ, ◌==◌, ◌&&◌, Bool, true, false, Option, None, Some, is_some, List, map, length, refl, sym, subst, arith}
use Rattle.std.specs.List.{list_any, enumerate_from}
use Rattle.std.proofs.lemmas.Bool.{and_parts, and_from, and_left, eqb-true, eq-eqb, false≢true}
use Rattle.std.proofs.lemmas.List.Folds.{list_any_none}
use Rattle.std.proofs.lemmas.List.Elements.{All-map}
use Rattle.fs_model.specs.declared.operation.Operation.{Operation}
use Rattle.fs_model.specs.Numbers.{is_same}
use Rattle.fs_model.specs.Operations.{PreExecution, operation, operations, accesses, initial_store, nothing, is_store, same_word, precedes, po, any_between}
use Rattle.fs_model.proofs.RangeTests.{any_from, any_to}
use Rattle.fs_model.proofs.ProgramOrder.{po_of_harts}
use Rattle.fs_ppo.proofs.Tests.{same_tests, any_of_first}

-- between a and b in program order, where the test passes
abbrev pub stands_between : Operation → Operation → (Operation → Bool) → Operation → Bool
stands_between a b test m = precedes a m && precedes m b && test m

none_same : (o : Option ℕ) → is_same o None ≡ false
none_same None = refl
none_same (Some n) = refl

-- an initial store is between no two
initial_outside : (a b : Operation) (test : Operation → Bool) (numbered : ℕ × ℕ) → stands_between a b test (initial_store numbered) ≡ false
initial_outside a b test (location, word) = and_left _ _ (and_left _ _ (and_left _ _ (none_same a.hart)))

pub any_between-operations : (x : PreExecution) (test : Operation → Bool) (a b : ℕ)
    → list_any (stands_between (operation x a) (operation x b) test) (operations x) ≡ any_between x (λ m. test (operation x m)) a b
any_between-operations x test a b =
    let initial = map initial_store (enumerate_from 0 x.words) in
    let passes = stands_between (operation x a) (operation x b) test in
    any_of_first passes (accesses x) initial nothing
    (list_any_none passes initial (All-map (λ o. passes o ≡ false) initial_store (enumerate_from 0 x.words) (λ k d l. initial_outside (operation x a) (operation x b) test _)))

-- a store to the first one's word
abbrev is_store_to_word : Operation → Operation → Bool
is_store_to_word a m = is_some m.stored && is_same m.address a.address

pub stored_between : (x : PreExecution) (a b : ℕ) (found : Bool) (all : List Operation) (first second : Operation)
    → found ≡ list_any (stands_between first second (is_store_to_word first)) all → all ≡ operations x → first ≡ operation x a → second ≡ operation x b
    → found ≡ any_between x (λ m. is_store x m && same_word x m a) a b
stored_between x a b found all first second e all-is first-is second-is =
    let e1 = subst (λ (o : Operation). found ≡ list_any (stands_between o second (is_store_to_word o)) all) first-is e in
    let e2 = subst (λ (o : Operation). found ≡ list_any (stands_between (operation x a) o (is_store_to_word (operation x a))) all) second-is e1 in
    let e3 = subst (λ (os : List Operation). found ≡ list_any (stands_between (operation x a) (operation x b) (is_store_to_word (operation x a))) os) all-is e2 in
    subst (λ (r : Bool). found ≡ r) (any_between-operations x (is_store_to_word (operation x a)) a b) e3

-- where the test asks for one number, only that one can pass
one_passes : (x : PreExecution) (test : ℕ → Bool) (a b s : ℕ)
    → any_between x (λ m. test m && is_same (Some s) (Some m)) a b ≡ (po x a s && po x s b && test s)
one_passes x test a b s = same_tests _ _ to from
  where
    passes : ℕ → Bool
    passes m = po x a m && po x m b && (test m && is_same (Some s) (Some m))

    to : any_between x (λ m. test m && is_same (Some s) (Some m)) a b ≡ true → (po x a s && po x s b && test s) ≡ true
    to h =
        let m = any_from (λ m. po x a m && po x m b && (test m && is_same (Some s) (Some m))) 0 (length (accesses x)) h in
        let outer = and_parts (po x a m.0 && po x m.0 b) (test m.0 && (s == m.0)) m.3 in
        let inner = and_parts (test m.0) (s == m.0) outer.1 in
        subst (λ (n : ℕ). (po x a n && po x n b && test n) ≡ true) (sym (eqb-true s m.0 inner.1)) (and_from (po x a m.0 && po x m.0 b) (test m.0) outer.0 inner.0)

    from : (po x a s && po x s b && test s) ≡ true → any_between x (λ m. test m && is_same (Some s) (Some m)) a b ≡ true
    from h =
        let outer = and_parts (po x a s && po x s b) (test s) h in
        let before = and_parts (po x a s) (po x s b) outer.0 in
        any_to (λ m. po x a m && po x m b && (test m && is_same (Some s) (Some m))) 0 (length (accesses x)) s (omega arith)
        (omega (arith, (po_of_harts x a s before.0).1))
        (and_from (po x a s && po x s b) (test s && (s == s)) outer.0 (and_from (test s) (s == s) outer.1 (eq-eqb s s refl)))

pub passes_one : (x : PreExecution) (test : ℕ → Bool) (source : Option ℕ) (a b s : ℕ) (found : Bool) → source ≡ Some s
    → found ≡ (po x a s && po x s b && test s) → found ≡ any_between x (λ m. test m && is_same source (Some m)) a b
passes_one x test source a b s found is e =
    subst (λ (o : Option ℕ). found ≡ any_between x (λ m. test m && is_same o (Some m)) a b) (sym is)
    (subst (λ (r : Bool). found ≡ r) (sym (one_passes x test a b s)) e)

none_passes : (x : PreExecution) (test : ℕ → Bool) (a b : ℕ) → any_between x (λ m. test m && is_same None (Some m)) a b ≡ true → false ≡ true
none_passes x test a b h =
    let m = any_from (λ m. po x a m && po x m b && (test m && is_same None (Some m))) 0 (length (accesses x)) h in
    let outer = and_parts (po x a m.0 && po x m.0 b) (test m.0 && false) m.3 in
    (and_parts (test m.0) false outer.1).1

pub passes_none : (x : PreExecution) (test : ℕ → Bool) (source : Option ℕ) (a b : ℕ) → source ≡ None
    → false ≡ any_between x (λ m. test m && is_same source (Some m)) a b
passes_none x test source a b is =
    subst (λ (o : Option ℕ). false ≡ any_between x (λ m. test m && is_same o (Some m)) a b) (sym is)
    (same_tests _ _ (λ e. absurd (false≢true e)) (none_passes x test a b))
