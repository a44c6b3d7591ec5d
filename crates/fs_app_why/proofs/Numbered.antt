-- Lists by numbers, and the sources of an order.
use Rattle.std.proofs.Common.{◌≡◌, ◌∙◌, ℕ, ◌+◌, List, [], ◌∷◌, ◌++◌, Option, length, map, sym, ap, arith}
use Rattle.std.specs.List.{range_with_len}
use Rattle.std.proofs.lemmas.List.FromFn.{map-range_with_len_more}
use Rattle.fs_model.specs.declared.operation.Operation.{Operation}
use Rattle.fs_model.specs.declared.test.Test.{Test}
use Rattle.fs_model.specs.Numbers.{numbers_below}
use Rattle.fs_model.specs.Source.{source_in}
use Rattle.fs_check.specs.declared.ordered.OrderedCandidate.{OrderedCandidate}
use Rattle.fs_check.specs.Ordered.{IsOrdered, runs_in}
use Rattle.fs_app_why.specs.Executions.{told_of}

pub name_more : {A : Type 0} (f : ℕ → A) (items pushed : List A) (a : A) (n : ℕ)
    → items ≡ map f (range_with_len 0 n) → a ≡ f n → pushed ≡ items ++ a ∷ [] → pushed ≡ map f (range_with_len 0 (n + 1))
name_more f items pushed a n e k l = l ∙ rw (e, k) (sym (map-range_with_len_more f 0 n n (omega arith)))

pub all_names : {A : Type 0} (f : ℕ → A) (items : List A) (n m : ℕ) → items ≡ map f (range_with_len 0 n) → n ≡ m
    → items ≡ map f (numbers_below m)
all_names f items n m e k = e ∙ ap (λ i. map f (range_with_len 0 i)) k

-- the sources of the order's operations are those of the runs
pub same_sources : (t : Test) (o : OrderedCandidate) → IsOrdered t o → (sources : List (Option ℕ))
    → sources ≡ map (source_in (runs_in t o) o.order.listed) (numbers_below (length o.order.operations))
    → sources ≡ (told_of (runs_in t o) o.order.listed).sources
same_sources t o is sources e =
    e ∙ ap (λ (ops : List Operation). map (source_in (runs_in t o) o.order.listed) (numbers_below (length ops)))
    (is.operations ∙ is.made.operations)
