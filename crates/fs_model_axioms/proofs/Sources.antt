-- The sources of operations: one after the other, and by their numbers.
use Rattle.std.proofs.Common.{◌≡◌, ◌∙◌, ℕ, ◌+◌, ◌≤◌, Bool, true, false, ◌&&◌, Option, None, Some, List, [], ◌∷◌, ◌++◌, length, map, filter, refl, sym, ap, inl, inr, arith}
use Rattle.std.specs.List.{range_with_len, last_or}
use Rattle.std.proofs.Math.ListN.{get_or-eq_default}
use Rattle.std.proofs.lemmas.Bool.{cases_lt}
use Rattle.std.proofs.lemmas.List.FromFn.{map-range_with_len_more, get_or-map-range_with_len, length-map-range_with_len}
use Rattle.fs_model.specs.Numbers.{is_same, numbers_below}
use Rattle.fs_model.specs.Operations.{PreExecution, operations, operation, is_store, same_word}
use Rattle.fs_model.specs.Source.{gmo, may_return, source_in}
use Rattle.fs_model.proofs.Ranges.{past_last}
use Rattle.fs_model_axioms.specs.Ordered.{source_at}

pub source_more : (f : ℕ → Option ℕ) (items pushed : List (Option ℕ)) (source : Option ℕ) (n : ℕ)
    → items ≡ map f (range_with_len 0 n) → source ≡ f n → pushed ≡ items ++ source ∷ []
    → pushed ≡ map f (range_with_len 0 (n + 1))
source_more f items pushed source n e k l = l ∙ rw (e, k) (sym (map-range_with_len_more f 0 n n (omega arith)))

pub all_sources : (f : ℕ → Option ℕ) (items : List (Option ℕ)) (n m : ℕ) → items ≡ map f (range_with_len 0 n) → n ≡ m
    → items ≡ map f (numbers_below m)
all_sources f items n m e k = e ∙ ap (λ i. map f (range_with_len 0 i)) k

-- ---- a number past the last operation has no source

none_kept : (test : ℕ → Bool) (xs : List ℕ) → ((k : ℕ) → test k ≡ false) → filter test xs ≡ []
none_kept test [] h = refl
none_kept test (x ∷ xs) h = rw (h x) (none_kept test xs h)

second_fails : (a b c : Bool) → b ≡ false → (a && b && c) ≡ false
second_fails true b c e = rw e refl
second_fails false b c e = refl

same_as_none : (o : Option ℕ) → is_same o None ≡ false
same_as_none None = refl
same_as_none (Some a) = refl

no_source_past : (x : PreExecution) (listed : List ℕ) (a : ℕ) → length (operations x) ≤ a → source_in x listed a ≡ None
no_source_past x listed a past = ap (last_or None) (none_kept (may_return x listed a) (gmo x listed) (λ s.
    second_fails (is_store x s) (same_word x s a) _
    (ap (λ o. is_same (operation x s).address o.address) (past_last x a past) ∙ same_as_none (operation x s).address)))

-- the list of sources has each operation's
pub source_of : (x : PreExecution) (listed : List ℕ) (sources : List (Option ℕ)) (n a : ℕ) → n ≡ length (operations x)
    → sources ≡ map (source_in x listed) (numbers_below n) → source_at sources a ≡ source_in x listed a
source_of x listed sources n a many e = ap (λ s. source_at s a) e ∙ elim (cases_lt a n) [
  | inl low ↦ get_or-map-range_with_len (source_in x listed) 0 n a a None low (omega arith)
  | inr past ↦ get_or-eq_default (map (source_in x listed) (numbers_below n)) None
      (omega (arith, past, length-map-range_with_len (source_in x listed) 0 n))
      ∙ sym (no_source_past x listed a (omega (arith, past, many)))
]
