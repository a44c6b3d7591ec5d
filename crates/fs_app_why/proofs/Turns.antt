-- Chains that are alike from some link on.
use Rattle.std.proofs.Common.{◌≡◌, ℕ, ◌<◌, ◌&&◌, Bool, true, false, List, [], ◌∷◌, suc, length, get_or, refl, sym, ◌∙◌, ap, arith}
use Rattle.std.specs.List.{list_any, zip}
use Rattle.std.proofs.lemmas.List.Folds.{list_any_at}
use Rattle.std.proofs.lemmas.List.FromFn.{length-range_with_len, get_or-range_with_len}
use Rattle.fs_model.specs.Numbers.{numbers_below}
use Rattle.fs_app_why.specs.declared.chain.Chain.{Chain}
use Rattle.fs_app_why.specs.Kinds.{are_alike, have_one_form, is_renamed, turned, turns}

and_true : (a b : Bool) → a ≡ true → b ≡ true → true ≡ a && b
and_true a b e f = rw (e, f) refl

and_false : (a b : Bool) → b ≡ false → false ≡ a && b
and_false true b f = sym f
and_false false b f = refl

none_of : (p : ℕ → Bool) (xs : List ℕ) → ((k d : ℕ) → k < length xs → p (get_or xs k d) ≡ false) → list_any p xs ≡ false
none_of p [] so = refl
none_of p (x ∷ xs) so = rw (so 0 x (omega arith)) (none_of p xs (λ k d low. so (suc k) d (omega (arith, low))))

module _ (texts : List (List (List ℕ))) (first second : Chain) (n : ℕ) (is : n ≡ turns second.shape (length second.links)) where
  abbrev test : ℕ → Bool
  test k = is_renamed texts (zip first.links (turned k second.links))

  number : (k : ℕ) → k < n → get_or (numbers_below n) k 0 ≡ k
  number k low = get_or-range_with_len 0 n k 0 low ∙ omega arith

  some : (k : ℕ) → k < n → test k ≡ true → list_any test (numbers_below n) ≡ true
  some k low so =
      let long = length-range_with_len 0 n in
      list_any_at test (numbers_below n) k 0 (omega (arith, low, long)) (ap test (number k low) ∙ so)

  below : (k : ℕ) → k < length (numbers_below n) → k < n
  below k low = let long = length-range_with_len 0 n in omega (arith, low, long)

  none : ((k : ℕ) → k < n → test k ≡ false) → list_any test (numbers_below n) ≡ false
  none so =
      none_of test (numbers_below n) (λ k d low.
      ap test (get_or-range_with_len 0 n k d (below k low) ∙ omega arith) ∙ so k (below k low))

  -- it is renamed from this link on
  pub alike_at : (k : ℕ) → k < n → have_one_form first second ≡ true → test k ≡ true → true ≡ are_alike texts first second
  alike_at k low form so =
      and_true (have_one_form first second) (list_any test (numbers_below (turns second.shape (length second.links)))) form
      (ap (λ m. list_any test (numbers_below m)) (sym is) ∙ some k low so)

  -- it is from none
  pub never_alike : ((k : ℕ) → k < n → test k ≡ false) → false ≡ are_alike texts first second
  never_alike so =
      and_false (have_one_form first second) (list_any test (numbers_below (turns second.shape (length second.links))))
      (ap (λ m. list_any test (numbers_below m)) (sym is) ∙ none so)
