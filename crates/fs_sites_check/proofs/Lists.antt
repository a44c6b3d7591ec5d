-- What holds of two lists place by place, one place more.
use Rattle.std.proofs.Common.{◌≡◌, ℕ, ◌<◌, ◌≤◌, ◌+◌, List, [], ◌∷◌, ◌++◌, length, take, get_or, sym, ap, subst, ◌∙◌, map}
use Rattle.std.specs.List.{AllZip}
use Rattle.std.proofs.lemmas.List.{map-append, take_more, take_all}
use Rattle.std.proofs.lemmas.Slice.Zip.{all_zipped_more}

module _ {A B : Type 0} (R : A → B → Type 0) where
  -- the second list grows
  pub pushed : (xs : List A) (ys : List B) (i : ℕ) (x : A) (y : B) → i < length xs → x ≡ get_or xs i x → AllZip R (take i xs) ys → R x y
      → AllZip R (take (i + 1) xs) (ys ++ y ∷ [])
  pushed xs ys i x y low at before one =
      let more : take (i + 1) xs ≡ take i xs ++ x ∷ [] = take_more xs i x low ∙ ap (λ z. take i xs ++ z ∷ []) (sym at) in
      subst (λ zs. AllZip R zs (ys ++ y ∷ [])) (sym more) (all_zipped_more R (take i xs) ys x y before one)

  -- both are there
  pub next : (xs : List A) (ys : List B) (i : ℕ) (x : A) (y : B) → i < length xs → i < length ys → x ≡ get_or xs i x → y ≡ get_or ys i y
      → AllZip R (take i xs) (take i ys) → R x y → AllZip R (take (i + 1) xs) (take (i + 1) ys)
  next xs ys i x y low within at here before one =
      let more : take (i + 1) ys ≡ take i ys ++ y ∷ [] = take_more ys i y within ∙ ap (λ z. take i ys ++ z ∷ []) (sym here) in
      subst (AllZip R (take (i + 1) xs)) (sym more) (pushed xs (take i ys) i x y low at before one)

  -- all of the first, or of both
  pub whole : (xs : List A) (ys : List B) (i : ℕ) → length xs ≤ i → AllZip R (take i xs) ys → AllZip R xs ys
  whole xs ys i past all = subst (λ zs. AllZip R zs ys) (take_all i xs past) all

-- equal of both, one place more
pub same-more : {A B : Type 0} (f : A → B) (xs ys : List A) (i : ℕ) (x y : A) → i < length xs → i < length ys → x ≡ get_or xs i x
    → y ≡ get_or ys i y → map f (take i xs) ≡ map f (take i ys) → f x ≡ f y → map f (take (i + 1) xs) ≡ map f (take (i + 1) ys)
same-more f xs ys i x y low within at here before one =
    let grown : take (i + 1) xs ≡ take i xs ++ x ∷ [] = take_more xs i x low ∙ ap (λ z. take i xs ++ z ∷ []) (sym at) in
    let more : take (i + 1) ys ≡ take i ys ++ y ∷ [] = take_more ys i y within ∙ ap (λ z. take i ys ++ z ∷ []) (sym here) in
    ap (map f) grown
    ∙ (map-append f (take i xs) (x ∷ [])
    ∙ (ap (λ zs. zs ++ f x ∷ []) before
    ∙ (ap (λ z. map f (take i ys) ++ z ∷ []) one
    ∙ (sym (map-append f (take i ys) (y ∷ [])) ∙ ap (map f) (sym more)))))
