-- A loop over links, each beside the next one, and the last beside another.
use Rattle.std.proofs.Common.{◌≡◌, ℕ, zero, suc, ◌+◌, ◌<◌, ◌≤◌, Bool, true, false, Option, None, Some, List, [], ◌∷◌, ◌++◌, length, get_or, take, drop, refl, sym, ◌∙◌, ap, arith}
use Rattle.std.specs.Prelude.{option_map, unwrap_or}
use Rattle.std.specs.Borrow.{Bor}
use Rattle.std.specs.List.{list_all, zip}
use Rattle.std.proofs.lemmas.Bool.{and_from}
use Rattle.std.proofs.lemmas.List.{length-append, take_all}
use Rattle.std.proofs.lemmas.List.Folds.{list_all_at, list_all_more}

pub behind_option : {X : Type 0} (r : Option (Bor X)) (b : Bor X) → (unwrap_or r b).now ≡ unwrap_or (option_map (λ (x : Bor X). x.now) r) b.now
behind_option None b = refl
behind_option (Some x) b = refl

module _ {X : Type 0} where
  zip_at : (xs ys : List X) (i : ℕ) (d e : X) → i < length xs → i < length ys → get_or (zip xs ys) i (d, e) ≡ (get_or xs i d, get_or ys i e)
  zip_at [] ys i d e low high = absurd (omega (arith, low))
  zip_at (x ∷ xs) [] i d e low high = absurd (omega (arith, high))
  zip_at (x ∷ xs) (y ∷ ys) zero d e low high = refl
  zip_at (x ∷ xs) (y ∷ ys) (suc i) d e low high = zip_at xs ys i d e (omega (arith, low)) (omega (arith, high))

  zip_long : (xs ys : List X) → length xs ≤ length ys → length (zip xs ys) ≡ length xs
  zip_long [] ys h = refl
  zip_long (x ∷ xs) [] h = absurd (omega (arith, h))
  zip_long (x ∷ xs) (y ∷ ys) h = let rest = zip_long xs ys (omega (arith, h)) in omega (arith, rest)

  at_end : (xs : List X) (last d : X) (i : ℕ) → i ≤ length xs → get_or (xs ++ last ∷ []) i d ≡ get_or xs i last
  at_end [] last d zero h = refl
  at_end [] last d (suc i) h = absurd (omega (arith, h))
  at_end (x ∷ xs) last d zero h = refl
  at_end (x ∷ xs) last d (suc i) h = at_end xs last d i (omega (arith, h))

  next_at : (xs : List X) (last d : X) (i : ℕ) → i < length xs → get_or (drop 1 xs ++ last ∷ []) i d ≡ get_or xs (i + 1) last
  next_at [] last d i low = absurd (omega (arith, low))
  next_at (x ∷ xs) last d i low =
      at_end xs last d i (omega (arith, low)) ∙ ap (λ n. get_or (x ∷ xs) n last) (let e : suc i ≡ i + 1 = omega arith in e)

  turned_long : (xs : List X) (last : X) → length xs ≤ length (drop 1 xs ++ last ∷ [])
  turned_long [] last = omega arith
  turned_long (x ∷ xs) last = let long = length-append xs (last ∷ []) in omega (arith, long)

  module _ (f : X × X → Bool) (xs : List X) (last : X) where
    abbrev pub chain : List (X × X)
    chain = zip xs (drop 1 xs ++ last ∷ [])

    long : length chain ≡ length xs
    long = zip_long xs (drop 1 xs ++ last ∷ []) (turned_long xs last)

    pair_at : (i : ℕ) (x next : X) → i < length xs → x ≡ get_or xs i x → next ≡ get_or xs (i + 1) last → get_or chain i (x, last) ≡ (x, next)
    pair_at i x next low here there =
        zip_at xs (drop 1 xs ++ last ∷ []) i x last low (let h = turned_long xs last in omega (arith, low, h))
        ∙ ap (λ y. (y, get_or (drop 1 xs ++ last ∷ []) i last)) (sym here)
        ∙ ap (λ y. (x, y)) (next_at xs last last i low ∙ sym there)

    pub chain_stop : (i : ℕ) (x next : X) → i < length xs → x ≡ get_or xs i x → next ≡ get_or xs (i + 1) last → f (x, next) ≡ false → list_all f chain ≡ false
    chain_stop i x next low here there fails =
        list_all_at f chain i (x, last) (let e = long in omega (arith, low, e)) (ap f (pair_at i x next low here there) ∙ fails)

    pub chain_go : (i : ℕ) (x next : X) → i < length xs → x ≡ get_or xs i x → next ≡ get_or xs (i + 1) last → list_all f (take i chain) ≡ true
        → f (x, next) ≡ true → list_all f (take (i + 1) chain) ≡ true
    chain_go i x next low here there before holds =
        list_all_more f chain i (x, last) (let e = long in omega (arith, low, e))
        ∙ and_from _ _ before (ap f (pair_at i x next low here there) ∙ holds)

    pub chain_end : (i : ℕ) → length xs ≤ i → list_all f (take i chain) ≡ true → list_all f chain ≡ true
    chain_end i high before = ap (list_all f) (sym (take_all i chain (let e = long in omega (arith, high, e)))) ∙ before
