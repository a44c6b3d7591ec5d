-- A copy added among copies, as the loop over them comes to its place.
use Rattle.std.proofs.Common.{◌≡◌, ◌<◌, ◌≤◌, ◌+◌, ℕ, Bool, true, false, List, [], ◌∷◌, ◌++◌, map, length, get_or, take, drop, refl, sym, ap, ◌∙◌, append_assoc}
use Rattle.std.specs.List.{insert}
use Rattle.std.proofs.lemmas.List.{drop-map, drop_all, drop_more, take-map, take_more, map-append, take-append-drop}
use Rattle.fs_kinds.specs.declared.slot.Slot.{Slot}
use Rattle.fs_kinds.specs.Slot.{is_before, is_same_slot}
use Rattle.fs_app_sites.specs.Sites.{Copy, own_copy, with_slot}

module _ (prefix : List ℕ) (s : Slot) where
  same-first : (copy : Copy) (copies : List Copy) → is_same_slot copy.slot s ≡ true → with_slot prefix (copy ∷ copies) s ≡ copy ∷ copies
  same-first copy copies same = rw same refl

  later-first : (copy : Copy) (copies : List Copy) → is_same_slot copy.slot s ≡ false → is_before s copy.slot ≡ true
      → with_slot prefix (copy ∷ copies) s ≡ own_copy prefix s ∷ copy ∷ copies
  later-first copy copies other before = rw (other, before) refl

  earlier-first : (copy : Copy) (copies : List Copy) → is_same_slot copy.slot s ≡ false → is_before s copy.slot ≡ false
      → with_slot prefix (copy ∷ copies) s ≡ copy ∷ with_slot prefix copies s
  earlier-first copy copies other before = rw (other, before) refl

  module _ {S : Type 0} (f : S → Copy) (xs : List S) where
    -- behind the first i the slot stands among those that are left as it does among all
    abbrev pub StandsBehind : ℕ → Type 0
    StandsBehind i = map f (take i xs) ++ with_slot prefix (map f (drop i xs)) s ≡ with_slot prefix (map f xs) s

    put : (i : ℕ) → StandsBehind i → with_slot prefix (map f (drop i xs)) s ≡ own_copy prefix s ∷ map f (drop i xs)
        → with_slot prefix (map f xs) s ≡ insert (map f xs) i (own_copy prefix s)
    put i is here =
        let own = own_copy prefix s in
        sym is ∙ ap (λ cs. map f (take i xs) ++ cs) here
        ∙ ap (λ cs. cs ++ own ∷ map f (drop i xs)) (sym (take-map f i xs))
        ∙ ap (λ cs. take i (map f xs) ++ own ∷ cs) (sym (drop-map f i xs))

    module _ (i : ℕ) (x : S) (low : i < length xs) (at : x ≡ get_or xs i x) where
      cut : map f (drop i xs) ≡ f x ∷ map f (drop (i + 1) xs)
      cut = ap (map f) (drop_more xs i x low ∙ ap (λ y. y ∷ drop (i + 1) xs) (sym at))

      pub stands-there : StandsBehind i → is_same_slot (f x).slot s ≡ true → with_slot prefix (map f xs) s ≡ map f xs
      stands-there is same =
          let here : with_slot prefix (map f (drop i xs)) s ≡ map f (drop i xs) =
          ap (λ cs. with_slot prefix cs s) cut ∙ same-first (f x) (map f (drop (i + 1) xs)) same ∙ sym cut in
          sym is ∙ ap (λ cs. map f (take i xs) ++ cs) here ∙ sym (map-append f (take i xs) (drop i xs))
          ∙ ap (map f) (take-append-drop i xs)

      pub stands-before : StandsBehind i → is_same_slot (f x).slot s ≡ false → is_before s (f x).slot ≡ true
          → with_slot prefix (map f xs) s ≡ insert (map f xs) i (own_copy prefix s)
      stands-before is other before =
          put i is
          (ap (λ cs. with_slot prefix cs s) cut ∙ later-first (f x) (map f (drop (i + 1) xs)) other before
          ∙ ap (λ (cs : List Copy). own_copy prefix s ∷ cs) (sym cut))

      pub goes-on : StandsBehind i → is_same_slot (f x).slot s ≡ false → is_before s (f x).slot ≡ false → StandsBehind (i + 1)
      goes-on is other before =
          let rest = with_slot prefix (map f (drop (i + 1) xs)) s in
          let here : with_slot prefix (map f (drop i xs)) s ≡ f x ∷ rest =
          ap (λ cs. with_slot prefix cs s) cut ∙ earlier-first (f x) (map f (drop (i + 1) xs)) other before in
          let more : take (i + 1) xs ≡ take i xs ++ x ∷ [] = take_more xs i x low ∙ ap (λ y. take i xs ++ y ∷ []) (sym at) in
          ap (λ ys. map f ys ++ rest) more ∙ ap (λ cs. cs ++ rest) (map-append f (take i xs) (x ∷ []))
          ∙ append_assoc (map f (take i xs)) (f x ∷ []) rest ∙ ap (λ cs. map f (take i xs) ++ cs) (sym here) ∙ is

    pub stands-last : (i : ℕ) → length xs ≤ i → StandsBehind i
        → with_slot prefix (map f xs) s ≡ insert (map f xs) i (own_copy prefix s)
    stands-last i all is =
        let none : map f (drop i xs) ≡ [] = ap (map f) (drop_all i xs all) in
        put i is (ap (λ cs. with_slot prefix cs s) none ∙ ap (λ (cs : List Copy). own_copy prefix s ∷ cs) (sym none))

pub inserted : {S : Type 0} (f : S → Copy) (xs : List S) (i : ℕ) (y : S) → map f (insert xs i y) ≡ insert (map f xs) i (f y)
inserted f xs i y =
    map-append f (take i xs) (y ∷ drop i xs) ∙ ap (λ cs. cs ++ f y ∷ map f (drop i xs)) (sym (take-map f i xs))
    ∙ ap (λ cs. take i (map f xs) ++ f y ∷ cs) (sym (drop-map f i xs))

-- where the place was found among the copies as they were passed on
pub put-in : {S : Type 0} (f : S → Copy) (prefix : List ℕ) (s : Slot) (xs passed new : List S) (i : ℕ) (y : S) → new ≡ insert xs i y
    → f y ≡ own_copy prefix s → passed ≡ xs → with_slot prefix (map f passed) s ≡ insert (map f passed) i (own_copy prefix s)
    → map f new ≡ with_slot prefix (map f xs) s
put-in f prefix s xs passed new i y made own same is =
    ap (map f) made ∙ inserted f xs i y ∙ ap (insert (map f xs) i) own
    ∙ ap (λ ys. insert (map f ys) i (own_copy prefix s)) (sym same) ∙ sym is ∙ ap (λ ys. with_slot prefix (map f ys) s) same
