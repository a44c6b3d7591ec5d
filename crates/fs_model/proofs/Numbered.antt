-- The step of a loop over a list whose elements are numbered from 0, and its end.
use Rattle.std.proofs.Common.{◌≡◌, ℕ, ◌+◌, ◌<◌, ◌≤◌, List, [], ◌∷◌, ◌++◌, length, get_or, take, map, flat_map, filter, cond, Bool, true, false, refl, ap, sym, ◌∙◌, arith, zero-add}
use Rattle.std.specs.List.{enumerate_from, range_with_len}
use Rattle.std.proofs.lemmas.List.{take_more, take_all, map-append, map-id, append-nil, append_assoc, length-append}
use Rattle.std.proofs.lemmas.List.Concat.{flat_map-append}
use Rattle.std.proofs.lemmas.List.Elements.{filter-append}
use Rattle.std.proofs.lemmas.List.FromFn.{length-enumerate_from, get_or-enumerate_from, map-range_with_len_more}

pub take-enumerate_from : {X : Type 0} (xs : List X) (i : ℕ) (d : X) → i < length xs → take (i + 1) (enumerate_from 0 xs) ≡ take i (enumerate_from 0 xs) ++ (i, get_or xs i d) ∷ []
take-enumerate_from xs i d h =
    take_more (enumerate_from 0 xs) i (0, d) (rw length-enumerate_from h)
    ∙ ap (λ y. take i (enumerate_from 0 xs) ++ y ∷ []) (get_or-enumerate_from 0 xs i (0, d) h ∙ ap (λ n. (n, get_or xs i d)) (zero-add i))

pub take_whole-enumerate_from : {X : Type 0} (xs : List X) → take (length xs) (enumerate_from 0 xs) ≡ enumerate_from 0 xs
take_whole-enumerate_from xs = take_all (length xs) (enumerate_from 0 xs) (omega (arith, length-enumerate_from 0 xs))

pub map_numbered : {X Y : Type 0} (f : ℕ × X → Y) (xs : List X) (i : ℕ) (d : X) → i < length xs → map f (take (i + 1) (enumerate_from 0 xs)) ≡ map f (take i (enumerate_from 0 xs)) ++ f (i, get_or xs i d) ∷ []
map_numbered f xs i d h = ap (map f) (take-enumerate_from xs i d h) ∙ map-append f (take i (enumerate_from 0 xs)) ((i, get_or xs i d) ∷ [])

pub flat_map_numbered : {X Y : Type 0} (f : ℕ × X → List Y) (xs : List X) (i : ℕ) (d : X) → i < length xs → flat_map f (take (i + 1) (enumerate_from 0 xs)) ≡ flat_map f (take i (enumerate_from 0 xs)) ++ f (i, get_or xs i d)
flat_map_numbered f xs i d h =
    ap (flat_map f) (take-enumerate_from xs i d h)
    ∙ flat_map-append f (take i (enumerate_from 0 xs)) ((i, get_or xs i d) ∷ [])
    ∙ ap (λ ys. flat_map f (take i (enumerate_from 0 xs)) ++ ys) (append-nil (f (i, get_or xs i d)))

pub filter_numbered : {X : Type 0} (p : ℕ × X → Bool) (xs : List X) (i : ℕ) (d : X) → i < length xs → filter p (take (i + 1) (enumerate_from 0 xs)) ≡ filter p (take i (enumerate_from 0 xs)) ++ cond (p (i, get_or xs i d)) ((i, get_or xs i d) ∷ []) []
filter_numbered p xs i d h =
    ap (filter p) (take-enumerate_from xs i d h)
    ∙ filter-append p (take i (enumerate_from 0 xs)) ((i, get_or xs i d) ∷ [])

pub numbered_end : {X : Type 0} (xs : List X) (i : ℕ) → length xs ≤ i → take i (enumerate_from 0 xs) ≡ enumerate_from 0 xs
numbered_end xs i h = take_all i (enumerate_from 0 xs) (omega (arith, length-enumerate_from 0 xs))

-- one more item pushed, where v is what contracts see of an item
pub numbered_push : {S X Y : Type 0} (v : S → Y) (f : ℕ × X → Y) (xs : List X) (i : ℕ) (x : X) (old new : List S) (s : S) → i < length xs → x ≡ get_or xs i x → new ≡ old ++ s ∷ [] → map v old ≡ map f (take i (enumerate_from 0 xs)) → v s ≡ f (i, x) → map v new ≡ map f (take (i + 1) (enumerate_from 0 xs))
numbered_push v f xs i x old new s h at pushed before item =
    let grown = ap (map v) pushed ∙ map-append v old (s ∷ []) in
    let wanted = map_numbered f xs i x h in
    let found = ap (λ y. f (i, y)) at in
    cc

pub numbered_flat : {X Y : Type 0} (f : ℕ × X → List Y) (xs : List X) (i : ℕ) (x : X) (old new : List Y) → i < length xs → x ≡ get_or xs i x → new ≡ old ++ f (i, x) → old ≡ flat_map f (take i (enumerate_from 0 xs)) → new ≡ flat_map f (take (i + 1) (enumerate_from 0 xs))
numbered_flat f xs i x old new h at grown before =
    let wanted = flat_map_numbered f xs i x h in
    let found = ap (λ y. f (i, y)) at in
    cc

pub numbered_text : {X Y : Type 0} (f : ℕ × X → List Y) (xs : List X) (i : ℕ) (x : X) (start old new : List Y) → i < length xs → x ≡ get_or xs i x → new ≡ old ++ f (i, x) → old ≡ start ++ flat_map f (take i (enumerate_from 0 xs)) → new ≡ start ++ flat_map f (take (i + 1) (enumerate_from 0 xs))
numbered_text f xs i x start old new h at grown before =
    let wanted = flat_map_numbered f xs i x h in
    let found = ap (λ y. f (i, y)) at in
    let grouped = append_assoc start (flat_map f (take i (enumerate_from 0 xs))) (f (i, x)) in
    cc

-- numbers from 0
pub range_more : (n : ℕ) → range_with_len 0 (n + 1) ≡ range_with_len 0 n ++ n ∷ []
range_more n =
    sym (map-id (range_with_len 0 (n + 1)))
    ∙ map-range_with_len_more (λ k. k) 0 n n (zero-add n)
    ∙ ap (λ ks. ks ++ n ∷ []) (map-id (range_with_len 0 n))

pub flat_map_range_more : {Y : Type 0} (f : ℕ → List Y) (n : ℕ) → flat_map f (range_with_len 0 (n + 1)) ≡ flat_map f (range_with_len 0 n) ++ f n
flat_map_range_more f n =
    ap (flat_map f) (range_more n)
    ∙ flat_map-append f (range_with_len 0 n) (n ∷ [])
    ∙ ap (λ ys. flat_map f (range_with_len 0 n) ++ ys) (append-nil (f n))

length_one_or_none : (b : Bool) (n : ℕ) → length (cond b (n ∷ []) []) ≡ cond b 1 0
length_one_or_none true n = refl
length_one_or_none false n = refl

pub length_filter_range_more : (p : ℕ → Bool) (n : ℕ) → length (filter p (range_with_len 0 (n + 1))) ≡ length (filter p (range_with_len 0 n)) + cond (p n) 1 0
length_filter_range_more p n =
    ap (λ ks. length (filter p ks)) (range_more n)
    ∙ ap length (filter-append p (range_with_len 0 n) (n ∷ []))
    ∙ length-append (filter p (range_with_len 0 n)) (cond (p n) (n ∷ []) [])
    ∙ ap (λ k. length (filter p (range_with_len 0 n)) + k) (length_one_or_none (p n) n)

pub range_text : {Y : Type 0} (f : ℕ → List Y) (n : ℕ) (start old new : List Y) → new ≡ old ++ f n → old ≡ start ++ flat_map f (range_with_len 0 n) → new ≡ start ++ flat_map f (range_with_len 0 (n + 1))
range_text f n start old new grown before =
    let wanted = flat_map_range_more f n in
    let grouped = append_assoc start (flat_map f (range_with_len 0 n)) (f n) in
    cc

pub numbered_push_plain : {X Y : Type 0} (f : ℕ × X → Y) (xs : List X) (i : ℕ) (x : X) (old new : List Y) (y : Y) → i < length xs → x ≡ get_or xs i x → new ≡ old ++ y ∷ [] → old ≡ map f (take i (enumerate_from 0 xs)) → y ≡ f (i, x) → new ≡ map f (take (i + 1) (enumerate_from 0 xs))
numbered_push_plain f xs i x old new y h at pushed before item =
    let wanted = map_numbered f xs i x h in
    let found = ap (λ z. f (i, z)) at in
    cc

-- one more item pushed where the test holds, and none where it doesn't
pub numbered_kept : {S X Y : Type 0} (v : S → Y) (f : ℕ × X → Y) (p : ℕ × X → Bool) (xs : List X) (i : ℕ) (x : X) (old new : List S) (s : S) → i < length xs → get_or xs i x ≡ x → p (i, x) ≡ true → new ≡ old ++ s ∷ [] → map v old ≡ map f (filter p (take i (enumerate_from 0 xs))) → v s ≡ f (i, x) → map v new ≡ map f (filter p (take (i + 1) (enumerate_from 0 xs)))
numbered_kept v f p xs i x old new s h at kept pushed before item =
    ap (map v) pushed
    ∙ map-append v old (s ∷ [])
    ∙ ap (λ ys. ys ++ v s ∷ []) before
    ∙ ap (λ y. map f (filter p (take i (enumerate_from 0 xs))) ++ y ∷ []) item
    ∙ sym (map-append f (filter p (take i (enumerate_from 0 xs))) ((i, x) ∷ []))
    ∙ ap (λ b. map f (filter p (take i (enumerate_from 0 xs)) ++ cond b ((i, x) ∷ []) [])) (sym kept)
    ∙ ap (λ z. map f (filter p (take i (enumerate_from 0 xs)) ++ cond (p (i, z)) ((i, z) ∷ []) [])) (sym at)
    ∙ sym (ap (map f) (filter_numbered p xs i x h))

pub numbered_skipped : {X Y : Type 0} (f : ℕ × X → Y) (p : ℕ × X → Bool) (xs : List X) (i : ℕ) (x : X) (old : List Y) → i < length xs → get_or xs i x ≡ x → p (i, x) ≡ false → old ≡ map f (filter p (take i (enumerate_from 0 xs))) → old ≡ map f (filter p (take (i + 1) (enumerate_from 0 xs)))
numbered_skipped f p xs i x old h at skipped before =
    before
    ∙ ap (map f) (sym (append-nil (filter p (take i (enumerate_from 0 xs)))))
    ∙ ap (λ b. map f (filter p (take i (enumerate_from 0 xs)) ++ cond b ((i, x) ∷ []) [])) (sym skipped)
    ∙ ap (λ z. map f (filter p (take i (enumerate_from 0 xs)) ++ cond (p (i, z)) ((i, z) ∷ []) [])) (sym at)
    ∙ sym (ap (map f) (filter_numbered p xs i x h))
