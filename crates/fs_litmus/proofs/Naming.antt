-- The names that a set of texts holds.
use Rattle.std.proofs.Common.{◌≡◌, ℕ, ◌+◌, List, [], ◌∷◌, ◌++◌, Bool, true, false, ◌||◌, cond, refl, sym, ap, ◌∙◌, length, not, Some, None}
use Rattle.std.specs.List.{list_any, position_or_len}
use Rattle.std.specs.Prelude.{position, nat_lt}
use Rattle.std.specs.Str.{bytes_eq}
use Rattle.std.specs.Borrow.{Bor}
use Rattle.std.proofs.lemmas.List.{map-append, length-map}
use Rattle.fs_litmus.specs.Locations.{texts, with_name, number_of_location}

any_texts : (w : List ℕ) (ks : List (Bor (List ℕ))) → list_any (λ k. bytes_eq w k.now) ks ≡ list_any (bytes_eq w) (texts ks)
any_texts w [] = refl
any_texts w (k ∷ ks) = ap (λ b. bytes_eq w k.now || b) (any_texts w ks)

added_texts : (ks : List (Bor (List ℕ))) (k : Bor (List ℕ)) (b : Bool) → texts (cond b ks (ks ++ k ∷ [])) ≡ cond b (texts ks) (texts ks ++ k.now ∷ [])
added_texts ks k true = refl
added_texts ks k false = map-append (λ k. k.now) ks (k ∷ [])

pub inserted : (ks new : List (Bor (List ℕ))) (k : Bor (List ℕ)) → new ≡ cond (list_any (λ x. bytes_eq k.now x.now) ks) ks (ks ++ k ∷ []) → texts new ≡ with_name (texts ks) k.now
inserted ks new k e =
    ap texts e ∙ added_texts ks k (list_any (λ x. bytes_eq k.now x.now) ks) ∙ ap (λ b. cond b (texts ks) (texts ks ++ k.now ∷ [])) (any_texts k.now ks)

place_texts : (w : List ℕ) (ks : List (Bor (List ℕ))) → position_or_len (λ k. bytes_eq w k.now) ks ≡ position_or_len (bytes_eq w) (texts ks)
place_texts w [] = refl
place_texts w (k ∷ ks) = ap (λ n. cond (not (bytes_eq w k.now)) (1 + n) 0) (place_texts w ks)

pub numbered : (w : List ℕ) (ks : List (Bor (List ℕ))) → position (λ k. bytes_eq w k.now) ks ≡ number_of_location (texts ks) w
numbered w ks =
    ap (λ n. cond (nat_lt n (length ks)) (Some n) None) (place_texts w ks)
    ∙ ap (λ n. cond (nat_lt (position_or_len (bytes_eq w) (texts ks)) n) (Some (position_or_len (bytes_eq w) (texts ks))) None) (sym (length-map ks (λ k. k.now)))
