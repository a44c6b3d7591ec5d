-- One more number.
use Rattle.std.proofs.Common.{◌≡◌, ◌∙◌, sym, ap, ℕ, ◌+◌, List, [], ◌∷◌, ◌++◌, map, flat_map, arith}
use Rattle.std.proofs.lemmas.List.{append_assoc}
use Rattle.std.proofs.lemmas.List.FromFn.{map-range_with_len_more}
use Rattle.fs_model.specs.Numbers.{numbers_below}
use Rattle.fs_model.proofs.Numbered.{flat_map_range_more}

pub pushed : {X : Type 0} (f : ℕ → X) (old now : List X) (n : ℕ) → now ≡ old ++ map f (numbers_below n) → now ++ f n ∷ [] ≡ old ++ map f (numbers_below (n + 1))
pushed f old now n h =
    ap (λ xs. xs ++ f n ∷ []) h
    ∙ append_assoc old (map f (numbers_below n)) (f n ∷ [])
    ∙ ap (λ xs. old ++ xs) (sym (map-range_with_len_more f 0 n n (omega arith)))

pub flat_pushed : {X : Type 0} (f : ℕ → List X) (now : List X) (n : ℕ) → now ≡ flat_map f (numbers_below n) → now ++ f n ≡ flat_map f (numbers_below (n + 1))
flat_pushed f now n h =
    ap (λ xs. xs ++ f n) h ∙ sym (flat_map_range_more f n)
