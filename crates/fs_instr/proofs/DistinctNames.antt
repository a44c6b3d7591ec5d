-- Each name stands once in the table.
use Rattle.std.proofs.Common.{◌≡◌, ℕ, List, [], ◌∷◌, Bool, true, false, ◌&&◌, refl, not}
use Rattle.std.specs.List.{IsDistinct, AllByRecursion}
use Rattle.std.specs.Str.{bytes_eq}
use Rattle.fs_instr.specs.Names.{all_names, register_names, immediate_names, branch_names, single_names, plain_names, acquiring_names, releasing_names, both_names, both_apart_names, short_names, short_branch_names, low_names}

abbrev is_apart : List ℕ → List (List ℕ) → Bool
is_apart name [] = true
is_apart name (other ∷ others) = not (bytes_eq name other) && is_apart name others

abbrev are_distinct : List (List ℕ) → Bool
are_distinct [] = true
are_distinct (name ∷ names) = is_apart name names && are_distinct names

both_true : (a b : Bool) → (a && b) ≡ true → (a ≡ true) × (b ≡ true)
both_true true b e = (refl, e)
both_true false b e = absurd (cc)

not_false : (b : Bool) → not b ≡ true → b ≡ false
not_false true e = absurd (cc)
not_false false e = refl

apart_all : (name : List ℕ) (names : List (List ℕ)) → is_apart name names ≡ true → AllByRecursion (λ y. bytes_eq name y ≡ false) names
apart_all name [] e = tt
apart_all name (other ∷ others) e =
    let both = both_true (not (bytes_eq name other)) (is_apart name others) e in
    (not_false (bytes_eq name other) both.0, apart_all name others both.1)

distinct_all : (names : List (List ℕ)) → are_distinct names ≡ true → IsDistinct bytes_eq names
unfolding IsDistinct
distinct_all [] e = tt
distinct_all (name ∷ names) e =
    let both = both_true (is_apart name names) (are_distinct names) e in
    (apart_all name names both.0, distinct_all names both.1)

pub names_once : IsDistinct bytes_eq all_names
unfolding register_names immediate_names branch_names single_names plain_names acquiring_names releasing_names both_names both_apart_names short_names short_branch_names low_names
names_once = distinct_all all_names refl
