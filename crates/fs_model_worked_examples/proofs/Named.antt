-- The names of operations decide their numbers.
use Rattle.std.proofs.Common.{◌≡◌, ℕ, Option, Some, List, [], ◌∷◌, map, refl}
use Rattle.fs_kinds.specs.declared.reason.OperationName.{OperationName as Name}
use Rattle.fs_model.specs.Operations.{PreExecution}
use Rattle.fs_model.specs.Witness.{name_of}

-- the number of each name that an operation has
abbrev pub Numbers : PreExecution → (Name → ℕ) → Type 0
Numbers x number = (a : ℕ) (name : Name) → name_of x a ≡ Some name → a ≡ number name

pub same_name : {m n : Name} → Some m ≡ Some n → m ≡ n
same_name e = cc

pub head : {a b : Option Name} {xs ys : List (Option Name)} → a ∷ xs ≡ b ∷ ys → a ≡ b
head e = cc

tail : {a b : Option Name} {xs ys : List (Option Name)} → a ∷ xs ≡ b ∷ ys → xs ≡ ys
tail e = cc

pub numbered : (x : PreExecution) (number : Name → ℕ) → Numbers x number → (ns : List ℕ) (names : List Name)
    → map (name_of x) ns ≡ map (λ name. Some name) names → ns ≡ map number names
numbered x number each [] [] e = refl
numbered x number each [] (name ∷ names) e = absurd cc
numbered x number each (a ∷ ns) [] e = absurd cc
numbered x number each (a ∷ ns) (name ∷ names) e =
    let first = each a name (head e) in
    let rest = numbered x number each ns names (tail e) in
    cc
