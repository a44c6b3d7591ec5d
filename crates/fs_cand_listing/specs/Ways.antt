-- All ways to choose, each once and in order.
use Rattle.std.specs.Prelude.{ℕ, zero, suc, ◌+◌, ◌*◌, ◌==◌, not, List, [], ◌∷◌, map, filter, length}
use Rattle.std.specs.List.{flat_map}

-- each first item before each list that may come behind it
abbrev pub branches : {X : Type 0} → (X → List (List X)) → List X → List (List X)
branches rest xs = flat_map (λ x. map (λ ys. x ∷ ys) (rest x)) xs

-- one item of each list, in all ways: the last list's items change first
abbrev pub products : {X : Type 0} → List (List X) → List (List X)
products [] = [] ∷ []
products (xs ∷ xss) = branches (λ x. products xss) xs

-- the list without the number
abbrev pub others : List ℕ → ℕ → List ℕ
others ns a = filter (λ n. not (n == a)) ns

-- all ways to take n of the numbers one after the other
abbrev pub orders_of : ℕ → List ℕ → List (List ℕ)
orders_of zero ns = [] ∷ []
orders_of (suc n) ns = branches (λ a. orders_of n (others ns a)) ns

-- the numbers in all orders
abbrev pub orders : List ℕ → List (List ℕ)
orders ns = orders_of (length ns) ns

abbrev pub factorial : ℕ → ℕ
factorial zero = 1
factorial (suc n) = (n + 1) * factorial n

-- the product of these numbers of the items
abbrev pub product_by : {X : Type 0} → (X → ℕ) → List X → ℕ
product_by f [] = 1
product_by f (x ∷ xs) = f x * product_by f xs

abbrev pub product_of_lengths : {X : Type 0} → List (List X) → ℕ
product_of_lengths xss = product_by length xss
