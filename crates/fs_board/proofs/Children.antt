-- Lemmas on nodes that are held, and on children.
use Rattle.std.proofs.Common.{◌≡◌, ℕ, zero, suc, ◌+◌, ◌^◌, ◌<◌, ◌≤◌, Fits, w64, Bool, true, false, Option, Some, None, List, [], ◌∷◌, ◌++◌, length, map, refl, arith, ◌∙◌, ap, length-append}
use Rattle.std.specs.Prelude.{IfSome, slice_get, drop, All, if◌then◌else◌, option_and_then, nat_lt}
use Rattle.std.proofs.lemmas.Bool.Decides.{nat_tests}
use Rattle.std.proofs.lemmas.List.Elements.{All-nil, All-cons}
use Rattle.fs_board_offers.specs.Parts.{Part}
use Rattle.fs_board_offers.specs.Board.{Board, Node, Status, Open, part_at}
use Rattle.fs_board.specs.Growth.{open_node}

pub map_drop : {A B : Type 0} (f : A → B) (n : ℕ) (xs : List A) → map f (drop n xs) ≡ drop n (map f xs)
map_drop f zero xs = refl
map_drop f (suc n) [] = refl
map_drop f (suc n) (x ∷ xs) = map_drop f n xs

pub length_map : {A B : Type 0} (f : A → B) (xs : List A) → length (map f xs) ≡ length xs
length_map f [] = refl
length_map f (x ∷ xs) = ap suc (length_map f xs)

pub all_open : (parts : List Part) → All (λ (n : Node). n.status ≡ Open) (map open_node parts)
all_open [] = All-nil (λ (n : Node). n.status ≡ Open)
all_open (part ∷ parts) = All-cons (λ (n : Node). n.status ≡ Open) (open_node part) (map open_node parts) refl (all_open parts)

pub not_less : (m n : ℕ) → n ≤ m → nat_lt m n ≡ false
not_less m n le = grind (arith, nat_tests)

-- what the code has counted is what the board counts
pub room_for : (a b c k m n : ℕ) → a ≡ k → b ≡ m → c ≡ n → a + b ≤ c + 1 → k + m ≤ n + 1
room_for a b c k m n i j l h = omega arith

pub room_grown : (marked nodes kids : List Node) (many room : ℕ) → length marked ≡ length nodes → length kids ≡ many → length nodes + many ≤ room → length (marked ++ kids) ≤ room
room_grown marked nodes kids many room i j h = omega (arith, length-append marked kids)

-- ---- sums and places, over plain numbers

pub one_free : (n m : ℕ) → n + 1 ≤ m → n < m
one_free n m room = omega arith

pub limit_fits : (a n : ℕ) → a ≡ n → n ≤ 1000000 → Fits w64 (a + 1)
limit_fits a n is low = omega arith

pub sum_fits : (a b len cap : ℕ) → a < 2 ^ 63 → b ≡ len → len ≤ cap → cap < 2 ^ 63 → Fits w64 (a + b)
sum_fits a b len cap low is within few = omega arith

pub next_fits : (a b len cap : ℕ) → a < b → b ≡ len → len ≤ cap → cap < 2 ^ 63 → Fits w64 (a + 1)
next_fits a b len cap low is within few = omega arith

pub is_more : (a b c k m n : ℕ) → a ≡ k → b ≡ m → c ≡ n → c + 1 < a + b → nat_lt (n + 1) (k + m) ≡ true
is_more a b c k m n i j l h = let low : n + 1 < k + m = omega arith in grind (arith, nat_tests)

found : (test : Status → Bool) (ns : List Node) (k : ℕ) (part : Part) → option_and_then (λ node. if test node.status then Some node.part else None) (slice_get ns k) ≡ Some part
    → (n : Node) × (slice_get ns k ≡ Some n) × (n.part ≡ part)
found test [] k part e = absurd (cc)
found test (n ∷ ns) zero part e = elim (test n.status) as (λ b. (if b then Some n.part else None) ≡ Some part → (m : Node) × (slice_get (n ∷ ns) zero ≡ Some m) × (m.part ≡ part)) [
  | true ↦ λ here. (n, refl, cc)
  | false ↦ λ here. absurd (cc)
] e
found test (n ∷ ns) (suc k) part e = found test ns k part e

-- a node with such a status is there, and this is its part
pub node_with : (test : Status → Bool) (b : Board) (k : ℕ) (part : Part) → part_at test b k ≡ Some part
    → (n : Node) × (slice_get b.nodes k ≡ Some n) × (n.part ≡ part)
node_with test b k part e = found test b.nodes k part e

-- and a node with such a status has a part there
pub some_part : (test : Status → Bool) (b : Board) (r : Option ℕ)
    → IfSome r (λ k. (n : Node) × (slice_get b.nodes k ≡ Some n) × (test n.status ≡ true))
    → IfSome r (λ k. (p : Part) × (part_at test b k ≡ Some p))
some_part test b None is = tt
some_part test b (Some k) is =
    let n : Node = is.0 in
    (n.part, ap (option_and_then (λ node. if test node.status then Some node.part else None)) is.1 ∙ ap (λ c. if c then Some n.part else None) is.2)
