-- Counts of nodes by their status.
use Rattle.std.proofs.Common.{◌≡◌, ℕ, zero, suc, ◌+◌, ◌-◌, ◌<◌, ◌≤◌, Some, List, [], ◌∷◌, ◌++◌, length, Bool, true, false, refl, arith, sym, ◌∙◌, ap, inl, inr, ◌⊎◌, ⊎_elim, length-append}
use Rattle.std.specs.Prelude.{slice_get, slice_set, All, if◌then◌else◌, not, ◌==◌, ◌||◌}
use Rattle.std.specs.List.{list_any}
use Rattle.std.proofs.lemmas.Bool.Decides.{nat_tests}
use Rattle.std.proofs.lemmas.List.Elements.{All-head, All-tail}
use Rattle.fs_board_offers.specs.Board.{Node, Status, Open, is_open, is_held}
use Rattle.fs_board.specs.Counts.{IsCounted, count_of}

abbrev pub one : Bool → ℕ
one b = if b then 1 else 0

pub count_append : (p : Status → Bool) (ms ns : List Node) → count_of p (ms ++ ns) ≡ count_of p ms + count_of p ns
count_append p [] ns = omega arith
count_append p (m ∷ ms) ns = let e = count_append p ms ns in omega arith

pub count_set : (p : Status → Bool) (ns : List Node) (k : ℕ) (n m : Node) → slice_get ns k ≡ Some n → count_of p (slice_set ns k m) + one (p n.status) ≡ count_of p ns + one (p m.status)
count_set p [] k n m e = absurd (cc)
count_set p (x ∷ xs) zero n m e = let i : x ≡ n = cc in rw i (omega arith)
count_set p (x ∷ xs) (suc k) n m e = let i = count_set p xs k n m e in omega arith

pub count_le : (p : Status → Bool) (ns : List Node) → count_of p ns ≤ length ns
count_le p [] = omega arith
count_le p (n ∷ ns) = let i = count_le p ns in elim (p n.status) as (λ b. one b + count_of p ns ≤ suc (length ns)) [ true ↦ omega arith | false ↦ omega arith ]

-- a node passes exactly where the count isn't 0
pub count_any : (p : Status → Bool) (ns : List Node) → list_any (λ node. p node.status) ns ≡ not (count_of p ns == 0)
count_any p [] = refl
count_any p (n ∷ ns) = elim (p n.status) as (λ b. (b || list_any (λ node. p node.status) ns) ≡ not (one b + count_of p ns == 0)) [
  | true ↦ grind (arith, nat_tests)
  | false ↦ let z : 0 + count_of p ns ≡ count_of p ns = omega arith in count_any p ns ∙ ap (λ k. not (k == 0)) (sym z)
]

-- where no node below `next` passes, and there are no more, none does
pub none_passes : (p : Status → Bool) (ns : List Node) → ((k : ℕ) (n : Node) → slice_get ns k ≡ Some n → p n.status ≡ false) → list_any (λ node. p node.status) ns ≡ false
none_passes p [] h = refl
none_passes p (n ∷ ns) h =
    let here : p n.status ≡ false = h 0 n refl in
    let rest = none_passes p ns (λ k m at. h (suc k) m at) in
    rw (here, rest) refl

get_set : (ns : List Node) (k j : ℕ) (m n : Node) → slice_get (slice_set ns k m) j ≡ Some n → (n ≡ m) ⊎ (slice_get ns j ≡ Some n)
get_set [] k j m n e = inr e
get_set (x ∷ xs) zero zero m n e = inl (cc)
get_set (x ∷ xs) zero (suc j) m n e = inr e
get_set (x ∷ xs) (suc k) zero m n e = inr e
get_set (x ∷ xs) (suc k) (suc j) m n e = get_set xs k j m n e

pub length_set : (ns : List Node) (k : ℕ) (m : Node) → length (slice_set ns k m) ≡ length ns
length_set [] k m = refl
length_set (x ∷ xs) zero m = refl
length_set (x ∷ xs) (suc k) m = ap suc (length_set xs k m)

pub counted_set : (ns : List Node) (next free held k : ℕ) (n m : Node) (free' held' : ℕ) → IsCounted ns next free held → slice_get ns k ≡ Some n → is_open m.status ≡ false
    → free' + one (is_open n.status) ≡ free → held' + one (is_held n.status) ≡ held + one (is_held m.status) → IsCounted (slice_set ns k m) next free' held'
counted_set ns next free held k n m free' held' h at closed e f = record {
  within = rw (length_set ns k m) h.within;
  passed = λ j x l i. ⊎_elim (λ (s : x ≡ m). ap (λ y. is_open y.status) s ∙ closed) (λ (s : slice_get ns j ≡ Some x). h.passed j x l s) (get_set ns k j m x i);
  opened = let a = count_set is_open ns k n m at in let b = h.opened in let d : one (is_open m.status) ≡ 0 = ap one closed in omega arith;
  kept = let a = count_set is_held ns k n m at in let b = h.kept in omega arith;
}

pub count_ge : (p : Status → Bool) (ns : List Node) (k : ℕ) (n : Node) → slice_get ns k ≡ Some n → one (p n.status) ≤ count_of p ns
count_ge p [] k n e = absurd (cc)
count_ge p (x ∷ xs) zero n e = let i : x ≡ n = cc in rw (← i) (omega arith)
count_ge p (x ∷ xs) (suc k) n e = let i = count_ge p xs k n e in omega arith

-- the numbers after a node is marked
pub record Marks (ns : List Node) (next free held k : ℕ) (n m : Node) (x y z : ℕ) : Type 0 where
  pub free_down : x ≤ free
  pub held_up : held ≤ length ns
  pub held_down : z ≤ held + y
  pub counted : IsCounted (slice_set ns k m) next (free - x) (held + y - z)

pub marks : (ns : List Node) (next free held k : ℕ) (n m : Node) (x y z : ℕ) → IsCounted ns next free held → slice_get ns k ≡ Some n → is_open m.status ≡ false
    → x ≡ one (is_open n.status) → y ≡ one (is_held m.status) → z ≡ one (is_held n.status) → Marks ns next free held k n m x y z
marks ns next free held k n m x y z h at closed e f g =
    let a = h.opened in
    let b = h.kept in
    let ge = count_ge is_open ns k n at in
    let ge' = count_ge is_held ns k n at in
    let le = count_le is_held ns in
    record {
      free_down = omega arith;
      held_up = omega arith;
      held_down = omega arith;
      counted = counted_set ns next free held k n m (free - x) (held + y - z) h at closed (omega arith) (omega arith);
    }

all_open : (kids : List Node) → All (λ (n : Node). n.status ≡ Open) kids → count_of is_open kids ≡ length kids
all_open [] h = refl
all_open (n ∷ ns) h = let e = ap is_open (All-head (λ (n : Node). n.status ≡ Open) n ns h) in let i = all_open ns (All-tail (λ (n : Node). n.status ≡ Open) n ns h) in rw e (omega arith)

none_kept : (kids : List Node) → All (λ (n : Node). n.status ≡ Open) kids → count_of is_held kids ≡ 0
none_kept [] h = refl
none_kept (n ∷ ns) h = let e = ap is_held (All-head (λ (n : Node). n.status ≡ Open) n ns h) in let i = none_kept ns (All-tail (λ (n : Node). n.status ≡ Open) n ns h) in rw e (omega arith)

get_below : (ns kids : List Node) (k : ℕ) (n : Node) → k < length ns → slice_get (ns ++ kids) k ≡ Some n → slice_get ns k ≡ Some n
get_below [] kids k n l e = absurd (omega arith)
get_below (x ∷ xs) kids zero n l e = e
get_below (x ∷ xs) kids (suc k) n l e = get_below xs kids k n (omega arith) e

pub get_grown : (ns kids : List Node) (k : ℕ) (n : Node) → slice_get ns k ≡ Some n → slice_get (ns ++ kids) k ≡ Some n
get_grown [] kids k n e = absurd (cc)
get_grown (x ∷ xs) kids zero n e = e
get_grown (x ∷ xs) kids (suc k) n e = get_grown xs kids k n e

pub set_grown : (ns kids : List Node) (k : ℕ) (n m : Node) → slice_get ns k ≡ Some n → slice_set (ns ++ kids) k m ≡ slice_set ns k m ++ kids
set_grown [] kids k n m e = absurd (cc)
set_grown (x ∷ xs) kids zero n m e = refl
set_grown (x ∷ xs) kids (suc k) n m e = ap (λ l. x ∷ l) (set_grown xs kids k n m e)

pub counted_grown : (ns kids : List Node) (next free held : ℕ) → IsCounted ns next free held → All (λ (n : Node). n.status ≡ Open) kids → IsCounted (ns ++ kids) next (free + length kids) held
counted_grown ns kids next free held h all = record {
  within = let w = h.within in omega (arith, length-append ns kids);
  passed = λ k n l e. h.passed k n l (get_below ns kids k n (let w = h.within in omega arith) e);
  opened = let a = h.opened in let b = count_append is_open ns kids in let c = all_open kids all in omega arith;
  kept = let a = h.kept in let b = count_append is_held ns kids in let c = none_kept kids all in omega arith;
}

pub free_le : (ns : List Node) (next free held : ℕ) → IsCounted ns next free held → free ≤ length ns
free_le ns next free held h = let a = h.opened in let b = count_le is_open ns in omega arith
