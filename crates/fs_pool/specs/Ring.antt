-- A ring of deques: each hand owns one, and steals from that of the hand after it.
use Rattle.std.specs.Prelude.{◌≡◌, ℕ, ◌+◌, ◌<◌, ◌==◌, if◌then◌else◌, List, [], ◌∷◌, slice_get, Some, length}
use Rattle.std.specs.declared.alloc.Global.{Global}
use Rattle.atomic_blocks.specs.Lent.{RowsId}

-- which deque it is
abbrev pub Deque : Type 0
Deque = RowsId × Global

-- a hand: its number, how many the ring has, the deque that it owns and the one that it steals from, and what it has
-- pushed, popped and stolen
pub record Hand : Type 0 where
  pub number : ℕ
  pub count : ℕ
  pub own : Deque
  pub victim : Deque
  pub pushed : List ℕ
  pub popped : List ℕ
  pub stolen : List ℕ

-- the number of the hand after this one
abbrev pub after : Hand → ℕ
after h = if h.number + 1 == h.count then 0 else h.number + 1

-- each hand steals from the deque of the one after it, where that is among them
abbrev pub AreLinked : List Hand → Type 0
AreLinked hands = (i k : ℕ) (g h : Hand) → slice_get hands i ≡ Some g → slice_get hands k ≡ Some h → h.number ≡ after g → g.victim ≡ h.own

-- they are all the hands of a ring, in their order
abbrev pub AreAll : List Hand → Type 0
AreAll hands = (0 < length hands) × ((k : ℕ) (h : Hand) → slice_get hands k ≡ Some h → (h.number ≡ k) × (h.count ≡ length hands))

-- a hand that has done nothing
abbrev pub IsFresh : Hand → Type 0
IsFresh h = (h.pushed ≡ []) × (h.popped ≡ []) × (h.stolen ≡ [])

-- the same hand, whatever it has done since
abbrev pub IsSameHand : Hand → Hand → Type 0
IsSameHand old new = (new.number ≡ old.number) × (new.count ≡ old.count) × (new.own ≡ old.own) × (new.victim ≡ old.victim)

-- how often a number stands in a list
abbrev pub count_of : ℕ → List ℕ → ℕ
count_of x [] = 0
count_of x (y ∷ ys) = (if y == x then 1 else 0) + count_of x ys

-- how often a number stands in such lists of all hands
abbrev pub total_of : ℕ → (Hand → List ℕ) → List Hand → ℕ
total_of x f [] = 0
total_of x f (h ∷ hs) = count_of x (f h) + total_of x f hs

-- the numbers are what the hands have pushed, less what they have popped and stolen
abbrev pub AreLeft : List Hand → List ℕ → Type 0
AreLeft hands numbers =
    (x : ℕ) → total_of x (λ h. h.pushed) hands ≡ total_of x (λ h. h.popped) hands + total_of x (λ h. h.stolen) hands + count_of x numbers
