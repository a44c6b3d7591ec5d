-- What was pushed on a deque is what its owner popped, what its thief stole, and what is still inside, number by
-- number.
use Rattle.std.specs.Prelude.{◌≡◌, ℕ, ◌+◌, Bool, true, List}
use mathlib.Core.Option.{some}
use lib.ListN.{get_elem?}
use Rattle.fs_pool.specs.Ring.{count_of}
use Rattle.fs_pool.specs.declared.deque.Tally.{Tally}

abbrev pub tally : Bool → Bool → List ℕ → List ℕ → List ℕ → Tally
tally owns steals pushed popped stolen = record { owns = owns; steals = steals; pushed = pushed; popped = popped; stolen = stolen }

-- a pass that owns has the owner's number, and knows what was pushed and popped; one that steals has the thief's, and
-- knows what was stolen
abbrev pub Fits : ℕ → ℕ → List ℕ → List ℕ → List ℕ → ℕ → Tally → Type 0
Fits owner thief pushed popped stolen port v =
    (v.owns ≡ true → (port ≡ owner) × (v.pushed ≡ pushed) × (v.popped ≡ popped)) × (v.steals ≡ true → (port ≡ thief) × (v.stolen ≡ stolen))

-- what is always so of the numbers in a deque and the tallies of its passes
pub record Conserves (items : List ℕ) (tallies : List Tally) : Type 0 where
  pub owner : ℕ
  pub thief : ℕ
  pub pushed : List ℕ
  pub popped : List ℕ
  pub stolen : List ℕ
  pub balance : (x : ℕ) → count_of x pushed ≡ count_of x popped + count_of x stolen + count_of x items
  pub fits : (port : ℕ) (v : Tally) → get_elem? tallies port ≡ some v → Fits owner thief pushed popped stolen port v
