-- How a desk ends.
use Rattle.std.specs.Prelude.{◌≡◌, ◌≢◌, ℕ, ◌+◌, ◌<◌, ◌≤◌, List, [], ◌∷◌, All, AllPairs, drop}
use Rattle.fs_kinds.specs.declared.fault.Fault.TheVariants.{StrangePass}
use Rattle.fs_board_offers.specs.Histories.{LogEntry}
use Rattle.fs_board_offers.specs.Receipts.{Pass, Receipt, IsLogged, IsAgreed}
use Rattle.fs_board_offers.specs.Questions.{Question}
use Rattle.fs_pool.specs.declared.ending.Unfinished.{Unfinished}
use Rattle.fs_pool.specs.declared.ending.Unfinished.TheVariants.{Unmatched, Fault as Failed}
use Rattle.fs_pool.specs.Asked.{IsAsked}

-- for how many workers a desk is, and how many entries the log of its board had before it
pub record Opened : Type 0 where
  pub workers : ℕ
  pub since : ℕ

-- each pass is of a worker below this number, and no two are of one
pub record AreGiven (workers : ℕ) (passes : List Pass) : Type 0 where
  pub below : All (λ pass. pass.worker < workers) passes
  pub apart : AllPairs (λ pass other. pass.worker ≢ other.worker) passes

-- each receipt is the log's entry of its number; the numbers rise strictly, from `next` or a later one on
abbrev pub AreLogged : List LogEntry → ℕ → ℕ → List Receipt → Type 0
AreLogged log worker next [] = Unit {0}
AreLogged log worker next (r ∷ receipts) = (next ≤ r.number) × IsLogged log worker r × AreLogged log worker (r.number + 1) receipts

-- the receipts of each pass are logged so, from number 0 on
abbrev pub AllLogged : List LogEntry → List Pass → Type 0
AllLogged log [] = Unit {0}
AllLogged log (pass ∷ passes) = AreLogged log pass.worker 0 pass.receipts × AllLogged log passes

-- The passes come back as they were, with a board of the question and the limit, whose log since the desk was made
-- doesn't agree with them (that it is the one under the lock, no contract says); or a pass's worker is none of the
-- desk's, or two are of one worker.
module _ {A : Type 0} where
  abbrev pub IsUnfinished : Question → (limit : ℕ) → Opened → List Pass → Unfinished A → Type 0
  IsUnfinished q limit desk passes (Unmatched board back) =
      IsAsked board q limit × (back.items ≡ passes) × (IsAgreed passes (drop desk.since board.log) → ⊥)
  IsUnfinished q limit desk passes (Failed f) = (f ≡ StrangePass) × (AreGiven desk.workers passes → ⊥)
