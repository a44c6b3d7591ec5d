-- What the workers of a board keep of their calls, and when that agrees with the board's log.
use Rattle.std.specs.Prelude.{◌≡◌, ◌≢◌, ℕ, ◌<◌, Some, List, All, AllPairs, length, slice_get, sum_by}
use Rattle.fs_board_offers.specs.Board.{Event, Reply}
use Rattle.fs_board_offers.specs.Histories.{LogEntry}

-- an event that a worker made, its reply, and the number of its entry in the log
pub record Receipt : Type 0 where
  pub number : ℕ
  pub event : Event
  pub reply : Reply

-- a worker's number, and its receipts in the order in which it made the calls
pub record Pass : Type 0 where
  pub worker : ℕ
  pub receipts : List Receipt

abbrev pub entry_of : ℕ → Receipt → LogEntry
entry_of worker r = record { worker = worker; event = r.event; reply = r.reply }

abbrev pub IsLogged : List LogEntry → ℕ → Receipt → Type 0
IsLogged log worker r = slice_get log r.number ≡ Some (entry_of worker r)

-- Each receipt is the log's entry of its number, those of a worker stand in the order of the log, and the log has as
-- many entries as there are receipts. Since no two passes are of one worker, each entry is the receipt of exactly one
-- of them.
pub record IsAgreed (passes : List Pass) (log : List LogEntry) : Type 0 where
  pub workers : AllPairs (λ pass other. pass.worker ≢ other.worker) passes
  pub logged : All (λ pass. All (IsLogged log pass.worker) pass.receipts) passes
  pub rising : All (λ pass. AllPairs (λ r other. r.number < other.number) pass.receipts) passes
  pub count : sum_by (λ pass. length pass.receipts) passes ≡ length log
