-- One more step keeps the board the replay of its log.
use Rattle.std.proofs.Common.{◌≡◌, ℕ, ◌+◌, ◌≤◌, List, [], ◌∷◌, ◌++◌, length, refl, sym, ap, subst}
use Rattle.fs_board_offers.specs.Offers.{Offers}
use Rattle.fs_model.specs.declared.test.Test.{Test}
use Rattle.fs_board_offers.specs.Parts.{Part}
use Rattle.fs_board_offers.specs.Board.{Board, Status, Event, Reply, opening, with_status}
use Rattle.fs_board_offers.specs.Histories.{LogEntry, Steps, Lead}
use Rattle.fs_board.specs.View.{Search, entry_of, Answers, IsReplay}
use Rattle.fs_board.proofs.Counts.{length_set}

pub lead_more : (t : Test) (offers : Offers) (old : Board) (entries : List LogEntry) (mid : Board) (entry : LogEntry) (new : Board)
    → Lead t offers old entries mid → Steps t offers mid entry.worker entry.event entry.reply new → Lead t offers old (entries ++ entry ∷ []) new
lead_more t offers old [] mid entry new p q = (new, subst (λ b. Steps t offers b entry.worker entry.event entry.reply new) p q, refl)
lead_more t offers old (x ∷ xs) mid entry new p q = (p.0, p.1, lead_more t offers p.0 xs mid entry new p.2 q)

abbrev pub StepsFrom : Search → ℕ → Event → Reply → Board → Type 0
StepsFrom s w e r new = Steps s.question.test s.question.offers s.board w e r new

abbrev pub with_log : Search → Board → List LogEntry → Search
with_log s board log = record { question = s.question; board = board; log = log }

pub replays : (s : Search) (new : Board) (log : List LogEntry) (w : ℕ) (e : Event) (r : Reply) → IsReplay s → StepsFrom s w e r new
    → new.limit ≡ s.board.limit → length new.nodes ≤ s.board.limit + 1 → log ≡ s.log ++ entry_of w e r ∷ [] → IsReplay (with_log s new log)
replays s new log w e r was step same room is = record {
  offers = was.offers;
  history =
      let more = lead_more s.question.test s.question.offers (opening s.question.offers s.board.limit) s.log s.board (entry_of w e r) new was.history step in
      let to_log = subst (λ l. Lead s.question.test s.question.offers (opening s.question.offers s.board.limit) l new) (sym is) more in
      subst (λ n. Lead s.question.test s.question.offers (opening s.question.offers n) log new) (sym same) to_log;
  room = subst (λ n. length new.nodes ≤ n + 1) (sym same) room;
  limit = subst (λ n. n ≤ 1000000) (sym same) was.limit;
}

pub answered : (old s : Search) (new : Board) (log : List LogEntry) (w : ℕ) (e : Event) (r : Reply) → s ≡ old → StepsFrom s w e r new
    → log ≡ s.log ++ entry_of w e r ∷ [] → Answers old (with_log s new log) w e r
answered old s new log w e r same step is =
    subst (λ x. Answers x (with_log s new log) w e r) same (record { step = step; rest = ap (with_log s new) is })

-- a node with another status leaves as much room
pub room_marked : (s : Search) (status : Status) (k : ℕ) (part : Part) → IsReplay s
    → length (with_status status k part s.board).nodes ≤ s.board.limit + 1
room_marked s status k part was = rw (length_set s.board.nodes k (record { part = part; status = status })) was.room
