-- Events, replies and the board as contracts see them: what is behind an `Arc` is its value.
use Rattle.std.specs.Prelude.{◌≡◌, ℕ, ◌+◌, ◌≤◌, option_map, List, [], ◌∷◌, ◌++◌, map, length}
use Rattle.fs_board_offers.specs.Board.{Board, Status, Open, Held, Split, Costly, Witnessed, Bounded, Posted, Event, Take, Claim, Adopt, SplitAt, CutCost, CutWitness, CutBound, Post, Peek, Reply, Given, Idle, Done, Gone, Children, NotYours, Decided, Full, Closed, Cheaper, NotCovered, Other, Seen}
use Rattle.fs_board_offers.specs.Histories.{LogEntry, Steps, IsHistory}
use Rattle.fs_board.specs.declared.node.Status.{Status as CodeStatus}
use Rattle.fs_board.specs.declared.node.Status.TheVariants as status
use Rattle.fs_board.specs.declared.event.Event.{Event as CodeEvent}
use Rattle.fs_board.specs.declared.event.Event.TheVariants as event
use Rattle.fs_board.specs.declared.event.Reply.{Reply as CodeReply}
use Rattle.fs_board.specs.declared.event.Reply.TheVariants as reply
use Rattle.fs_cert_evidence.specs.Evidence.{placement_in, witness_in}
use Rattle.fs_board_offers.specs.Offers.{AreOffers, slots}
use Rattle.fs_board_offers.specs.Questions.{Question}
use Rattle.fs_board.specs.Growth.{Tree, board_of, IsBacked}

abbrev pub status_of : CodeStatus → Status
status_of status.Open = Open
status_of (status.Held worker) = Held worker
status_of (status.Split slot first) = Split slot first
status_of status.Costly = Costly
status_of (status.Witnessed j) = Witnessed j
status_of (status.Bounded first count) = Bounded first count
status_of status.Posted = Posted

abbrev pub event_of : CodeEvent → Event
event_of event.Take = Take
event_of (event.Claim k) = Claim k
event_of (event.Adopt k) = Adopt k
event_of (event.Split k slot) = SplitAt k slot
event_of (event.CutCost k) = CutCost k
event_of (event.CutWitness k w) = CutWitness k (witness_in w)
event_of (event.CutBound k ws) = CutBound k (map witness_in ws)
event_of (event.Post k f) = Post k (placement_in f)
event_of (event.Peek from) = Peek from

abbrev pub reply_of : CodeReply → Reply
reply_of (reply.Node k part) = Given k part.value
reply_of reply.Idle = Idle
reply_of reply.Done = Done
reply_of reply.Gone = Gone
reply_of (reply.Children first count) = Children first count
reply_of reply.NotYours = NotYours
reply_of reply.Decided = Decided
reply_of reply.Full = Full
reply_of reply.Closed = Closed
reply_of reply.Cheaper = Cheaper
reply_of reply.NotCovered = NotCovered
reply_of reply.Other = Other
reply_of (reply.Seen bound upto witnesses) = Seen (option_map placement_in bound) upto (map witness_in witnesses)

-- what is asked, the board, and the log of all events
pub record Search : Type 0 where
  pub question : Question
  pub board : Board
  pub log : List LogEntry

abbrev pub entry_of : ℕ → Event → Reply → LogEntry
entry_of worker event reply = record { worker = worker; event = event; reply = reply }

abbrev pub logged : Search → Board → LogEntry → Search
logged old board entry = record { question = old.question; board = board; log = old.log ++ entry ∷ [] }

-- the event was a step of the board, and is the log's last entry
pub record Answers (old new : Search) (worker : ℕ) (event : Event) (reply : Reply) : Type 0 where
  pub step : Steps old.question.test old.question.offers old.board worker event reply new.board
  pub rest : new ≡ logged old new.board (entry_of worker event reply)

-- the log is a legal history that leads to the board, and no node's number passes the limit
pub record IsReplay (s : Search) : Type 0 where
  pub offers : AreOffers s.question.offers
  pub history : IsHistory s.question.test s.question.offers s.board.limit s.log s.board
  pub room : length s.board.nodes ≤ s.board.limit + 1
  pub limit : s.board.limit ≤ 1000000

-- and the tree is backed
pub record IsSound (question : Question) (tree : Tree) (log : List LogEntry) : Type 0 where
  pub replay : IsReplay (record { question = question; board = board_of tree; log = log })
  pub backed : IsBacked question.test (slots question.offers) tree.bound tree.witnesses
