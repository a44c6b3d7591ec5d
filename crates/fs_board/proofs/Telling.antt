-- What a reply tells of the question, and that the limit stays.
use Rattle.std.proofs.Common.{◌≡◌, ℕ, Bool, true, false, Some, List, refl, sym, ap}
use Rattle.std.specs.Prelude.{Result, IfOk}
use Rattle.std.proofs.lemmas.Bool.{false≢true}
use Rattle.std.proofs.lemmas.Result.{IfOk-weaker}
use Rattle.fs_board_offers.specs.Offers.{Offers}
use Rattle.fs_model.specs.declared.test.Test.{Test}
use Rattle.fs_board_offers.specs.Parts.{Part}
use Rattle.fs_board_offers.specs.Board.{Board, Status, Event, Reply, Take, Claim, Adopt, SplitAt, CutCost, CutWitness, CutBound, Post, Peek, Given, Seen, is_open, is_held, part_at}
use Rattle.fs_board_offers.specs.Histories.{LogEntry, Steps, IsHistory}
use Rattle.fs_board_offers.specs.Trees.{IsPart}
use Rattle.fs_board_offers.proofs.Moves.{node_of, status-at, Move, Stays, Marks, Splits, moves}
use Rattle.fs_board_offers.proofs.Leaves.{history-parts}
use Rattle.fs_board_offers.specs.Questions.{Question}
use Rattle.fs_board.specs.declared.event.Reply.{Reply as CodeReply}
use Rattle.fs_board.specs.declared.event.Reply.TheVariants as reply
use Rattle.fs_board.specs.View.{Search, Answers, reply_of}
use Rattle.fs_board.specs.Asking.{Tells}

-- the part of a node of the board is one of the test
there : (t : Test) (offers : Offers) (limit : ℕ) (log : List LogEntry) (b : Board) (test : Status → Bool) (k : ℕ) (part : Part)
    → IsHistory t offers limit log b → part_at test b k ≡ Some part → IsPart offers part
there t offers limit log b test k part history found =
    let has = status-at test b k part found in
    history-parts t offers limit log b history k (node_of part has.status) has.at

given : (t : Test) (offers : Offers) (limit : ℕ) (log : List LogEntry) (old new : Board) (w k : ℕ) (part : Part) (e : Event)
    → IsHistory t offers limit log old → Steps t offers old w e (Given k part) new → IsPart offers part
given t offers limit log old new w k part Take history step = there t offers limit log old is_open k part history step.0
given t offers limit log old new w k part (Claim j) history step = there t offers limit log old is_open k part history step.1
given t offers limit log old new w k part (Adopt j) history step = there t offers limit log old is_held k part history step.1
given t offers limit log old new w k part (SplitAt j slot) history step = absurd step
given t offers limit log old new w k part (CutCost j) history step = absurd step
given t offers limit log old new w k part (CutWitness j v) history step = absurd step
given t offers limit log old new w k part (CutBound j vs) history step = absurd step
given t offers limit log old new w k part (Post j p) history step = absurd step
given t offers limit log old new w k part (Peek from) history step = absurd step

abbrev pub is_peek : Event → Bool
is_peek (Peek from) = true
is_peek _ = false

-- no event but a peek shows anything
unseen : (A : Type 0) (q : Question) (old new : Board) (w : ℕ) (e : Event) (r : CodeReply) → is_peek e ≡ false
    → (b : _) (u : ℕ) (ws : _) → reply_of r ≡ Seen b u ws → Steps q.test q.offers old w e (Seen b u ws) new → A
unseen A q old new w Take r other b u ws is step = absurd step
unseen A q old new w (Claim j) r other b u ws is step = absurd step
unseen A q old new w (Adopt j) r other b u ws is step = absurd step
unseen A q old new w (SplitAt j slot) r other b u ws is step = absurd step
unseen A q old new w (CutCost j) r other b u ws is step = absurd step
unseen A q old new w (CutWitness j v) r other b u ws is step = absurd step
unseen A q old new w (CutBound j vs) r other b u ws is step = absurd step
unseen A q old new w (Post j p) r other b u ws is step = absurd step
unseen A q old new w (Peek from) r other b u ws is step = absurd (false≢true (sym other))

-- a reply to another event than a peek
pub unpeeked : (old new : Search) (w : ℕ) (e : Event) (r : CodeReply) → is_peek e ≡ false
    → IsHistory old.question.test old.question.offers old.board.limit old.log old.board → Answers old new w e (reply_of r) → Tells old.question r
unpeeked old new w e (reply.Node k part) other history a =
    given old.question.test old.question.offers old.board.limit old.log old.board new.board w k part.value e history a.step
unpeeked old new w e reply.Idle other history a = tt
unpeeked old new w e reply.Done other history a = tt
unpeeked old new w e reply.Gone other history a = tt
unpeeked old new w e (reply.Children first count) other history a = tt
unpeeked old new w e reply.NotYours other history a = tt
unpeeked old new w e reply.Decided other history a = tt
unpeeked old new w e reply.Full other history a = tt
unpeeked old new w e reply.Closed other history a = tt
unpeeked old new w e reply.Cheaper other history a = tt
unpeeked old new w e reply.NotCovered other history a = tt
unpeeked old new w e reply.Other other history a = tt
unpeeked old new w e (reply.Seen b u ws) other history a =
    unseen (Tells old.question (reply.Seen b u ws)) old.question old.board new.board w e (reply.Seen b u ws) other _ _ _ refl a.step

-- the same of a call that may fail
pub told : {E : Type 0} (old new : Search) (w : ℕ) (e : Event) → is_peek e ≡ false
    → IsHistory old.question.test old.question.offers old.board.limit old.log old.board → (res : Result CodeReply E)
    → IfOk res (λ r. Answers old new w e (reply_of r)) → IfOk res (Tells old.question)
told {E} old new w e other history res made =
    IfOk-weaker res (λ r. Answers old new w e (reply_of r)) (Tells old.question) (λ r a. unpeeked old new w e r other history a) made

-- ---- no event changes the limit

unchanged : (t : Test) (offers : Offers) (old new : Board) → Move t offers old new → new.limit ≡ old.limit
unchanged t offers old new (Stays is) = ap (λ b. b.limit) is
unchanged t offers old new (Marks k part x y at u v nodes limit reason) = limit
unchanged t offers old new (Splits k part x slot at u free room is) = ap (λ b. b.limit) is

pub limit-kept : (old new : Search) (w : ℕ) (e : Event) (r : Reply) → Answers old new w e r → new.board.limit ≡ old.board.limit
limit-kept old new w e r a =
    unchanged old.question.test old.question.offers old.board new.board
    (moves old.question.test old.question.offers old.board w e r new.board a.step)
