-- The answer to a question, and why there may be none.
use Rattle.std.specs.Prelude.{◌≡◌, ◌<◌, ◌⊎◌, ℕ, true, List, Option, None, Some, MatchOption}
use Rattle.std.specs.Arc.{arc_value}
use Rattle.fs_kinds.specs.declared.fault.Fault.{Fault}
use Rattle.fs_kinds.specs.declared.fault.Fault.TheVariants.{NodeLimit}
use Rattle.fs_kinds.specs.declared.placement.Entry.{Entry}
use Rattle.fs_board_offers.specs.Offers.{Offers, cost, IsCheapest}
use Rattle.fs_model.specs.declared.test.Test.{Test}
use Rattle.fs_model.specs.Execution.{Execution}
use Rattle.fs_model.specs.Allows.{Allows, RefutesAll, no_fences, full_fences}
use Rattle.fs_cert_evidence.specs.CandidateFaults.{IsCandidateFault}
use Rattle.fs_board_offers.specs.Board.{is_finished}
use Rattle.fs_board_offers.specs.Sizes.{IsUnanswered, whole_tree}
use Rattle.fs_cert_evidence.specs.Evidence.{IsWitnessFor, ShowsForbidden, placement_in}
use Rattle.fs_board_offers.specs.Questions.{Question}
use Rattle.fs_board.specs.View.{Search}
use Rattle.fs_board_search.specs.declared.answer.Answer.{Answer}
use Rattle.fs_board_search.specs.declared.answer.Answer.TheVariants as answer
use Rattle.fs_board_search.specs.declared.answer.Solved.{Solved}

-- The cheapest placement that forbids the outcome, and of those the first, with its cost, and with what shows that it
-- does; or a witness, with its widths, of an execution that shows the outcome even with rw,rw in every slot.
abbrev pub IsAnswer : Test → Offers → Answer → Type 0
IsAnswer t offers (answer.Fenced f n) =
    IsCheapest t offers (placement_in f) × (n ≡ cost offers (placement_in f)) × ShowsForbidden t (arc_value f)
IsAnswer t offers (answer.None w) = (e : Execution) × IsWitnessFor t w e × RefutesAll t e

-- the placement of an answer, where it has one
abbrev pub placement_of : Answer → Option (List Entry)
placement_of (answer.Fenced f n) = Some (placement_in f)
placement_of (answer.None w) = None

-- the answer is none, or no fence at all
abbrev pub IsAtAnEnd : Test → Answer → Type 0
IsAtAnEnd t a = (placement_of a ≡ None) ⊎ (placement_of a ≡ Some (no_fences t))

-- The finished board of a search for this answer, with this limit. Its bound is the answer's placement, and it has no
-- bound where the answer has none.
pub record IsBoardOf (q : Question) (most : ℕ) (a : Answer) (search : Search) : Type 0 where
  pub question : search.question ≡ q
  pub limit : search.board.limit ≡ most
  pub finished : is_finished search.board ≡ true
  pub bound : search.board.bound ≡ placement_of a

-- An answer that was found without a board. The tree of all placements may have more nodes below its root than
-- the limit.
pub record IsAtLimit (q : Question) (limit : ℕ) (a : Answer) : Type 0 where
  pub large : limit < whole_tree q.offers
  pub ends : IsAtAnEnd q.test a

-- What an answer rests on beside what it has with it: a finished board, or else that it is at an end.
abbrev pub Rests : Question → (limit : ℕ) → Solved → Type 0
Rests q limit s = MatchOption s.board (IsAtLimit q limit s.answer) (IsBoardOf q limit s.answer)

-- the fault of a question that the search can't answer
abbrev pub IsSolveFault : Question → (limit : ℕ) → Fault → Type 0
IsSolveFault q limit f = IsUnanswered q.test q.offers limit f

-- the fault of a search with this limit: the limit, where the tree of all placements may have more nodes below its root,
-- or that of the candidates
abbrev pub IsLimitFault : Question → (limit : ℕ) → Fault → Type 0
IsLimitFault q limit f = ((f ≡ NodeLimit) × (limit < whole_tree q.offers)) ⊎ IsCandidateFault q.test f

-- and of that of a board
abbrev pub IsSearchFault : Search → Fault → Type 0
IsSearchFault s f = IsLimitFault s.question s.board.limit f

-- the fault where the answer is looked for at an end: it is at none, or the candidates can't be listed
abbrev pub IsEndFault : Test → Fault → Type 0
IsEndFault t f = ((f ≡ NodeLimit) × Allows t (no_fences t) × (Allows t (full_fences t) → ⊥)) ⊎ IsCandidateFault t f
