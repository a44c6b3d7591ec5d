-- What a search asks of the board to be done with a node.
use Rattle.std.specs.Prelude.{◌≡◌, ℕ, Bool, true, false}
use Rattle.fs_model.specs.declared.test.Test.{Test}
use Rattle.fs_model.specs.Allows.{Allows}
use Rattle.fs_board_offers.specs.Parts.{Part, floor, filled, is_undecided}
use Rattle.fs_cert_evidence.specs.Shown.{IsShownBy}
use Rattle.fs_board_offers.specs.Board.{Event, SplitAt, CutCost, CutWitness, CutBound, Post}
use Rattle.fs_cert_evidence.specs.Evidence.{Refuted, ShowsForbidden, witness_in, placement_in}
use Rattle.fs_board_offers.specs.Questions.{Question}
use Rattle.fs_board.specs.declared.event.Event.{Event as CodeEvent}
use Rattle.fs_board.specs.declared.event.Event.TheVariants as event
use Rattle.fs_board.specs.Asking.{IsMade}
use Rattle.fs_board.specs.View.{event_of}

-- it may be posted: the placement forbids the outcome, and what it has shows so
abbrev pub IsPostable : Test → Refuted → Type 0
IsPostable t f = ShowsForbidden t f × (Allows t f.placement → ⊥)

-- the event would close or split a node
abbrev pub is_try : Event → Bool
is_try (SplitAt k slot) = true
is_try (CutCost k) = true
is_try (CutWitness k w) = true
is_try (CutBound k ws) = true
is_try (Post k p) = true
is_try _ = false

-- and what it brings is made for the question
abbrev pub IsTry : Question → CodeEvent → Type 0
IsTry q e = IsMade q e × (is_try (event_of e) ≡ true)

-- the event splits the node of this part at an undecided slot, closes it by what shows the outcome with the filled
-- part, or posts its least placement
abbrev pub IsLast : Test → ℕ → Part → CodeEvent → Type 0
IsLast t k part (event.Split j slot) = (j ≡ k) × (is_undecided slot part ≡ true)
IsLast t k part (event.CutWitness j w) = (j ≡ k) × IsShownBy t (filled part) (witness_in w)
IsLast t k part (event.Post j f) = (j ≡ k) × (placement_in f ≡ floor part)
IsLast t k part e = ⊥
