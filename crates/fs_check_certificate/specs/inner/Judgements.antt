-- What is said of a certificate before its bytes are looked at.
use Rattle.std.specs.Prelude.{Option, None, Some, List, [], ◌∷◌, Result, Ok, Err}
use Rattle.fs_kinds.specs.declared.placement.Entry.{Entry}
use Rattle.fs_kinds.specs.declared.reason.Reason.{Reason}
use Rattle.fs_model.specs.declared.test.Test.{Test}
use Rattle.fs_cert_evidence.specs.Certificate.{Certificate}
use Rattle.fs_board_offers.specs.Offers.{Offers}
use Rattle.fs_board_offers.specs.Parts.{undecided}
use Rattle.fs_board_offers.specs.Refusals.{IsRefusal, IsPlacedRefusal}
use Rattle.fs_board_offers.specs.Valid.{Forbid, Covers, IsValid}

-- what is said against the cycles and the tree of a certificate that answers the placement: nothing, or the first
-- reason
abbrev pub IsPlacedVerdict : Test → Offers → Certificate → List Entry → Option Reason → Type 0
IsPlacedVerdict t offers c p None = Forbid t p c.cycles × Covers t offers c p (undecided offers ∷ []) c.tree
IsPlacedVerdict t offers c p (Some why) = IsPlacedRefusal t offers c p why

-- it is valid for the placement or for none, or refused for the first reason
abbrev pub IsJudgement : Test → Offers → Certificate → Result (Option (List Entry)) Reason → Type 0
IsJudgement t offers c (Ok answer) = IsValid t offers c answer
IsJudgement t offers c (Err why) = IsRefusal t offers c why
