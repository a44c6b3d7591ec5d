-- Certificates of a test and prices: those of the offers that the prices make.
use Rattle.std.specs.Prelude.{Option, List}
use Rattle.fs_kinds.specs.declared.placement.Entry.{Entry}
use Rattle.fs_kinds.specs.declared.reason.Reason.{Reason}
use Rattle.fs_kinds.specs.PriceTable.{PriceTable}
use Rattle.fs_model.specs.declared.test.Test.{Test}
use Rattle.fs_cert_evidence.specs.Certificate.{Certificate}
use Rattle.fs_board_offers.specs.Offers.{offers_of}
use Rattle.fs_board_offers.specs.Valid as valid
use Rattle.fs_board_offers.specs.Refusals as refusals

-- a valid certificate for the placement
abbrev pub IsValidFor : Test → PriceTable → Certificate → List Entry → Type 0
IsValidFor t prices = valid.IsValidFor t (offers_of t prices)

-- a valid certificate, with the placement that it answers or none
abbrev pub IsValid : Test → PriceTable → Certificate → Option (List Entry) → Type 0
IsValid t prices = valid.IsValid t (offers_of t prices)

-- the first reason against it
abbrev pub IsRefusal : Test → PriceTable → Certificate → Reason → Type 0
IsRefusal t prices = refusals.IsRefusal t (offers_of t prices)
