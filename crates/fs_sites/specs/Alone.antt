-- A question of one test in which each slot is a site.
use Rattle.std.specs.Prelude.{ℕ, List, [], ◌∷◌, map}
use Rattle.std.specs.List.{enumerate_from}
use Rattle.fs_kinds.specs.declared.slot.Slot.{Slot}
use Rattle.fs_model.specs.declared.test.Test.{Test}
use Rattle.fs_board_offers.specs.Offers.{Offers, slots}
use Rattle.fs_sites.specs.Questions.{Question}
use Rattle.fs_sites.specs.declared.question.Place.{Place}

abbrev pub place_at : ℕ × Slot → Place
place_at numbered = record { slot = numbered.1; site = numbered.0 }

-- slot number k is a place of site number k
abbrev pub places_at : List Slot → List Place
places_at ss = map place_at (enumerate_from 0 ss)

abbrev pub alone : Test → Offers → Question
alone t offers = record {
  parts = record { test = t; places = places_at (slots offers) } ∷ [];
  offers = offers;
}
