-- What a search is asked.
use Rattle.std.specs.Prelude.{◌≡◌, true, Some}
use Rattle.fs_kinds.specs.declared.kind.Kind.TheVariants.{RwRw}
use Rattle.fs_kinds.specs.Placement.{all_with}
use Rattle.fs_model.specs.declared.test.Test.{Test}
use Rattle.fs_model.specs.Slots as test
use Rattle.fs_board_offers.specs.Offers.{Offers, slots, are_offered}

-- a test, whose outcome is to be ruled out, and what may stand where
pub record Question : Type 0 where
  pub test : Test
  pub offers : Offers

-- the offers are for the slots of the test, as those are that prices make
pub record IsAtSlots (q : Question) : Type 0 where
  pub slots : slots q.offers ≡ test.slots q.test

-- rw,rw is offered at each slot
abbrev pub HasTop : Offers → Type 0
HasTop offers = are_offered offers (all_with (Some RwRw) (slots offers)) ≡ true
