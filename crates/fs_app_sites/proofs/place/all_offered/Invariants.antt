use Rattle.std.proofs.Common.{◌≡◌, drop}
use Rattle.fs_board_offers.specs.Offers.{are_offered}
use Rattle.fs_app_sites.proofs.place.all_offered.Given as goal

-- it is so of all where it is of those that are left
abbrev pub invariant-loop-entry : goal.invariant-loop-entry
invariant-loop-entry l = are_offered l.offers (drop l.entry-index l.entries) ≡ are_offered l.offers l.entries
