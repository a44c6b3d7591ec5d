use Rattle.std.proofs.Common.{◌≡◌, ◌*◌, ◌≤◌, ℕ, suc, take, get_or}
use Rattle.fs_board_offers.specs.Offers.{cost}
use Rattle.fs_kinds.proofs.Entries.{IsCounted, blank}
use Rattle.fs_board_offers.proofs.offers.Offers.cost.Given as goal

-- the cost so far, and how many slots there can be up to the last one
abbrev pub invariant-loop-entry : goal.invariant-loop-entry
invariant-loop-entry l = record {
  so_far : l.total ≡ cost l.self (take l.entry-index l.placement);
  bound : l.total ≤ 1000000000 * l.entry-index;
  counted : (k : ℕ) → suc k ≡ l.entry-index → IsCounted k (get_or l.placement k blank).slot;
}
