use Rattle.std.proofs.Common.{◌≡◌, ◌≤◌, true, Option}
use Rattle.fs_kinds.specs.declared.kind.Kind.{Kind}
use Rattle.fs_kinds.specs.Placement.{rank}
use Rattle.fs_board_offers.specs.Offers.{is_offered}
use Rattle.fs_sites.proofs.cursor.next_kind.Given as goal

abbrev pub invariant-loop-next : goal.invariant-loop-next
invariant-loop-next l =
    (other : Option Kind) → is_offered l.offer other ≡ true → rank other ≤ l.next-index → rank other ≤ l.place
