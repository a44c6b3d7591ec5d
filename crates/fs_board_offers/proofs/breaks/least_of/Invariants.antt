use Rattle.std.proofs.Common.{◌≡◌, ◌≤◌, take}
use Rattle.std.specs.Prelude.{IfSome}
use Rattle.fs_board_offers.specs.Breaks.{break_cost, least_of}
use Rattle.fs_board_offers.proofs.breaks.least_of.Given as goal

abbrev pub invariant-loop-kind : goal.invariant-loop-kind
invariant-loop-kind l = record {
  so_far : l.least ≡ least_of (break_cost l.offer l.pairs) (take l.kind-index l.kinds);
  most : IfSome l.least (λ n. n ≤ 1000000000);
}
