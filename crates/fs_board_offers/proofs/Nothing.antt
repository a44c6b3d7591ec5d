-- Where there is no slot nothing is offered.
use Rattle.std.proofs.Common.{◌≡◌, ◌+◌, false, Option, None, Some, refl}
use Rattle.std.specs.Prelude.{is_none}
use Rattle.std.specs.List.{list_any}
use Rattle.fs_kinds.specs.declared.kind.Kind.{Kind}
use Rattle.fs_kinds.specs.declared.slot.Slot.{Slot}
use Rattle.fs_kinds.specs.Kind.{table_index}
use Rattle.fs_board_offers.specs.Offers.{nothing, is_offered, kind_cost, rank_in}
use Rattle.fs_board_offers.specs.Breaks.{is_break, break_cost, least_of, all_options}
use Rattle.fs_cert_evidence.specs.declared.evidence.Pairs.{Pairs}

pub nothing_offered : (s : Slot) (kind : Option Kind) → is_offered (nothing s) kind ≡ is_none kind
nothing_offered s None = refl
nothing_offered s (Some kind) = refl

pub nothing_costs : (s : Slot) (kind : Option Kind) → kind_cost (nothing s) kind ≡ 0
nothing_costs s None = refl
nothing_costs s (Some kind) = refl

pub nothing_ranks : (s : Slot) (kind : Kind) → rank_in (nothing s) (Some kind) ≡ 2 + table_index kind
nothing_ranks s kind = refl

pub nothing_breaks : (s : Slot) (pairs : Pairs) → list_any (is_break (nothing s) pairs) all_options ≡ false
nothing_breaks s pairs = refl

pub nothing_least : (s : Slot) (pairs : Pairs) → least_of (break_cost (nothing s) pairs) all_options ≡ None
nothing_least s pairs = refl
