use Rattle.std.specs.Arc.{arc_value}
use Rattle.fs_judge_outcomes.specs.inner.Parts.{states_in, IsListed, IsLore}
use Rattle.fs_judge_outcomes.proofs.listing.all_states.Given as goal

-- each state is known or left, and what is learned is so
abbrev pub invariant-loop : goal.invariant-loop
invariant-loop l =
    IsListed l.problem l.placement l.places (states_in l.listing.known) l.listing.parts.items
    × IsLore l.problem l.placement l.places (arc_value l.listing.lore.whole) l.listing.lore.barren.items
