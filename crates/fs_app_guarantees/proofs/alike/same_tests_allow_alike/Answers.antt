use Rattle.fs_app_guarantees.proofs.KeptPlacements.{placement_same, allows_same, cheapest_same, least_cost_same, refutes_all_same, of_witness_same, shown_by_same, width_same}
use Rattle.fs_app_guarantees.proofs.alike.same_tests_allow_alike.Goals as goal

pub returns-clause-placements : goal.returns-clause-placements
returns-clause-placements c = placement_same

pub returns-clause-allowed : goal.returns-clause-allowed
returns-clause-allowed c = allows_same

pub returns-clause-cheapest : goal.returns-clause-cheapest
returns-clause-cheapest c = cheapest_same

pub returns-clause-least : goal.returns-clause-least
returns-clause-least c = least_cost_same

pub returns-clause-refuted : goal.returns-clause-refuted
returns-clause-refuted c = refutes_all_same

pub returns-clause-given : goal.returns-clause-given
returns-clause-given c = of_witness_same

pub returns-clause-shown : goal.returns-clause-shown
returns-clause-shown c = shown_by_same

pub returns-clause-widths : goal.returns-clause-widths
returns-clause-widths c = width_same
