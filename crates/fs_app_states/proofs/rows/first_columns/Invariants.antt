use Rattle.std.proofs.Common.{◌≡◌, [], take}
use Rattle.fs_app_states.specs.Compared.{states_seen}
use Rattle.fs_app_states.proofs.rows.first_columns.Given as goal

-- the blocks so far have no states of the test
abbrev pub invariant-loop-block : goal.invariant-loop-block
invariant-loop-block l = states_seen (take l.block-index l.log) l.name ≡ []
