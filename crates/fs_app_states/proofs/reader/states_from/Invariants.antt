use Rattle.std.proofs.Common.{◌≡◌, ◌≤◌, ◌+◌, length, map}
use Rattle.fs_app_states.specs.Blocks.{read_state}
use Rattle.fs_app_states.specs.inner.Reading.{AreFirst}
use Rattle.fs_app_states.proofs.reader.states_from.Given as goal

-- the states so far are the first of those that are read
abbrev pub invariant-loop : goal.invariant-loop
invariant-loop l = record {
  as_many : length l.states.items ≡ l.counter;
  within : l.index + length l.states.items ≤ length l.lines;
  first : AreFirst (map (λ line. line.now) l.lines) l.count.counted l.index l.count.states (map read_state l.states.items);
}
