use Rattle.std.proofs.Common.{◌≡◌, drop}
use Rattle.fs_litmus_syntax.specs.Init.{entries_of}
use Rattle.fs_litmus.specs.Locations.{declared}
use Rattle.fs_litmus.specs.Settings.{entry_bindings}
use Rattle.fs_litmus.proofs.declared.declare_entries.Given as goal

abbrev pub invariant-loop-entry : goal.invariant-loop-entry
invariant-loop-entry l = declared l.names (entry_bindings (entries_of (drop l.entry-index l.entries))) ≡ declared l.initial.names (entry_bindings (entries_of l.entries))
