use Rattle.std.proofs.Common.{◌≡◌, [], take, Some}
use Rattle.fs_litmus_syntax.specs.Init.{entries_of}
use Rattle.fs_litmus.specs.Settings.{entry_bindings, settings_after, holders}
use Rattle.fs_litmus.proofs.entries.read_settings.Given as goal

abbrev pub invariant-loop-entry : goal.invariant-loop-entry
invariant-loop-entry l = record {
  seen : l.seen.keys ≡ holders l.settings.items;
  so_far : settings_after l.columns l.names [] (entry_bindings (entries_of (take l.entry-index l.entries))) ≡ Some l.settings.items;
}
