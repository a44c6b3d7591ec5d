use Rattle.std.proofs.Common.{take}
use Rattle.std.specs.List.{AllZip}
use Rattle.fs_app_states.specs.Rows.{IsSetting}
use Rattle.fs_app_states.proofs.setting.settings_of.Given as goal

-- what the items so far say
abbrev pub invariant-loop-item : goal.invariant-loop-item
invariant-loop-item l = AllZip (IsSetting l.test) (take l.item-index l.item-items) l.settings.items
