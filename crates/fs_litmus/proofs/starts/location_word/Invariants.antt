use Rattle.std.proofs.Common.{◌≡◌, drop}
use Rattle.fs_litmus.specs.Starts.{word_at}
use Rattle.fs_litmus.specs.declared.settings.Holder.TheVariants as holder
use Rattle.fs_litmus.proofs.starts.location_word.Given as goal

abbrev pub invariant-loop-setting : goal.invariant-loop-setting
invariant-loop-setting l = word_at (drop l.setting-index l.settings) (holder.Location l.location) ≡ word_at l.settings (holder.Location l.location)
