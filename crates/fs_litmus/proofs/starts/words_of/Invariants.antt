use Rattle.std.proofs.Common.{◌≡◌, map}
use Rattle.std.specs.List.{range_with_len}
use Rattle.fs_litmus.specs.Starts.{word_at}
use Rattle.fs_litmus.specs.declared.settings.Holder.TheVariants as holder
use Rattle.fs_litmus.proofs.starts.words_of.Given as goal

abbrev pub invariant-loop-register : goal.invariant-loop-register
invariant-loop-register l = l.words.items ≡ map (λ r. word_at l.settings (holder.Register l.hart r)) (range_with_len 0 l.register)
