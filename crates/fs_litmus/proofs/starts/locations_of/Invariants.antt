use Rattle.std.proofs.Common.{◌≡◌, map, take}
use Rattle.std.specs.List.{range_with_len}
use Rattle.fs_litmus.specs.Starts.{word_at}
use Rattle.fs_litmus.specs.declared.settings.Holder.TheVariants as holder
use Rattle.fs_litmus.proofs.starts.locations_of.Given as goal

abbrev pub invariant-loop-k : goal.invariant-loop-k
invariant-loop-k l = record {
  named : map (λ x. x.name) l.all.items ≡ take l.k l.names;
  words : map (λ x. x.word) l.all.items ≡ map (λ k. word_at l.settings (holder.Location k)) (range_with_len 0 l.k);
}
