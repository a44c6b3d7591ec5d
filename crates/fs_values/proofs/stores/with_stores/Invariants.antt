use Rattle.std.proofs.Common.{◌≡◌, ◌++◌, take}
use Rattle.fs_values.proofs.Stored.{words_at}
use Rattle.fs_values.proofs.stores.with_stores.Given as goal

abbrev pub invariant-loop-store : goal.invariant-loop-store
invariant-loop-store l = l.words.items ≡ l.set ++ words_at l.address (take l.store-index l.stores)
