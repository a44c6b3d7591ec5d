use Rattle.std.proofs.Common.{◌≡◌, take}
use Rattle.fs_litmus_syntax.specs.inner.Listings.{marked}
use Rattle.fs_litmus_syntax.specs.Labels.{resolved}
use Rattle.fs_litmus_syntax.proofs.branches.resolve.Given as goal

abbrev pub invariant-loop-mark : goal.invariant-loop-mark
invariant-loop-mark l = l.code.items ≡ resolved l.listing (marked l.listing-inside.code.items (take l.mark-index l.mark-items))
