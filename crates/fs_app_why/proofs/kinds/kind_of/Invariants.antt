use Rattle.std.proofs.Common.{◌≡◌, ◌<◌, ℕ, false, get_or}
use Rattle.fs_app_why.specs.Kinds.{ChainKind, is_of}
use Rattle.fs_app_why.proofs.kinds.kind_of.Given as goal

-- none of the earlier kinds has it
abbrev pub invariant-loop-number : goal.invariant-loop-number
invariant-loop-number l = (k : ℕ) (d : ChainKind) → k < l.number → is_of l.texts l.chain (get_or l.kinds k d) ≡ false
