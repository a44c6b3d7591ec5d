use Rattle.std.proofs.Common.{◌≡◌, ◌++◌, option_map, drop}
use Rattle.fs_cand.specs.inner.NamedOrder.{numbers_of}
use Rattle.fs_check.proofs.names.numbers.Given as goal

-- the numbers so far, and those of the names to come
abbrev pub invariant-loop-name : goal.invariant-loop-name
invariant-loop-name l = option_map (λ rest. l.order.items ++ rest) (numbers_of l.names (drop l.name-index l.wanted)) ≡ numbers_of l.names l.wanted
