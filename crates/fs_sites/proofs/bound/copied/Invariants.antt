use Rattle.std.proofs.Common.{◌≡◌, take}
use Rattle.fs_sites.proofs.bound.copied.Given as goal

abbrev pub invariant-loop-offer : goal.invariant-loop-offer
invariant-loop-offer l = l.copy.items ≡ take l.offer-index l.offers
