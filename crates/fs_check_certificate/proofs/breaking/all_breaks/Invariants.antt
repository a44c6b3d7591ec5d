use Rattle.std.proofs.Common.{◌≡◌, take}
use Rattle.fs_check_certificate.specs.Breaks.{all_breaks}
use Rattle.fs_check_certificate.proofs.breaking.all_breaks.Given as goal

abbrev pub invariant-loop-kept : goal.invariant-loop-kept
invariant-loop-kept l = l.breaks.items ≡ all_breaks l.offers l.slots (take l.kept-index l.shown)
