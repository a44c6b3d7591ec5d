use Rattle.std.proofs.Common.{◌≡◌, take}
use Rattle.fs_cert_evidence.specs.Widths.{width}
use Rattle.fs_check.specs.Ordered.{execution_in}
use Rattle.fs_cert_evidence.specs.Evidence.{widths_of}
use Rattle.fs_check_certificate.proofs.witness.widths.Given as goal

abbrev pub invariant-loop-slot : goal.invariant-loop-slot
invariant-loop-slot l = l.widths.items ≡ widths_of (width l.test (execution_in l.ordered)) (take l.slot-index l.slots)
