use Rattle.std.proofs.Common.{◌≡◌, map, take}
use Rattle.fs_cert_evidence.specs.Evidence.{witness_in}
use Rattle.fs_pool.proofs.same.are_same_witnesses.Given as goal

abbrev pub invariant-loop-i : goal.invariant-loop-i
invariant-loop-i l = map witness_in (take l.i l.witnesses) ≡ map witness_in (take l.i l.others)
