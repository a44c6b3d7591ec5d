use Rattle.std.proofs.Common.{List, take}
use Rattle.std.specs.List.{AllZip}
use Rattle.fs_model.specs.Witness.{Witness}
use Rattle.fs_cert_evidence.specs.WitnessFile.{KeepsWitness}
use Rattle.fs_check_certificate.specs.Leaves.{AreShown}
use Rattle.fs_check_certificate.proofs.witness.shown_widths.Given as goal

abbrev pub invariant-loop-file : goal.invariant-loop-file
invariant-loop-file l = (ws : List Witness) → AllZip KeepsWitness l.witnesses ws → AreShown l.test (take l.file-index ws) l.shown.items
