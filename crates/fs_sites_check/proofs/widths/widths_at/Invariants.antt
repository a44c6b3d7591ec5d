use Rattle.std.proofs.Common.{◌≡◌, [], take}
use Rattle.fs_model.specs.Execution.{Execution}
use Rattle.fs_model.specs.Witness.{Witness}
use Rattle.fs_cert_evidence.specs.Evidence.{widths_of}
use Rattle.fs_cert_evidence.specs.Shown.{ShowsAs}
use Rattle.fs_cert_evidence.specs.Widths.{width}
use Rattle.fs_cert_evidence.specs.WitnessFile.{KeepsWitness}
use Rattle.fs_sites.specs.Questions.{slots_at}
use Rattle.fs_sites_check.proofs.widths.widths_at.Given as goal

abbrev pub invariant-loop-place : goal.invariant-loop-place
invariant-loop-place l =
    (w : Witness) (e : Execution) → KeepsWitness l.file w → ShowsAs l.test [] w e
    → l.widths.items ≡ widths_of (width l.test e) (slots_at (take l.place-index l.places))
