use Rattle.std.proofs.Common.{List, take}
use Rattle.std.specs.List.{AllZip}
use Rattle.fs_model.specs.Witness.{Witness}
use Rattle.fs_cert_evidence.specs.WitnessFile.{KeepsWitness}
use Rattle.fs_app_dot.specs.Executions.{AreOfFences}
use Rattle.fs_app_dot.proofs.without.fence_pictures.Given as goal

-- the fences so far
abbrev pub invariant-loop-entry : goal.invariant-loop-entry
invariant-loop-entry l =
    (ws : List Witness) → AllZip KeepsWitness l.files ws
    → AreOfFences l.page.test.now l.page.title.now l.telling ws l.placement (take l.entry-index l.entry-items) l.pictures.items
