use Rattle.std.proofs.Common.{List, take, string_bytes}
use Rattle.std.specs.List.{AllZip}
use Rattle.fs_model.specs.Witness.{Witness}
use Rattle.fs_cert_evidence.specs.WitnessFile.{KeepsWitness}
use Rattle.fs_app_why.specs.Why.{NoWitnessShows, TellsFences}
use Rattle.fs_app_why.proofs.without.fences_text.Given as goal

-- the fences so far
abbrev pub invariant-loop-entry : goal.invariant-loop-entry
invariant-loop-entry l =
    (ws : List Witness) → AllZip KeepsWitness l.files ws
    → TellsFences l.test l.lines l.telling l.kinds ws (NoWitnessShows l.test ws) l.placement (take l.entry-index l.entry-items) (string_bytes l.text)
