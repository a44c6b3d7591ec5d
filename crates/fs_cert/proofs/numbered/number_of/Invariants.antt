use Rattle.std.proofs.Common.{◌≡◌, ◌<◌, ℕ, Some}
use Rattle.std.specs.Prelude.{slice_get}
use Rattle.fs_cert_evidence.specs.declared.witness.WitnessFile.{WitnessFile}
use Rattle.fs_cert.specs.inner.Copies.{IsCopiedWitness}
use Rattle.fs_cert.proofs.numbered.number_of.Given as goal

-- none of those so far is a copy
abbrev pub invariant-loop-number : goal.invariant-loop-number
invariant-loop-number l = (k : ℕ) (file : WitnessFile) → k < l.number → slice_get l.files k ≡ Some file → IsCopiedWitness file l.witness.witness → ⊥
