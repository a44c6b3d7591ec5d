use Rattle.std.proofs.Common.{take}
use Rattle.std.specs.List.{AllZip}
use Rattle.fs_cert_evidence.specs.Inferences.{inference_of}
use Rattle.fs_cert.specs.inner.Copies.{IsCopiedInference}
use Rattle.fs_cert.proofs.inferences.inferences_of.Given as goal

-- those so far are copied
abbrev pub invariant-loop-inference : goal.invariant-loop-inference
invariant-loop-inference l =
    AllZip (λ copy inference. IsCopiedInference copy (inference_of inference)) l.copy.items (take l.inference-index l.inferences)
