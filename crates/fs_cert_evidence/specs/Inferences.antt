-- What the code's inferences and cycles stand for.
use Rattle.std.specs.Prelude.{map}
use Rattle.fs_cert_evidence.specs.Certificate as certificate
use Rattle.fs_cert_evidence.specs.Certificate.{Cycles, Inference}
use Rattle.fs_cert_evidence.specs.declared.evidence.Cycles.{Cycles as CodeCycles}
use Rattle.fs_cert_evidence.specs.declared.evidence.Cycles.TheVariants as cycles
use Rattle.fs_cert_evidence.specs.declared.inference.Inference.{Inference as CodeInference}
use Rattle.fs_cert_evidence.specs.declared.inference.Inference.TheVariants as inference

abbrev pub inference_of : CodeInference → Inference
inference_of (inference.ByChoice name) = certificate.ByChoice name
inference_of (inference.BySource load) = certificate.BySource load
inference_of (inference.ByOrder first second) = certificate.ByOrder first second
inference_of (inference.ByCases number) = certificate.ByCases number
inference_of (inference.Filter hart) = certificate.Filter hart
inference_of (inference.Cycle links) = certificate.Cycle links
inference_of (inference.Stale load store) = certificate.Stale load store
inference_of (inference.Reversed load store) = certificate.Reversed load store
inference_of (inference.Parted load store other) = certificate.Parted load store other

abbrev pub cycles_of : CodeCycles → Cycles
cycles_of (cycles.Listed links) = certificate.Listed links
cycles_of (cycles.Inferred inferences) = certificate.Inferred (map inference_of inferences)
