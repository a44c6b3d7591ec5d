use Rattle.std.proofs.Common.{map, subst, sym, arith}
use Rattle.std.specs.List.{AllZip}
use Rattle.fs_cert_evidence.specs.Inferences.{inference_of}
use Rattle.fs_cert.specs.inner.Copies.{IsCopiedInference}
use Rattle.fs_cert.proofs.Zips.{zip_made, zip_next, zip_whole}
use Rattle.fs_cert.proofs.inferences.inferences_of.Goals as goal

pub loop-inference-preserved : goal.loop-inference-preserved
loop-inference-preserved c =
    zip_next (λ copy inference. IsCopiedInference copy (inference_of inference)) c.push.new.self.items c.loop-inference.copy.items c.in_ok-inference_of.field-0
    c.args.inferences.now c.loop-inference.inference-index c.inference-item.result c.in_ok-push.ensures.items c.loop-inference.invariant (omega arith)
    c.inference-item.is c.in_ok-inference_of.ensures

pub returns : goal.returns
returns c =
    subst (λ copy. AllZip IsCopiedInference copy (map inference_of c.args.inferences.now)) (sym c.new.ensures)
    (zip_made IsCopiedInference inference_of c.loop-inference.copy.items c.args.inferences.now
    (zip_whole (λ copy inference. IsCopiedInference copy (inference_of inference)) c.loop-inference.copy.items c.args.inferences.now
    c.loop-inference.inference-index (omega arith) c.loop-inference.invariant))
