use Rattle.std.proofs.Common.{take, map}
use Rattle.serde_json.specs.View.{items_view}
use Rattle.fs_cert_evidence.specs.Inferences.{inference_of}
use Rattle.fs_cert_evidence.specs.CertificateFile.{IsInference}
use Rattle.fs_cert_evidence.specs.WitnessFile.{EachItem, IsArrayOf}
use Rattle.fs_app_sites_check_and_audit.proofs.read.read_cycles.Given as goal

-- the inferences so far are those of the items so far
abbrev pub invariant-loop-item : goal.invariant-loop-item
invariant-loop-item l = EachItem (IsArrayOf IsInference) (items_view (take l.item-index l.item-items))
    (map (map inference_of) l.cycles.items)
