use Rattle.std.proofs.Common.{take, map, string_bytes}
use Rattle.serde_json.specs.View.{items_view}
use Rattle.fs_cert_evidence.specs.CertificateFile.{IsText}
use Rattle.fs_cert_evidence.specs.WitnessFile.{EachItem}
use Rattle.fs_cert_json.proofs.read_answer.read_texts.Given as goal

-- the texts so far are those of the items so far
abbrev pub invariant-loop-item : goal.invariant-loop-item
invariant-loop-item l = EachItem IsText (items_view (take l.item-index l.item-items)) (map string_bytes l.texts.items)
