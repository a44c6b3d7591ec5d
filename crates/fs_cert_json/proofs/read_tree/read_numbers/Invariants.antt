use Rattle.std.proofs.Common.{take}
use Rattle.serde_json.specs.View.{items_view}
use Rattle.fs_cert_evidence.specs.CertificateFile.{IsNumber}
use Rattle.fs_cert_evidence.specs.WitnessFile.{EachItem}
use Rattle.fs_cert_json.proofs.read_tree.read_numbers.Given as goal

-- the numbers so far are those of the items so far
abbrev pub invariant-loop-item : goal.invariant-loop-item
invariant-loop-item l = EachItem IsNumber (items_view (take l.item-index l.item-items)) l.numbers.items
