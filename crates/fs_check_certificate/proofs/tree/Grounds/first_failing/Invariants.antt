use Rattle.std.proofs.Common.{map, drop}
use Rattle.fs_model.specs.declared.test.Test.{Test}
use Rattle.fs_cert_evidence.specs.Certificate.{Certificate}
use Rattle.fs_cert_json.specs.Kept.{item_of}
use Rattle.fs_check_certificate.specs.inner.Walks.{AreGrounds}
use Rattle.fs_check_certificate.proofs.Walking.{Whole}
use Rattle.fs_check_certificate.proofs.tree.Grounds.first_failing.Given as goal

abbrev pub invariant-loop-index : goal.invariant-loop-index
invariant-loop-index l = (t : Test) (c : Certificate) → AreGrounds t l.self.offers.now c l.self.version l.self.slots.now l.self.shown.now l.self.breaks.now
    → Whole t l.self.offers.now c l.self.answer.now l.stack (map item_of (drop l.index l.tree)) l.index (map item_of l.tree)
