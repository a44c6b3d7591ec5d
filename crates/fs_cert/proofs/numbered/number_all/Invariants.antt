use Rattle.std.proofs.Common.{map, take}
use Rattle.fs_cert_evidence.specs.Evidence.{witness_in}
use Rattle.fs_cert.specs.Certified.{AreDistinct}
use Rattle.fs_cert.specs.inner.Copies.{IsNumbering}
use Rattle.fs_cert.proofs.numbered.number_all.Given as goal

-- those so far are numbered, and each is there once
abbrev pub invariant-loop-witness : goal.invariant-loop-witness
invariant-loop-witness l = record {
  numbers : IsNumbering l.files.items l.numbers.items (map witness_in (take l.witness-index l.witnesses));
  once : AreDistinct l.files.items;
}
