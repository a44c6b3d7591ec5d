-- A certificate of fences, as it is put together.
use Rattle.std.specs.Prelude.{◌≡◌, ◌≤◌, List}
use Rattle.fs_board_offers.specs.Offers.{cost}
use Rattle.fs_cert_evidence.specs.declared.witness.WitnessFile.{WitnessFile}
use Rattle.fs_cert_evidence.specs.Certificate as said
use Rattle.fs_cert_evidence.specs.Certificate.{fence_words}
use Rattle.fs_cert_evidence.specs.CertificateFile.{most_number}
use Rattle.fs_cert_json.specs.declared.certificate.Certificate.{Certificate}
use Rattle.fs_cert_json.specs.declared.certificate.Item.{Item}
use Rattle.fs_cert_json.specs.Kept.{answer_of, version_of}
use Rattle.fs_cert_evidence.specs.Evidence.{Refuted}
use Rattle.fs_board_offers.specs.Questions.{Question}
use Rattle.fs_cert.specs.Cycles.{version_for}
use Rattle.fs_cert.specs.inner.Copies.{AreCopiedCycles}

pub record IsFenced (q : Question) (f : Refuted) (tree : List Item) (witnesses : List WitnessFile) (made : Certificate) : Type 0 where
  pub version : version_of made.version ≡ version_for f.cycles
  pub answer : answer_of made.answer ≡ said.Fenced (cost q.offers f.placement) (fence_words f.placement)
  pub most : cost q.offers f.placement ≤ most_number
  pub cycles : AreCopiedCycles made.cycles f.cycles
  pub tree_is : made.tree ≡ tree
  pub witnesses_are : made.witnesses ≡ witnesses
