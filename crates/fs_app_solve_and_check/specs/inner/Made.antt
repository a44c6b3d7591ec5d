-- What is made of an answer: its lines, a certificate and the text of that. Where the answer is none, each has its
-- witness.
use Rattle.std.specs.Prelude.{◌≡◌, ℕ, Some, List, [], ◌∷◌}
use Rattle.fs_kinds.specs.PriceTable.{PriceTable}
use Rattle.fs_model.specs.declared.test.Test.{Test}
use Rattle.fs_model.specs.Witness.{Witness}
use Rattle.fs_cert_json.specs.declared.certificate.Certificate.{Certificate}
use Rattle.fs_cert_evidence.specs.Evidence.{placement_in}
use Rattle.fs_pool_workers.specs.Answers.{Answer, placement_of}
use Rattle.fs_pool_workers.specs.Forms as answer
use Rattle.fs_cert.specs.Certified.{Certifies, CertifiesNone}
use Rattle.fs_app_solve_and_check.specs.Solve.{IsCertificateOf}
use Rattle.fs_board_offers.specs.Offers.{Offers}

abbrev pub CertifiesAnswer : Test → Offers → Answer → Certificate → Type 0
CertifiesAnswer t offers (answer.Fenced f n) = Certifies t offers (Some (placement_in f))
CertifiesAnswer t offers (answer.None w) = CertifiesNone t offers w.witness

abbrev pub HasWitness : Answer → List Witness → Type 0
HasWitness (answer.Fenced f n) witnesses = Unit {0}
HasWitness (answer.None w) witnesses = witnesses ≡ w.witness ∷ []

pub record SaysAnswer (t : Test) (prices : PriceTable) (a : Answer) (bytes : List ℕ) : Type 0 where
  pub certified : IsCertificateOf t prices (placement_of a) bytes
  pub witnesses : HasWitness a certified.certificate.witnesses
