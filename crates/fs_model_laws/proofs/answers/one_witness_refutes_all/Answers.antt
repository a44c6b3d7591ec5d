use Rattle.std.proofs.Common.{refl}
use Rattle.fs_cert_evidence.specs.Certificate.{Version, First, Second, Fourth, IsEmpty}
use Rattle.fs_model_laws.specs.Answers.{no_cycles}
use Rattle.fs_model_laws.proofs.Filled.{unanswered}
use Rattle.fs_model_laws.proofs.answers.one_witness_refutes_all.Goals as goal

empty : (version : Version) → IsEmpty (no_cycles version)
empty First = refl
empty Second = refl
empty Fourth = refl

pub returns-clause-right : goal.returns-clause-right
returns-clause-right c = λ t certificate valid prices. unanswered t (valid.execution, valid.refutes) prices

pub returns-clause-there : goal.returns-clause-there
returns-clause-there c = λ t version w e given refutes. record {
  answered = refl;
  cycles = empty version;
  tree = refl;
  witness = w;
  only = refl;
  execution = e;
  given = given;
  refutes = refutes;
}
