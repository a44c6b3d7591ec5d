use Rattle.std.proofs.Common.{refl}
use Rattle.serde_json.specs.View.{view}
use Rattle.fs_cert_evidence.specs.Evidence.{cause_of}
use Rattle.fs_cert_json.proofs.Parts.{no_name}
use Rattle.fs_cert_json.proofs.read_cycles.link_in.Goals as goal

pub returns-in_err-operation : goal.returns-in_err-operation
returns-in_err-operation c =
    rw c.from_residual-in_err-operation.ensures
    (no_name (view c.args.value.now) (view c.in_ok-name.name.now) (view c.in_ok-name.why.now) c.in_ok-name.ensures c.in_err-operation.ensures)

pub returns : goal.returns
returns c =
    let name = c.in_ok-operation.ensures in (
      record { operation = name.0; cause = cause_of c.in_ok-cause.cause },
      (view c.in_ok-name.name.now, view c.in_ok-name.why.now, c.in_ok-name.ensures, name.1, c.in_ok-cause.ensures),
      record { operation = name.2; cause = refl },
    )
