use Rattle.serde_json.specs.View.{view}
use Rattle.fs_cert_json.proofs.Inferences.{no_whole_link}
use Rattle.fs_cert_json.proofs.read_inferences.whole_link_in.Goals as goal

pub returns-in_err-link : goal.returns-in_err-link
returns-in_err-link c = rw c.from_residual.ensures (λ link h. c.in_err-link.ensures link h.0)

pub returns-in_err-link-2 : goal.returns-in_err-link-2
returns-in_err-link-2 c =
    rw c.from_residual-in_err-link-2.ensures (no_whole_link (view c.args.value.now) c.in_ok-link.link
    c.in_err-link-2.was c.in_ok-link.ensures)
