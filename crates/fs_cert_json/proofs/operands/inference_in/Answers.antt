use Rattle.serde_json.specs.View.{items_view}
use Rattle.fs_cert_json.proofs.Inferences.{said_by}
use Rattle.fs_cert_json.proofs.operands.inference_in.Goals as goal

pub returns : goal.returns
returns c = said_by c.args.letter.now (items_view c.args.others.now) c.in_ok-operands.operands c.inference_of.result
    c.in_ok-operands.ensures c.inference_of.ensures
