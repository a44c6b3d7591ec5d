use Rattle.std.proofs.lemmas.Result.{IfOk-weaker}
use Rattle.fs_app_dot.proofs.pictures.chain_picture.Goals as goal

pub returns : goal.returns
returns c = IfOk-weaker c.chain_dot.result _ _ (λ text told. (c.deref-2.result.now, told)) c.chain_dot.ensures
