use Rattle.std.proofs.lemmas.Result.{IfOk-weaker}
use Rattle.fs_app_dot.proofs.pictures.execution_picture.Goals as goal

pub returns : goal.returns
returns c =
    IfOk-weaker c.dot_text.result _ _ (λ text told. (c.deref-2.result.now, c.deref-3.result.now, told))
    c.dot_text.ensures
