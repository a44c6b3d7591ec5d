use Rattle.std.proofs.lemmas.Result.{IfOk-weaker}
use Rattle.fs_app_audit_json_and_why.proofs.files.told.Goals as goal

pub returns-in-Ok : goal.returns-in-Ok
returns-in-Ok c = IfOk-weaker c.said_of.result _ _ (λ made h. (_, h)) c.said_of.ensures
