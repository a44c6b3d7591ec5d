use Rattle.std.proofs.Common.{subst, sym}
use Rattle.std.proofs.lemmas.Result.{IfOk-weaker}
use Rattle.serde_json.specs.View.{view}
use Rattle.fs_cert_json.specs.inner.Written.{WritesCycles, WritesShown}
use Rattle.fs_cert_json.proofs.Texts.{shown_listed}
use Rattle.fs_cert_json.proofs.write.cycles_value.Goals as goal

pub returns-in-Listed : goal.returns-in-Listed
returns-in-Listed c =
    IfOk-weaker c.listed_value.result _ _ (λ value writes.
    subst (WritesShown (view value)) (sym c.in-Listed.is)
    (shown_listed (view value) c.in-Listed.cycles (subst (WritesCycles (view value)) c.as_slice.ensures writes)))
    c.listed_value.ensures
