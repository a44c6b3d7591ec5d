use Rattle.std.proofs.Common.{IfOk, map, string_bytes, subst, sym, ap, ◌∙◌}
use Rattle.fs_model.specs.declared.test.Test.{Test}
use Rattle.fs_cert_evidence.specs.Certificate.{Fenced}
use Rattle.fs_cert_json.specs.Kept.{answer_of}
use Rattle.fs_check_certificate.specs.inner.Judgements.{IsJudgement}
use Rattle.fs_check_certificate.proofs.certificate_verdict.judge.Goals as goal

pub returns-in-Fenced-clause-ok : goal.returns-in-Fenced-clause-ok
returns-in-Fenced-clause-ok c said keeps holds =
    c.judge_fenced.ensures.ok said keeps holds (keeps.answer ∙ ap answer_of c.in-Fenced.is
    ∙ ap (λ texts. Fenced c.in-Fenced.cost (map string_bytes texts)) (sym c.deref.ensures))

pub returns-in-NoneForbids-clause-ok : goal.returns-in-NoneForbids-clause-ok
returns-in-NoneForbids-clause-ok c said keeps holds =
    let offers = c.args.offers.now in
    subst (λ (u : Test). IfOk c.judge_none.result (IsJudgement u offers said)) c.test.ensures
    (c.judge_none.ensures.ok said offers keeps (keeps.answer ∙ ap answer_of c.in-NoneForbids.is))
