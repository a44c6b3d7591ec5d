use Rattle.std.proofs.Common.{IfOk, ap, option_copied, string_bytes, subst, sym, ◌∙◌}
use Rattle.fs_cert_evidence.specs.Certificate.{NoneForbids}
use Rattle.fs_app_why.specs.Why.{TellsAnswer}
use Rattle.fs_app_why.proofs.Certified.{first_witness}
use Rattle.fs_app_why.proofs.answered.first_text.Goals as goal

pub returns-in-Some-clause-told : goal.returns-in-Some-clause-told
returns-in-Some-clause-told c telling cycles ws kept =
    let first = first_witness c.args.witnesses.now ws c.in-Some.file.now kept
    (sym c.first.ensures.value ∙ ap option_copied c.in-Some.is) in
    subst (λ those. IfOk c.none_text.result (λ text. TellsAnswer telling c.args.test.now NoneForbids cycles those (string_bytes text)))
    (sym first.3) (c.none_text.ensures.told telling cycles first.0 first.1 first.2)
