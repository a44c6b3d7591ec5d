use Rattle.std.proofs.Common.{IfOk, ap, option_copied, subst, sym, ◌∙◌}
use Rattle.fs_cert_evidence.specs.Certificate.{NoneForbids}
use Rattle.fs_app_why.proofs.Certified.{first_witness}
use Rattle.fs_app_dot.specs.Told.{AreOfAnswer}
use Rattle.fs_app_dot.proofs.certified.first_pictures.Goals as goal

pub returns-in-Some-clause-told : goal.returns-in-Some-clause-told
returns-in-Some-clause-told c telling cycles ws kept =
    let first = first_witness c.args.witnesses.now ws c.in-Some.file.now kept
    (sym c.first.ensures.value ∙ ap option_copied c.in-Some.is) in
    subst (λ those. IfOk c.none_pictures.result (λ pictures.
    AreOfAnswer c.args.title.now telling c.args.test.now NoneForbids cycles those pictures.items)) (sym first.3)
    (c.none_pictures.ensures.shown first.0 first.2)
