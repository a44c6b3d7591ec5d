use Rattle.std.proofs.Common.{sym, ◌∙◌}
use Rattle.std.proofs.lemmas.Result.{IfOk-weaker}
use Rattle.fs_app_sites.proofs.Lines.{is-cut, text-written}
use Rattle.fs_app_sites.proofs.report.place_text.Goals as goal

pub returns-then-is_alone : goal.returns-then-is_alone
returns-then-is_alone c =
    let cut = is-cut c.args.name.now (c.in-Some.hart, c.in-Some.at) c.in-Some.ensures.cases in
    IfOk-weaker c.format-then-is_alone.result _ _ (λ text is. is ∙ sym (text-written _ _ _ _ c.if-is_alone.true cut))
    c.format-then-is_alone.ensures.ok
