use Rattle.std.proofs.Common.{◌≡◌, true, ap, map, string_bytes, subst, ◌∙◌, arith}
use Rattle.std.specs.List.{AllZip}
use Rattle.fs_sites.specs.Questions.{Question}
use Rattle.fs_sites_check.specs.Valid.{IsRefutedWith}
use Rattle.fs_sites_check.proofs.Judged.{planned}
use Rattle.fs_sites_check.proofs.verdict.judge_planned.Goals as goal

pub returns-in-None-clause-ok : goal.returns-in-None-clause-ok
returns-in-None-clause-ok c =
    let offers = ap (λ (q : Question). q.offers) c.question.view_is in
    let parts = ap (λ (q : Question). q.parts) c.question.view_is in
    let passes : c.in_ok-is_answered.field-0 ≡ true = grind (arith, c.if-not-branch.false) in
    let found = rw c.in-None.is at c.in_ok-test.ensures.ok in
    let refuted = subst (AllZip (IsRefutedWith c.args.placement) c.deref.result.now) c.deref-2.ensures found in
    planned c.args.question.now (map string_bytes c.args.names.now) c.args.certificate.now c.args.placement _ _ c.cost-cost.result
    c.requires.question c.requires.plan offers (c.deref.ensures ∙ parts) (c.in_ok-is_answered.ensures passes) refuted c.cost-cost.ensures
