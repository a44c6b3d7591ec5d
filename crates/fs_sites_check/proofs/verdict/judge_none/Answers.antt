use Rattle.std.proofs.Common.{◌≡◌, refl, ap, ◌∙◌, length, arith}
use Rattle.std.proofs.lemmas.Option.{slice_get_read}
use Rattle.fs_sites.specs.Questions.{Question}
use Rattle.fs_sites_check.proofs.Judged.{empty, none-valid}
use Rattle.fs_sites_check.proofs.verdict.judge_none.Goals as goal

pub returns-in-Some-2-clause-ok : goal.returns-in-Some-2-clause-ok
returns-in-Some-2-clause-ok c =
    let offers = ap (λ (q : Question). q.offers) c.question.view_is in
    let parts = ap (λ (q : Question). q.parts) c.question.view_is in
    let full = rw c.in-Some-2.is at c.in_ok-witness.ensures.ok in
    let given = c.as_slice-witnesses.result.now in
    let none : length c.args.certificate.now.cycles ≡ 0 = grind (arith, c.if-not-is_empty.false, c.is_empty.ensures) in
    let one : length given ≡ 1 = grind (arith, c.if-witnesses-ne1.false) in
    let found = c.in-Some.ensures.lookup in
    let there = slice_get_read c.as_slice.result.now _ c.index-witnesses-0.result.test c.in-Some.part.now refl found.3.0 found.1 in
    none-valid c.args.question.now c.args.certificate.now given c.index-witnesses-0.result _ c.in-Some.part.now _ c.in-Some-2.witness
    c.requires.none (empty _ none) c.as_slice-witnesses.ensures one c.index-witnesses-0.is (c.as_slice.ensures ∙ parts) offers there full
