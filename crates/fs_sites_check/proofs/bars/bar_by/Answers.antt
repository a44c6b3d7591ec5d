use Rattle.std.proofs.Common.{◌≡◌, true, refl, ap, ◌∙◌, arith}
use Rattle.std.proofs.lemmas.Option.{slice_get_read}
use Rattle.fs_sites.specs.Questions.{Part}
use Rattle.fs_sites_check.proofs.Barred.{barred}
use Rattle.fs_sites_check.proofs.bars.bar_by.Goals as goal

pub returns-clause-ok : goal.returns-clause-ok
returns-clause-ok c =
    let test = ap (λ (part : Part). part.test) c.part.view_is in
    let places = ap (λ (part : Part). part.places) c.part.view_is in
    let said = c.requires.said in
    let found = c.in-Some.ensures.lookup in
    let there = slice_get_read c.args.parts.now _ c.args.witness.now.test c.in-Some.part.now refl found.3.0 found.1 in
    let bare : c.in_ok-is_shown.field-0 ≡ true = grind (arith, c.if-not-branch.false) in
    barred c.args.parts.now c.args.sites c.args.witness.now c.in-Some.part.now _ _ _ _ _ c.in_ok-is_shown.field-0 c.in_ok-widths.widths.items
    _ c.in_ok-bar_of.field-0 said there (c.deref.ensures ∙ test) (c.deref-2.ensures ∙ test)
    (c.deref-3.ensures ∙ places) (c.deref-4.ensures ∙ places) c.in_ok-unfenced.ensures.ok bare (c.in_ok-is_shown.ensures.ok said.0 said.1)
    c.in_ok-widths.ensures.ok c.deref-5.ensures.value c.in_ok-bar_of.ensures.bar c.in_ok-bar_of.ensures.sites
