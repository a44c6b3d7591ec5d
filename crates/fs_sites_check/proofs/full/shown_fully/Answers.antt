use Rattle.std.proofs.Common.{◌≡◌, true, ap, ◌∙◌, arith}
use Rattle.fs_sites.specs.Questions.{Part}
use Rattle.fs_sites_check.proofs.FullyShown.{fully}
use Rattle.fs_sites_check.proofs.full.shown_fully.Goals as goal

pub returns-clause-ok : goal.returns-clause-ok
returns-clause-ok c =
    let test = ap (λ (part : Part). part.test) c.part.view_is in
    let places = ap (λ (part : Part). part.places) c.part.view_is in
    let said = c.requires.said in
    let all : c.in_ok-is_shown_with_top.field-0 ≡ true = grind (arith, c.if-not-branch.false) in
    let bare : c.in_ok-is_shown.field-0 ≡ true = grind (arith, c.if-not-branch-2.false) in
    fully c.args.part.now c.args.offers.now c.args.file.now _ _ _ _ c.in_ok-is_shown_with_top.field-0 c.in_ok-is_shown.field-0
    c.in_ok-widths.widths.items c.in_ok-witness_of.field-0 c.requires.part said (c.deref.ensures ∙ test) (c.deref-2.ensures ∙ test)
    (c.deref-3.ensures ∙ places) c.in_ok-unfenced.ensures.ok all bare (c.in_ok-is_shown_with_top.ensures.ok said.0 said.1)
    (c.in_ok-is_shown.ensures.ok said.0 said.1) c.in_ok-widths.ensures.ok c.in_ok-witness_of.ensures.choices c.in_ok-witness_of.ensures.order
    c.in_ok-witness_of.ensures.widths
