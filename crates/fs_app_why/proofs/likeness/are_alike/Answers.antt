use Rattle.std.proofs.Common.{◌≡◌, ◌∙◌, ap, arith, sym}
use Rattle.std.specs.List.{zip}
use Rattle.fs_app_why.specs.Kinds.{is_renamed, turned}
use Rattle.fs_app_why.proofs.Turns.{alike_at, never_alike}
use Rattle.fs_app_why.proofs.likeness.are_alike.Goals as goal

pub returns-then-is_renamed : goal.returns-then-is_renamed
returns-then-is_renamed c =
    let texts = c.args.texts.now in
    let first = c.args.first.now.links in
    let from = c.loop-from.from in
    let turned_is : c.deref.result.now ≡ turned from c.args.second.now.links =
    c.deref.ensures.value ∙ c.in_ok-turned.ensures ∙ ap (turned from) c.as_slice-links.ensures in
    alike_at texts c.args.first.now c.args.second.now c.turns-from-end.result (cc) from
    c.loop-from-test.true (sym c.have_one_form.ensures ∙ c.if-not-have_one_form.false)
    (ap (λ links. is_renamed texts (zip first links)) (sym turned_is)
    ∙ ap (λ links. is_renamed texts (zip links c.deref.result.now)) (sym c.as_slice.ensures)
    ∙ sym c.is_renamed.ensures ∙ c.if-is_renamed.true)

pub returns : goal.returns
returns c =
    never_alike c.args.texts.now c.args.first.now c.args.second.now c.turns-from-end.result (cc) (λ k low.
    let end = c.loop-from-test.false in
    ap (λ links. is_renamed c.args.texts.now (zip c.args.first.now.links (turned k links))) (sym c.as_slice-links.ensures)
    ∙ c.loop-from.invariant k (omega (arith, low, end)))
