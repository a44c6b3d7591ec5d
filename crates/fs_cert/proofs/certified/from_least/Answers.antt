use Rattle.std.proofs.Common.{◌≡◌, ◌++◌, ◌∷◌, [], Some, map, refl, sym, ap, subst, ◌∙◌}
use Rattle.std.proofs.lemmas.Result.{IfOk-weaker}
use Rattle.fs_board_offers.specs.Parts.{undecided}
use Rattle.fs_board_offers.specs.Valid.{Covers}
use Rattle.fs_cert_json.specs.Kept.{item_of}
use Rattle.fs_cert_json.specs.declared.certificate.Item.TheVariants as item
use Rattle.fs_cert.specs.Certified.{Certifies}
use Rattle.fs_cert.specs.inner.Copies.{AreCopiedWitnesses}
use Rattle.fs_cert.specs.inner.Fenced.{IsFenced}
use Rattle.fs_cert.specs.inner.Items.{AreSayable}
use Rattle.fs_cert.proofs.Made.{fenced_certifies, least-offered, least-covers}
use Rattle.fs_cert.proofs.certified.from_least.Goals as goal

pub returns : goal.returns
returns c =
    let q = c.args.question.now in
    let f = c.args.forbidden.now in
    let tree = c.new.result in
    let files = c.new-3.result in
    let only : tree ≡ item.Costly ∷ [] = c.new.ensures ∙ (c.in_ok-push.ensures.items ∙ ap (λ l. l ++ item.Costly ∷ []) c.new-tree.ensures.items) in
    let none : files ≡ [] = c.new-3.ensures ∙ c.new-2.ensures.items in
    let least = c.requires.least in
    IfOk-weaker c.fenced.result (IsFenced q f tree files) (Certifies q.test q.offers (Some f.placement))
    (λ made is. fenced_certifies q f tree files made [] is (subst (λ l. AreCopiedWitnesses l []) (sym none) tt) c.requires.cycles
    (least-offered q.offers f.placement least)
    (subst (λ (l : _). AreSayable (map item_of l)) (sym only) ((refl, tt), tt))
    (λ certificate later witnesses.
    subst (λ (l : _). Covers q.test q.offers certificate f.placement (undecided q.offers ∷ []) (map item_of l)) (sym only)
    (least-covers q.test q.offers certificate f.placement least later)))
    c.fenced.ensures
