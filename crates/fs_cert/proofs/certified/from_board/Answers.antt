use Rattle.std.proofs.Common.{◌≡◌, map, length, sym, ap, subst, ◌∙◌}
use Rattle.fs_cert_evidence.specs.Evidence.{witness_in}
use Rattle.fs_board_offers.specs.Questions.{Question}
use Rattle.fs_board_offers.proofs.Closed.{history-right}
use Rattle.fs_cert.specs.Certified.{Certifies, AreDistinct}
use Rattle.fs_cert.specs.inner.Copies.{AreCopiedWitnesses, AreNumbered, StandsAt}
use Rattle.fs_cert.specs.inner.Fenced.{IsFenced}
use Rattle.fs_cert.specs.inner.Items.{AreSmall}
use Rattle.fs_cert.proofs.Copying.{as_long, numbers_small}
use Rattle.fs_cert.proofs.Made.{fenced_certifies}
use Rattle.fs_cert.proofs.certified.from_board.Goals as goal

pub tree_of-requires-clause-small : goal.tree_of-requires-clause-small
tree_of-requires-clause-small c =
    let s = c.args.board.now in
    let numbering = c.in_ok-numbering.ensures.numbers in
    let ns = c.in_ok-numbering.numbering.numbers.items in
    let all = map witness_in c.witnesses.result.now in
    subst AreSmall (sym c.deref-3.ensures.value) (numbers_small numbering.0 all ns numbering.2)

pub tree_of-requires-clause-long : goal.tree_of-requires-clause-long
tree_of-requires-clause-long c =
    let s = c.args.board.now in
    let numbering = c.in_ok-numbering.ensures.numbers in
    let ns = c.in_ok-numbering.numbering.numbers.items in
    let all = map witness_in c.witnesses.result.now in
    ap length c.deref-3.ensures.value ∙ (sym (as_long (StandsAt numbering.0) all ns numbering.2) ∙ ap length c.witnesses.ensures.value)

pub returns-clause-ok : goal.returns-clause-ok
returns-clause-ok c =
    let s = c.args.board.now in
    let numbering = c.in_ok-numbering.ensures.numbers in
    let ns = c.in_ok-numbering.numbering.numbers.items in
    let all = map witness_in c.witnesses.result.now in
    let f = c.args.bound.now in
    let same : c.deref-4.result.now ≡ s.question = c.deref-4.ensures ∙ c.question-question.ensures in
    let right = history-right s.question.test s.question.offers s.board.limit s.log s.board c.log-legal.ensures.legal in
    let forbidden = right.bound f.placement c.requires.posted in
    let tree = c.in_ok-tree.tree in
    let files = c.new-witnesses.result in
    let made = c.in_ok-fenced.field-0 in
    let is : IsFenced s.question f tree files made = subst (λ (q : Question). IsFenced q f tree files made) same c.in_ok-fenced.ensures in
    let copied : AreCopiedWitnesses files numbering.0 = subst (λ l. AreCopiedWitnesses l numbering.0) (sym c.new-witnesses.ensures) numbering.1 in
    let numbered : AreNumbered numbering.0 s.board.witnesses c.deref-3.result.now =
    subst (AreNumbered numbering.0 s.board.witnesses) (sym c.deref-3.ensures.value)
    (subst (λ ws. AreNumbered numbering.0 ws ns) c.witnesses.ensures.value numbering.2) in
    subst (λ bound. Certifies s.question.test s.question.offers bound made) (sym c.requires.posted)
    (fenced_certifies s.question f tree files made numbering.0 is copied c.requires.cycles forbidden.placement c.in_ok-tree.ensures.small
    (λ certificate later witnesses. c.in_ok-tree.ensures.tree certificate f.placement later c.requires.posted
    (subst (λ ws. AreNumbered ws s.board.witnesses c.deref-3.result.now) (sym witnesses) numbered)))

pub returns-clause-once : goal.returns-clause-once
returns-clause-once c =
    subst AreDistinct (sym (c.in_ok-fenced.ensures.witnesses_are ∙ c.new-witnesses.ensures)) c.in_ok-numbering.ensures.once
