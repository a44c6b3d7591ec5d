use Rattle.std.proofs.Common.{◌≡◌, ◌<◌, ◌≤◌, ◌∷◌, ◌++◌, [], map, length, sym, ap, subst, ◌∙◌, arith}
use Rattle.std.specs.List.{AllByRecursion}
use Rattle.std.proofs.lemmas.List.{map-append}
use Rattle.fs_board_offers.specs.Offers.{Offers}
use Rattle.fs_cert_json.specs.Kept.{item_of}
use Rattle.fs_board_offers.specs.Questions.{Question}
use Rattle.fs_board.specs.View.{status_of}
use Rattle.fs_cert.specs.inner.Items.{item_at, below, HasNumbers, AreSayable, IsTreeOf, ways_of, AreBelow}
use Rattle.fs_cert.proofs.Sayable.{below_most, sayable_more}
use Rattle.fs_cert.proofs.Walk.{IsFinal, LeadsTo, visited, steps, begins, root-there, ends, lighter, still-there}
use Rattle.fs_cert.proofs.Weights.{weight}
use Rattle.fs_cert.proofs.preorder.tree_of.Goals as goal
use Rattle.fs_cert_evidence.specs.CertificateFile.{most_number}

pub loop-node-init : goal.loop-node-init
loop-node-init c =
    let s = c.args.board.now in
    let final : IsFinal s = record { history = c.log-legal.ensures.legal; finished = c.requires.finished } in
    let first = c.in_ok-pending.ensures in
    let none = c.new-items.ensures.items in
    record {
      leads = subst (λ ks. LeadsTo s c.args.numbers.now ks (map item_of c.new-items.result.items)) (sym first)
          (subst (λ is. LeadsTo s c.args.numbers.now (0 ∷ []) (map item_of is)) (sym none) (begins s final c.args.numbers.now));
      there = subst (AllByRecursion (λ k. k < length s.board.nodes)) (sym first) (root-there s final, tt);
      sayable = subst (λ is. AreSayable (map item_of is)) (sym none) tt;
    }

pub item_at-requires-clause-closed : goal.item_at-requires-clause-closed
item_at-requires-clause-closed c =
    let s = c.args.board.now in
    let final : IsFinal s = record { history = c.log-legal.ensures.legal; finished = c.requires.finished } in
    let k = c.in-Some.node in
    let all = subst (AllByRecursion (λ j. j < length s.board.nodes)) c.in-Some.ensures.some c.loop-node.invariant.there in
    let seen = visited s final k (status_of c.status_at-status.result) all.0 c.status_at-status.ensures in
    seen.unopened

pub item_at-requires-clause-left : goal.item_at-requires-clause-left
item_at-requires-clause-left c =
    let s = c.args.board.now in
    let final : IsFinal s = record { history = c.log-legal.ensures.legal; finished = c.requires.finished } in
    let k = c.in-Some.node in
    let all = subst (AllByRecursion (λ j. j < length s.board.nodes)) c.in-Some.ensures.some c.loop-node.invariant.there in
    let seen = visited s final k (status_of c.status_at-status.result) all.0 c.status_at-status.ensures in
    seen.unheld

pub item_at-requires-clause-there : goal.item_at-requires-clause-there
item_at-requires-clause-there c =
    let s = c.args.board.now in
    let final : IsFinal s = record { history = c.log-legal.ensures.legal; finished = c.requires.finished } in
    let k = c.in-Some.node in
    let all = subst (AllByRecursion (λ j. j < length s.board.nodes)) c.in-Some.ensures.some c.loop-node.invariant.there in
    let seen = visited s final k (status_of c.status_at-status.result) all.0 c.status_at-status.ensures in
    subst (λ n. HasNumbers n (status_of c.status_at-status.result)) (sym c.requires.long) seen.numbered

pub push_children-requires : goal.push_children-requires
push_children-requires c =
    let s = c.args.board.now in
    let final : IsFinal s = record { history = c.log-legal.ensures.legal; finished = c.requires.finished } in
    let k = c.in-Some.node in
    let all = subst (AllByRecursion (λ j. j < length s.board.nodes)) c.in-Some.ensures.some c.loop-node.invariant.there in
    let seen = visited s final k (status_of c.status_at-status.result) all.0 c.status_at-status.ensures in
    let status = status_of c.status_at-status.result in
    let ways : c.ways-ways.result ≡ ways_of s.question.offers status =
    c.ways-ways.ensures.value
    ∙ ap (λ (x : Offers). ways_of x status) (c.offers-offers.ensures.value ∙ ap (λ (q : Question). q.offers) (c.deref.ensures ∙ c.question.ensures)) in
    subst (λ n. AreBelow n most_number status) (sym ways)
    (below_most (ways_of s.question.offers status) (length s.board.nodes) status (omega (arith, c.len-count.ensures)) seen.below_all)

pub loop-node-smaller : goal.loop-node-smaller
loop-node-smaller c =
    let s = c.args.board.now in
    let final : IsFinal s = record { history = c.log-legal.ensures.legal; finished = c.requires.finished } in
    let k = c.in-Some.node in
    let all = subst (AllByRecursion (λ j. j < length s.board.nodes)) c.in-Some.ensures.some c.loop-node.invariant.there in
    let seen = visited s final k (status_of c.status_at-status.result) all.0 c.status_at-status.ensures in
    let status = status_of c.status_at-status.result in
    let ways : c.ways-ways.result ≡ ways_of s.question.offers status =
    c.ways-ways.ensures.value
    ∙ ap (λ (x : Offers). ways_of x status) (c.offers-offers.ensures.value ∙ ap (λ (q : Question). q.offers) (c.deref.ensures ∙ c.question.ensures)) in
    let few = subst (λ n. n ≤ 11) ways c.ways-ways.ensures.most in
    let lower = lighter s k c.pop.new.self status final all.0 seen few in
    let pushed : c.push_children.new.self ≡ below (ways_of s.question.offers status) status ++ c.pop.new.self =
    c.in_ok-push_children.ensures ∙ ap (λ n. below n status ++ c.pop.new.self) ways in
    subst (λ ks. weight 12 (length s.board.nodes) ks < weight 12 (length s.board.nodes) c.loop-node.pending) (sym pushed)
    (subst (λ ks. weight 12 (length s.board.nodes) (below (ways_of s.question.offers status) status ++ c.pop.new.self) < weight 12 (length s.board.nodes) ks)
    (sym c.in-Some.ensures.some) lower)

pub loop-node-preserved : goal.loop-node-preserved
loop-node-preserved c =
    let s = c.args.board.now in
    let final : IsFinal s = record { history = c.log-legal.ensures.legal; finished = c.requires.finished } in
    let k = c.in-Some.node in
    let all = subst (AllByRecursion (λ j. j < length s.board.nodes)) c.in-Some.ensures.some c.loop-node.invariant.there in
    let seen = visited s final k (status_of c.status_at-status.result) all.0 c.status_at-status.ensures in
    let status = status_of c.status_at-status.result in
    let ways : c.ways-ways.result ≡ ways_of s.question.offers status =
    c.ways-ways.ensures.value
    ∙ ap (λ (x : Offers). ways_of x status) (c.offers-offers.ensures.value ∙ ap (λ (q : Question). q.offers) (c.deref.ensures ∙ c.question.ensures)) in
    let pushed : c.push_children.new.self ≡ below (ways_of s.question.offers status) status ++ c.pop.new.self =
    c.in_ok-push_children.ensures ∙ ap (λ n. below n status ++ c.pop.new.self) ways in
    let numbers = c.args.numbers.now in
    let old = c.loop-node.items.items in
    let item = c.in_ok-item_at.field-0 in
    let more : map item_of c.push.new.self.items ≡ map item_of old ++ item_at c.args.places.now numbers status ∷ [] =
    ap (map item_of) c.in_ok-push.ensures.items
    ∙ (map-append item_of old (item ∷ []) ∙ ap (λ i. map item_of old ++ i ∷ []) c.in_ok-item_at.ensures.value) in
    let leads = steps s final numbers c.args.places.now k c.pop.new.self status (map item_of old) c.requires.places seen
    (subst (λ ks. LeadsTo s numbers ks (map item_of old)) c.in-Some.ensures.some c.loop-node.invariant.leads) in
    record {
      leads = subst (λ ks. LeadsTo s numbers ks (map item_of c.push.new.self.items)) (sym pushed)
          (subst (LeadsTo s numbers (below (ways_of s.question.offers status) status ++ c.pop.new.self)) (sym more) leads);
      there = subst (AllByRecursion (λ j. j < length s.board.nodes)) (sym pushed)
          (still-there (ways_of s.question.offers status) (length s.board.nodes) c.pop.new.self status seen.below_all all.1);
      sayable = subst (λ is. AreSayable (map item_of is)) (sym c.in_ok-push.ensures.items)
          (sayable_more old item c.loop-node.invariant.sayable c.in_ok-item_at.ensures.small);
    }

pub returns-clause-tree : goal.returns-clause-tree
returns-clause-tree c =
    let s = c.args.board.now in
    let items = c.loop-node.items.items in
    subst (λ is. IsTreeOf s c.args.numbers.now (map item_of is)) (sym c.new-2.ensures)
    (ends s c.args.numbers.now (map item_of items)
    (subst (λ ks. LeadsTo s c.args.numbers.now ks (map item_of items)) c.in_default.ensures.none c.loop-node.invariant.leads))
