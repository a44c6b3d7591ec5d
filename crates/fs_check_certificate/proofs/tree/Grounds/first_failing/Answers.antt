use Rattle.std.proofs.Common.{map, drop, [], ◌∷◌, ◌+◌, ◌∙◌, ap, sym}
use Rattle.fs_cert_json.specs.Kept.{item_of}
use Rattle.fs_check_certificate.proofs.Walking.{undecided_at, starts, first_left, goes_on, fails_here}
use Rattle.fs_check_certificate.proofs.tree.Grounds.first_failing.Goals as goal

pub loop-index-init : goal.loop-index-init
loop-index-init c t cert grounds =
    let judge = c.args.self.now in
    starts t judge.offers.now cert judge.answer.now (map item_of c.args.tree.now) c.in_ok-stack.stack grounds.offered
    (c.in_ok-stack.ensures ∙ ap (λ ss. map undecided_at ss ∷ []) (grounds.slots_are ∙ sym grounds.offered))

pub returns-then-is_some : goal.returns-then-is_some
returns-then-is_some c t cert grounds =
    let judge = c.args.self.now in
    let tree = c.args.tree.now in
    let k = c.loop-index.index in
    let item = c.index-tree-index.result in
    let whole = first_left t judge.offers.now cert judge.answer.now (map item_of tree) c.loop-index.stack tree k item c.loop-index-test.true c.index-tree-index.is (c.loop-index.invariant t cert grounds) in
    fails_here t judge.offers.now cert judge.answer.now (map item_of tree) (map item_of (drop (k + 1) tree)) c.loop-index.stack c.take_item.new.stack (item_of item) k c.in_ok-why.why
    whole (sym c.is_some.ensures ∙ c.if-is_some.true) (c.in_ok-why.ensures t cert grounds whole.0)

pub loop-index-preserved : goal.loop-index-preserved
loop-index-preserved c t cert grounds =
    let judge = c.args.self.now in
    let tree = c.args.tree.now in
    let k = c.loop-index.index in
    let item = c.index-tree-index.result in
    let whole = first_left t judge.offers.now cert judge.answer.now (map item_of tree) c.loop-index.stack tree k item c.loop-index-test.true c.index-tree-index.is (c.loop-index.invariant t cert grounds) in
    goes_on t judge.offers.now cert judge.answer.now (map item_of tree) (map item_of (drop (k + 1) tree)) c.loop-index.stack c.take_item.new.stack (item_of item) k c.in_ok-why.why
    whole (sym c.is_some.ensures ∙ c.if-is_some.false) (c.in_ok-why.ensures t cert grounds whole.0)
