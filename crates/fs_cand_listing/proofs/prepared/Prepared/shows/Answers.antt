use Rattle.fs_cand_listing.proofs.Kept.{shows_where, shows_not}
use Rattle.fs_cand_listing.proofs.prepared.Prepared.shows.Goals as goal

pub returns-then-has_outcome : goal.returns-then-has_outcome
returns-then-has_outcome c =
    let sources = c.args.sources.now in
    shows_where c.args.test.now c.args.self.now c.requires sources c.args.orders.now c.has_outcome.result c.is_consistent.result
    (c.has_outcome.ensures sources) c.if-has_outcome.true c.is_consistent.ensures

pub returns-else-has_outcome : goal.returns-else-has_outcome
returns-else-has_outcome c =
    let sources = c.args.sources.now in
    shows_not c.args.test.now c.args.self.now c.requires sources c.args.orders.now c.has_outcome.result
    (c.has_outcome.ensures sources) c.if-has_outcome.false
