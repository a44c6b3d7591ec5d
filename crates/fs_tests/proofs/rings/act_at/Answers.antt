use Rattle.std.proofs.Common.{arith}
use Rattle.std.proofs.lemmas.Option.{slice_get_read}
use Rattle.fs_pool.proofs.Linked.{linked_set}
use Rattle.fs_tests.proofs.rings.act_at.Goals as goal

pub returns : goal.returns
returns c linked =
    let hs = c.args.hands.now.items in
    linked_set hs c.args.place c.index_mut.result.now c.act.new.hand (slice_get_read hs c.args.hands.now.len c.args.place c.index_mut.result.now (omega (arith, c.args.hands.now.ok)) c.requires c.index_mut.ensures.value) c.act.ensures linked
