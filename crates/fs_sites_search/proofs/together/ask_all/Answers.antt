use denote.Param.Send.{sendable}
use Rattle.std.proofs.Common.{arith, ◌<◌, sym, subst, ◌∙◌}
use Rattle.std.proofs.lemmas.List.{same_lists}
use Rattle.fs_sites_search.proofs.Crosses.{seat_send}
use Rattle.fs_sites_search.proofs.together.ask_all.Goals as goal

pub for_each_mut-requires-send-T : goal.for_each_mut-requires-send-T
for_each_mut-requires-send-T g c κs within = search (seat_send, sendable) depth 12 fits 20000

-- each call leaves its seat as it was
pub returns : goal.returns
returns g c =
    let same = c.for_each_mut.auto.s in
    same_lists c.for_each_mut.new.s c.args.seats.now same
    (λ k d low.
    let there = (c.for_each_mut.ensures k d (subst (λ n. k < n) same low)).1 in
    sym there.left ∙ (grind (arith, there.call) ∙ there.argument_is))
