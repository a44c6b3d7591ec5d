use Rattle.std.proofs.Common.{◌∙◌}
use Rattle.fs_sites_search.proofs.Asked.{forbid-more, forbids-here}
use Rattle.fs_sites_search.proofs.seats.first_allowing.Goals as goal

pub loop-number-preserved : goal.loop-number-preserved
loop-number-preserved c =
    let seats = c.args.seats.now in
    let number = c.loop-number.number in
    let same = c.loop-number.invariant.same in
    let here = forbids-here seats c.loop-number.seats number same c.in_ok-witness.field-0 c.in_default.is c.in_ok-witness.ensures.ok in
    record {
      same = c.said_of.ensures.same ∙ same;
      forbid = forbid-more seats number here c.loop-number.invariant.forbid;
    }
