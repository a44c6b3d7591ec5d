use Rattle.std.proofs.Common.{refl}
use Rattle.fs_model.proofs.GrowingLists.{has_number-more, stands_before-more}
use Rattle.fs_model.proofs.numbers.stands_before.Goals as goal

pub loop-number-preserved : goal.loop-number-preserved
loop-number-preserved c = record {
  past = rw (
    c.from-number.ensures,
    has_number-more c.args.listed.now c.loop-number.number-index c.args.a c.loop-number-test.true,
    c.loop-number.invariant.past,
  ) refl;
  before = rw (
    c.from-number.ensures,
    stands_before-more c.args.listed.now c.loop-number.number-index c.args.a c.args.b c.loop-number-test.true,
    c.loop-number.invariant.past,
    c.loop-number.invariant.before,
  ) refl;
}
