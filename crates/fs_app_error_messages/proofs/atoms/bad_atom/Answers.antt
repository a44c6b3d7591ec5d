use Rattle.std.proofs.Common.{arith}
use Rattle.fs_app_error_messages.proofs.BadAtoms.{walked_on, found_at, none_yet, none_at_all}
use Rattle.fs_app_error_messages.proofs.atoms.bad_atom.Goals as goal

pub returns-then-is_bad_behind-clause-bad : goal.returns-then-is_bad_behind-clause-bad
returns-then-is_bad_behind-clause-bad c =
    found_at c.args.columns c.args.tokens.now c.loop-i.i c.loop-i.is_open c.loop-i.invariant.same (c.is_bad_behind.ensures.0 c.if-is_bad_behind.true)

pub returns-then-is_bad_behind-clause-first : goal.returns-then-is_bad_behind-clause-first
returns-then-is_bad_behind-clause-first c = c.loop-i.invariant.before

pub loop-i-preserved : goal.loop-i-preserved
loop-i-preserved c = record {
  same = walked_on c.args.tokens.now c.loop-i.i _ c.opens-is_open.result c.loop-i-test.true c.opens-is_open.ensures;
  before = none_yet c.args.columns c.args.tokens.now c.loop-i.i c.loop-i.is_open c.is_bad_behind.result c.loop-i.invariant.same c.is_bad_behind.ensures c.if-is_bad_behind.false c.loop-i.invariant.before;
}

pub returns-clause-none : goal.returns-clause-none
returns-clause-none c = λ none. none_at_all c.args.columns c.args.tokens.now c.loop-i.i (omega arith) c.loop-i.invariant.before
