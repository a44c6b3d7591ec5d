use Rattle.std.proofs.Common.{arith, rules}
use Rattle.fs_app_sites.specs.Sites.{copy_value}
use Rattle.fs_app_sites.proofs.Added.{stands-before, stands-there}
use Rattle.fs_app_sites.proofs.free.place_among.Goals as goal

pub returns-then-eq-clause-none : goal.returns-then-eq-clause-none
returns-then-eq-clause-none c =
    λ prefix. stands-there prefix c.args.slot copy_value c.args.copies.now c.loop-at.at c.index-copies-at.result (omega arith)
    c.index-copies-at.is (c.loop-at.invariant prefix) (search rules)

pub returns-then-is_before-clause-some : goal.returns-then-is_before-clause-some
returns-then-is_before-clause-some c =
    λ prefix. stands-before prefix c.args.slot copy_value c.args.copies.now c.loop-at.at c.index-copies-at.result (omega arith)
    c.index-copies-at.is (c.loop-at.invariant prefix) (search rules) (search rules)
