use Rattle.std.proofs.Common.{◌∙◌}
use Rattle.fs_judge_outcomes.proofs.Asking.{asks}
use Rattle.fs_judge_outcomes.proofs.sought.asking.Goals as goal

pub returns-clause-ok : goal.returns-clause-ok
returns-clause-ok c =
    asks c.args.test.now c.args.places.now c.args.part.now c.in_ok-condition.condition _ (c.in_ok-new.ensures.ok ∙ c.in_ok-asked.ensures)
    c.requires.bounded c.requires.places c.in_ok-condition.ensures.holds c.in_ok-condition.ensures.depth c.in_ok-condition.ensures.speaks
