use Rattle.fs_judge_outcomes.proofs.condition.+all_of.Given as goal

abbrev pub decreases-all_of : goal.decreases-all_of
decreases-all_of l = l.depth
