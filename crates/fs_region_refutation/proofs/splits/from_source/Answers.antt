use Rattle.fs_region_refutation.proofs.splits.from_source.Goals as goal

pub returns-in_ok-from_initial-in-Initial-clause-of : goal.returns-in_ok-from_initial-in-Initial-clause-of
returns-in_ok-from_initial-in-Initial-clause-of c = c.in_ok-from_initial-in-Initial.ensures.of
