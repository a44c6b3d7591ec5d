use Rattle.fs_tests.proofs.laws.verdicts_rest_on_candidates.Goals as goal

pub returns-clause-forbidden : goal.returns-clause-forbidden
returns-clause-forbidden c t listed p none allowed = none ((c.cycles_decide.ensures.decides t listed p).0 allowed)

pub returns-clause-grounded : goal.returns-clause-grounded
returns-clause-grounded c t listed = c.nothing_out_of_thin_air.ensures.listed t listed.bounded listed.words listed.no_fault
