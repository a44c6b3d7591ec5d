use Rattle.fs_cand.specs.Candidates.{candidate_of}
use Rattle.fs_judge.proofs.judging.judged.Goals as goal

pub widest_witness-requires-clause-rows : goal.widest_witness-requires-clause-rows
widest_witness-requires-clause-rows c = c.under-rows.ensures c.args.test.now (candidate_of c.args.candidate.now) c.requires.base

pub returns-in_ok-links-in-Cycle-clause-ok : goal.returns-in_ok-links-in-Cycle-clause-ok
returns-in_ok-links-in-Cycle-clause-ok c =
    c.in_ok-links-in-Cycle.ensures.ok c.args.test.now c.requires.made c.requires.showing.raw
    (c.under-rows.ensures c.args.test.now (candidate_of c.args.candidate.now) c.requires.base)
