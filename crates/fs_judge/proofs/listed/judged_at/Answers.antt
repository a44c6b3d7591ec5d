use Rattle.std.proofs.Common.{subst}
use Rattle.fs_model.specs.declared.test.Test.{Test}
use Rattle.fs_model.specs.Execution.{initial_words}
use Rattle.fs_cand.specs.Candidates.{candidate_of, IsMade}
use Rattle.fs_judge.proofs.Prepared.{showing_at}
use Rattle.fs_judge.proofs.listed.judged_at.Goals as goal

pub judged-requires-clause-showing : goal.judged-requires-clause-showing
judged-requires-clause-showing c =
    showing_at c.args.test.now c.args.showing.now.candidates c.args.number (candidate_of c.in_ok-candidate.candidate) c.requires.listing c.in_ok-candidate.ensures.ok

pub judged-requires-clause-base : goal.judged-requires-clause-base
judged-requires-clause-base c =
    let t = c.args.test.now in
    let candidate = c.in_ok-candidate.candidate in
    let showing = showing_at t c.args.showing.now.candidates c.args.number (candidate_of candidate) c.requires.listing c.in_ok-candidate.ensures.ok in
    c.in_ok-base.ensures.ok t (subst (λ (u : Test). IsMade (initial_words u) candidate) c.requires.test c.in_ok-candidate.ensures.made) showing.raw
