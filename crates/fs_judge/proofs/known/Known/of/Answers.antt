use Rattle.std.proofs.Common.{sym, subst, arith}
use Rattle.fs_cert_evidence.specs.Candidates.{Candidate, IsShowing}
use Rattle.fs_verdict_laws.proofs.Back.{showing}
use Rattle.fs_check.specs.Ordered.{execution_in}
use Rattle.fs_judge.proofs.known.Known.of.Goals as goal

pub returns-clause-ok : goal.returns-clause-ok
returns-clause-ok c =
    let t = c.args.test.now in
    let shows = c.requires.shows in
    let shown : IsShowing t _ = subst (λ (d : Candidate). IsShowing t d) (sym c.in_ok-candidate.ensures.is)
    (showing t c.requires.listable shows.0 (execution_in c.args.ordered) shows.1) in
    record {
      made = c.in_ok-candidate.ensures.made;
      operations = omega (arith, c.if-len-gt64.false, c.len.ensures);
      harts = omega (arith, c.if-len-gt8.false, c.len-else-len-gt64.ensures);
      showing = shown;
      base = c.in_ok-base.ensures.ok t c.in_ok-candidate.ensures.made shown.raw;
    }
