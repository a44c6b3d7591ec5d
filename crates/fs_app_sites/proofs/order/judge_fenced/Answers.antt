use Rattle.std.proofs.Common.{Err, ap, subst}
use Rattle.fs_check.specs.Verdicts.{IsVerdict}
use Rattle.fs_app_place_and_order.proofs.Faults.{IfErr-handed}
use Rattle.fs_app_sites.proofs.PlaceFaults.{order-memory, order-witness}
use Rattle.fs_app_sites.proofs.order.judge_fenced.Goals as goal

pub returns-in_err-fences-clause-fault : goal.returns-in_err-fences-clause-fault
returns-in_err-fences-clause-fault c =
    IfErr-handed c.from_residual.result _ _ c.from_residual.ensures.1
    (λ is_free bytes words fences. order-memory _ _ _ _ _ c.in_err-fences.ensures.err)

pub returns-in_err-verdict-clause-fault : goal.returns-in_err-verdict-clause-fault
returns-in_err-verdict-clause-fault c =
    IfErr-handed c.from_residual-in_err-verdict.result _ _ c.from_residual-in_err-verdict.ensures.1
    (λ is_free bytes words fences. order-witness _ _ _ _ _ _ _ _ fences (λ e. c.in_err-verdict.ensures.bad (ap (λ f. Err f) e)) c.in_err-verdict.ensures.err)

pub returns-in_err-verdict_text-clause-fault : goal.returns-in_err-verdict_text-clause-fault
returns-in_err-verdict_text-clause-fault c =
    IfErr-handed c.from_residual-in_err-verdict_text.result _ _ c.from_residual-in_err-verdict_text.ensures.1
    (λ is_free bytes words fences. order-memory _ _ _ _ _ c.in_err-verdict_text.ensures.err)

pub returns-clause-answer : goal.returns-clause-answer
returns-clause-answer c = λ is_free bytes words fences.
    let test = c.args.test.now in
    let found = c.in_ok-verdict.ensures.ok in
    record {
      the_test = test;
      places = c.args.places.now;
      kinds = c.args.kinds.now;
      given = found.0;
      verdict = c.in_ok-verdict.verdict;
      fences = fences;
      says = found.1;
      judged = subst (λ p. IsVerdict test p found.0 c.in_ok-verdict.verdict) c.in_ok-fences.ensures.ok found.2;
      shown = c.in_ok-verdict_text.ensures.ok;
      ends = c.status_of.ensures;
    }
