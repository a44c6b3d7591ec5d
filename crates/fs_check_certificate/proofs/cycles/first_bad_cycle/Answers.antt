use Rattle.std.proofs.Common.{◌≡◌, true, false, sym, ◌∙◌, arith}
use Rattle.fs_model.specs.Execution.{initial_words}
use Rattle.fs_cand.specs.Candidates.{candidate_of}
use Rattle.fs_check_certificate.specs.Cycles.{is_cycle_at}
use Rattle.fs_check_certificate.proofs.Verdicts.{get_is, one_more, at_number, other_many, all_cycles, first_bad}
use Rattle.fs_check_certificate.proofs.cycles.first_bad_cycle.Goals as goal

pub returns-then-cycles-len-clause-ok : goal.returns-then-cycles-len-clause-ok
returns-then-cycles-len-clause-ok c = λ said kept.
    let showing = c.args.showing.now in
    other_many showing.test c.args.placement.now showing.candidates c.args.cycles.now said c.requires.test c.requires.listing kept (λ same. omega (arith, same))

pub returns-then-not-branch-clause-ok : goal.returns-then-not-branch-clause-ok
returns-then-not-branch-clause-ok c = λ said kept.
    let showing = c.args.showing.now in
    let p = c.args.placement.now in
    let cycles = c.args.cycles.now in
    let k = c.loop-index.index in
    let candidate = candidate_of c.in_ok-candidate.candidate in
    let fails : c.in_ok-is_cycle.field-0 ≡ false = grind (arith, c.if-not-branch.true) in
    let here = get_is cycles k c.deref.result.now _ c.loop-index-test.true (c.deref.ensures ∙ c.index-cycles-index.is) in
    let is : is_cycle_at showing.test p showing.candidates cycles k ≡ false =
    at_number showing.test p showing.candidates cycles k candidate c.deref.result.now c.in_ok-candidate.ensures.ok here
    ∙ sym (c.in_ok-is_cycle.ensures.ok (initial_words showing.test) c.in_ok-candidate.ensures.made) ∙ fails in
    first_bad showing.test p showing.candidates cycles said c.requires.test c.requires.listing kept k (omega arith) c.loop-index-test.true c.loop-index.invariant is

pub loop-index-preserved : goal.loop-index-preserved
loop-index-preserved c =
    let showing = c.args.showing.now in
    let p = c.args.placement.now in
    let cycles = c.args.cycles.now in
    let k = c.loop-index.index in
    let candidate = candidate_of c.in_ok-candidate.candidate in
    let passes : c.in_ok-is_cycle.field-0 ≡ true = grind (arith, c.if-not-branch.false) in
    let here = get_is cycles k c.deref.result.now _ c.loop-index-test.true (c.deref.ensures ∙ c.index-cycles-index.is) in
    let is : is_cycle_at showing.test p showing.candidates cycles k ≡ true =
    at_number showing.test p showing.candidates cycles k candidate c.deref.result.now c.in_ok-candidate.ensures.ok here
    ∙ sym (c.in_ok-is_cycle.ensures.ok (initial_words showing.test) c.in_ok-candidate.ensures.made) ∙ passes in
    one_more (is_cycle_at showing.test p showing.candidates cycles) k c.loop-index.invariant is

pub returns-clause-ok : goal.returns-clause-ok
returns-clause-ok c = λ said kept.
    let showing = c.args.showing.now in
    all_cycles showing.test c.args.placement.now showing.candidates c.args.cycles.now said c.requires.test c.requires.listing kept (omega arith)
    (λ k low. c.loop-index.invariant k (omega (arith, low)))
