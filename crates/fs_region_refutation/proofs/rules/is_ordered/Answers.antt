use Rattle.std.proofs.Common.{ℕ, ◌&&◌, Bool, not, None, Some, sym, ◌∙◌, ap, subst, arith}
use Rattle.std.specs.List.{slice_index_or}
use Rattle.fs_cand.specs.Candidates.{runs_of, rf as listed}
use Rattle.fs_region_refutation.specs.inner.Ordered.{IsOwn, passes_through}
use Rattle.fs_region_refutation.proofs.AskedRuns.{case_two, case_twelve, case_twelve_none, case_other}
use Rattle.fs_region_refutation.proofs.rules.is_ordered.Goals as goal

pub returns-then-rule : goal.returns-then-rule
returns-then-rule c = λ words made rf returns r e.
    let x = runs_of c.args.candidate.now words in
    ap (λ (o : Bool). o && not c.args.returned.are_same) (sym c.if-rule.true)
    ∙ case_two x c.args.placement.now rf (listed c.args.candidate.now) c.args.a c.args.b r c.rule.result (c.rule.ensures words made)
    (ap (λ sources. slice_index_or sources c.args.a None) c.requires) c.args.returned.are_same returns.same (e ∙ c.in-2.is)

pub returns-else-rule : goal.returns-else-rule
returns-else-rule c = λ words made rf returns r e.
    let x = runs_of c.args.candidate.now words in
    c.if-rule.false
    ∙ ap (λ (o : Bool). o && not c.args.returned.are_same) (sym c.if-rule.false)
    ∙ case_two x c.args.placement.now rf (listed c.args.candidate.now) c.args.a c.args.b r c.rule.result (c.rule.ensures words made)
    (ap (λ sources. slice_index_or sources c.args.a None) c.requires) c.args.returned.are_same returns.same (e ∙ c.in-2.is)

pub returns-in-Some-store : goal.returns-in-Some-store
returns-in-Some-store c = λ words made rf returns r e.
    let x = runs_of c.args.candidate.now words in
    let own : IsOwn x (rf c.args.b) (Some c.in-Some-store.m) = subst (IsOwn x (rf c.args.b)) c.in-Some-store.is returns.store in
    c.passes_through.ensures words made
    ∙ ap (λ (m : ℕ). passes_through x (listed c.args.candidate.now) c.args.a m c.args.b) c.from-in-Some-store.ensures
    ∙ case_twelve x c.args.placement.now rf (listed c.args.candidate.now) c.args.a c.args.b r c.in-Some-store.m own (e ∙ c.in-12.is)

pub returns-in-None-store : goal.returns-in-None-store
returns-in-None-store c = λ words made rf returns r e.
    let x = runs_of c.args.candidate.now words in
    case_twelve_none x c.args.placement.now rf (listed c.args.candidate.now) c.args.a c.args.b r
    (subst (IsOwn x (rf c.args.b)) c.in-None-store.is returns.store) (e ∙ c.in-12.is)

pub returns-in_default : goal.returns-in_default
returns-in_default c = λ words made rf returns r e.
    let x = runs_of c.args.candidate.now words in
    c.rule-in_default.ensures words made
    ∙ case_other x c.args.placement.now rf (listed c.args.candidate.now) c.args.a c.args.b r c.args.number e
    (λ k. omega (arith, c.in_default, k)) (λ k. omega (arith, c.in_default, k)) (λ k. omega (arith, c.in_default, k)) (λ k. omega (arith, c.in_default, k))
