use Rattle.std.proofs.Common.{◌≡◌, ◌≢◌, ◌+◌, length, subst, sym, ◌∙◌, arith}
use Rattle.fs_kinds.specs.declared.fault.Fault.TheVariants.{Memory}
use Rattle.fs_model.specs.Values.{rounds}
use Rattle.fs_model.specs.TooMany.{IsRunFault}
use Rattle.fs_hart.specs.Listing.{IsOffered}
use Rattle.fs_values.specs.Sets.{AreSets}
use Rattle.fs_values.specs.Rounds.{IsInNext, HasNoFault, IsFirstHartFault}
use Rattle.fs_values.specs.inner.Stores.{AreStoresBelow}
use Rattle.fs_values.proofs.Answered.{handed}
use Rattle.fs_values.proofs.Finished.{AreCleanBefore, same_sets, listable, grounded, no_run_fault, clean_more, next_round, run_fault, values_at_end, clean_to_end}
use Rattle.fs_values.proofs.values.Values.listed.Goals as goal
use Rattle.fs_values.proofs.values.Values.listed.Goals.{After-drop-stores-then-eq, After-drop-branch}

pub joined-requires-clause-stores : goal.joined-requires-clause-stores
joined-requires-clause-stores c =
    let t = c.args.test.now in
    let stored = subst (λ ss. AreStoresBelow t (IsOffered ss) (length t.codes) c.in_ok-runs.field-0.stores.items) (c.deref.ensures.value ∙ c.values.view_is) c.in_ok-runs.ensures.stores in
    subst (AreStoresBelow t (IsOffered c.loop.values) (length t.codes)) (sym c.deref-in-loop.ensures.value) stored

pub loop-preserved : goal.loop-preserved
loop-preserved c =
    let t = c.args.test.now in
    let n = c.loop.counter in
    let sets = c.loop.values in
    record {
      sets = next_round t n sets c.loop.invariant.sets c.in_ok-more.more c.in_ok-more.ensures;
      clean = clean_more t n sets c.loop.invariant.sets c.loop.invariant.clean
          (subst (λ ss. HasNoFault t (IsOffered ss)) (c.deref.ensures.value ∙ c.values.view_is) c.in_ok-runs.ensures.clean);
    }

made : (c : After-drop-stores-then-eq) → AreSets c.args.test.now (IsInNext c.args.test.now (IsOffered c.loop.values)) c.loop.values
made c =
    let sets = c.loop.values in
    same_sets c.in_ok-more.more sets c.as_slice.result.now c.as_slice-in-loop.result.now
    (AreSets c.args.test.now (IsInNext c.args.test.now (IsOffered sets)))
    (c.as_slice.ensures.value ∙ c.more.view_is) (c.as_slice-in-loop.ensures.value ∙ c.values.view_is)
    (sym c.eq.ensures ∙ c.if-eq.true) c.in_ok-more.ensures

clean : (c : After-drop-stores-then-eq) → AreCleanBefore c.args.test.now (rounds c.args.test.now + 1)
clean c =
    clean_to_end c.args.test.now c.loop.counter c.loop.values c.loop.invariant.sets (made c) c.loop.invariant.clean
    (subst (λ ss. HasNoFault c.args.test.now (IsOffered ss)) (c.deref.ensures.value ∙ c.values.view_is) c.in_ok-runs.ensures.clean)

pub returns-then-eq-clause-values : goal.returns-then-eq-clause-values
returns-then-eq-clause-values c =
    values_at_end c.args.test.now c.loop.counter c.loop.values c.loop.invariant.sets (made c)
    (omega (arith, c.loop-test.true, c.rounds-most.ensures))

pub returns-then-eq-clause-clean : goal.returns-then-eq-clause-clean
returns-then-eq-clause-clean c = no_run_fault c.args.test.now (clean c)

pub returns-then-eq-clause-listable : goal.returns-then-eq-clause-listable
returns-then-eq-clause-listable c = listable c.args.test.now c.requires.test c.in_ok-values.ensures.words (clean c)

pub returns-then-eq-clause-grounded : goal.returns-then-eq-clause-grounded
returns-then-eq-clause-grounded c = grounded c.args.test.now c.requires.test c.in_ok-values.ensures.words (clean c)

pub returns-in_err-runs-clause-err : goal.returns-in_err-runs-clause-err
returns-in_err-runs-clause-err c =
    let t = c.args.test.now in
    let fault = c.in_err-runs.field-0.0 in
    handed c.from_residual-in_err-runs.result fault (λ f. f ≢ Memory → IsRunFault t f) c.from_residual-in_err-runs.ensures.1
    (λ differs. run_fault t c.loop.counter c.loop.values c.loop.invariant.sets fault c.loop.invariant.clean
    (omega (arith, c.loop-test.true, c.rounds-most.ensures))
    (subst (λ ss. IsFirstHartFault t (IsOffered ss) fault) (c.deref.ensures.value ∙ c.values.view_is) (c.in_err-runs.ensures.err differs)))

pub returns-in_err-runs-2-clause-err : goal.returns-in_err-runs-2-clause-err
returns-in_err-runs-2-clause-err c =
    let t = c.args.test.now in
    let fault = c.in_err-runs-2.field-0.0 in
    handed c.from_residual-in_err-runs-2.result fault (λ f. f ≢ Memory → IsRunFault t f) c.from_residual-in_err-runs-2.ensures.1
    (λ differs. run_fault t c.loop.counter c.loop.values c.loop.invariant.sets fault c.loop.invariant.clean
    (omega (arith, c.loop.auto.counter-end, c.rounds-most.ensures))
    (subst (λ ss. IsFirstHartFault t (IsOffered ss) fault) (c.deref-2.ensures.value ∙ c.values-2.view_is) (c.in_err-runs-2.ensures.err differs)))

clean_last : (c : After-drop-branch) → AreCleanBefore c.args.test.now (rounds c.args.test.now + 1)
clean_last c =
    let t = c.args.test.now in
    let last : c.loop.counter ≡ rounds t = omega (arith, c.loop-test.false, c.loop.auto.counter-end, c.rounds-most.ensures) in
    subst (λ n. AreCleanBefore t (n + 1)) last
    (clean_more t c.loop.counter c.loop.values c.loop.invariant.sets c.loop.invariant.clean
    (subst (λ ss. HasNoFault t (IsOffered ss)) (c.deref-2.ensures.value ∙ c.values-2.view_is) c.in_ok-runs-2.ensures.clean))

pub returns-clause-clean : goal.returns-clause-clean
returns-clause-clean c = no_run_fault c.args.test.now (clean_last c)

pub returns-clause-listable : goal.returns-clause-listable
returns-clause-listable c = listable c.args.test.now c.requires.test c.in_ok-values.ensures.words (clean_last c)

pub returns-clause-grounded : goal.returns-clause-grounded
returns-clause-grounded c = grounded c.args.test.now c.requires.test c.in_ok-values.ensures.words (clean_last c)
