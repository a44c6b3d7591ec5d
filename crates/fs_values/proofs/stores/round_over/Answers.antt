use Rattle.std.proofs.Common.{◌≡◌, ◌≢◌, [], ◌∷◌, ◌++◌, length, ap, subst, ◌∙◌, arith}
use Rattle.fs_kinds.specs.declared.fault.Fault.TheVariants.{Memory}
use Rattle.fs_hart.specs.Listing.{IsOffered}
use Rattle.fs_values.specs.Rounds.{IsFirstHartFault}
use Rattle.fs_values.specs.inner.Stores.{stores_in, AreStoresBelow}
use Rattle.fs_values.proofs.Answered.{handed}
use Rattle.fs_values.proofs.Hart.{one_hart_more, one_hart_clean, stored, is_stored, no_fault, real_fault}
use Rattle.fs_values.proofs.Listed.{one_longer, listed_more}
use Rattle.fs_values.proofs.stores.round_over.Goals as goal

pub loop-hart-preserved : goal.loop-hart-preserved
loop-hart-preserved c =
    let t = c.args.test.now in
    let sets = c.args.sets.now in
    let V = IsOffered sets in
    let n = c.loop-hart.hart in
    let old = c.loop-hart.stores.items in
    let new = c.add_all_stores.new.stores.items in
    let traces = c.in_ok-traces.traces.items in
    let listed = c.in_ok-traces.ensures.ok in
    let more : c.push.new.self.items ≡ c.loop-hart.runs.items ++ traces ∷ [] = c.in_ok-push.ensures.items ∙ ap (λ x. c.loop-hart.runs.items ++ x ∷ []) c.new.ensures in
    record {
      stores = one_hart_more t V n old new traces c.loop-hart.invariant.stores
          (c.in_ok-add_all_stores.ensures ∙ ap (λ ts. old ++ stores_in ts) c.deref.ensures.value)
          (stored t sets n traces listed) (is_stored t sets n traces listed);
      clean = one_hart_clean t V n c.loop-hart.invariant.clean (no_fault t sets n traces listed);
      long = one_longer c.loop-hart.runs.items c.push.new.self.items traces n more c.loop-hart.invariant.long;
      listed = listed_more t sets c.loop-hart.runs.items c.push.new.self.items traces n more c.loop-hart.invariant.long c.loop-hart.invariant.listed listed;
    }

pub returns-in_err-traces-clause-err : goal.returns-in_err-traces-clause-err
returns-in_err-traces-clause-err c =
    let t = c.args.test.now in
    let sets = c.args.sets.now in
    let n = c.loop-hart.hart in
    let fault = c.in_err-traces.field-0.0 in
    handed c.from_residual.result fault (λ f. f ≢ Memory → IsFirstHartFault t (IsOffered sets) f) c.from_residual.ensures.1
    (λ differs. record {
      hart = n;
      hart_of_test = omega (arith, c.loop-hart-test.true, ap length c.as_slice-hart-end.ensures);
      met = real_fault t sets n fault c.in_err-traces.ensures.err differs;
      first = c.loop-hart.invariant.clean;
    })

pub returns-clause-stores : goal.returns-clause-stores
returns-clause-stores c =
    let t = c.args.test.now in
    let all : c.loop-hart.hart ≡ length t.codes =
    omega (arith, c.loop-hart-test.false, c.loop-hart.auto.hart-end, ap length c.as_slice-hart-end.ensures) in
    subst (λ n. AreStoresBelow t (IsOffered c.args.sets.now) n c.loop-hart.stores.items) all c.loop-hart.invariant.stores

pub returns-clause-harts : goal.returns-clause-harts
returns-clause-harts c =
    let t = c.args.test.now in
    let all : c.loop-hart.hart ≡ length t.codes =
    omega (arith, c.loop-hart-test.false, c.loop-hart.auto.hart-end, ap length c.as_slice-hart-end.ensures) in
    c.loop-hart.invariant.long ∙ all

pub returns-clause-runs : goal.returns-clause-runs
returns-clause-runs c = c.loop-hart.invariant.listed
