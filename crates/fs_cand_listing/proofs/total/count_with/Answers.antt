use Rattle.std.proofs.Common.{◌∙◌, ◌≤◌, ◌*◌, length, map, sym, ap, subst, All}
use Rattle.fs_model.specs.Numbers.{numbers_below}
use Rattle.fs_model.specs.Operations.{operations}
use Rattle.fs_model.specs.Execution.{pre_execution}
use Rattle.fs_hart.specs.Steps.{steps_in}
use Rattle.fs_cand_listing.specs.Ways.{product_by, product_of_lengths}
use Rattle.fs_cand_listing.specs.RawCandidates.{all_sources, own_stores}
use Rattle.fs_cand_listing.specs.inner.Listed.{capped, number_of_orders}
use Rattle.fs_cand_listing.specs.inner.Places.{runs_at}
use Rattle.fs_cand_listing.proofs.Preparing.{can_be_prepared}
use Rattle.fs_cand_listing.proofs.Totals.{factors}
use Rattle.fs_cand_listing.proofs.AllRuns.{count_fits}
use Rattle.fs_cand_listing.proofs.total.count_with.Goals as goal

pub operations-requires-clause-harts : goal.operations-requires-clause-harts
operations-requires-clause-harts c =
    let can = can_be_prepared c.args.test.now c.args.lists.now c.requires.test c.requires.runs c.requires.registers c.args.number c.requires.number in
    subst (λ ts. length ts ≤ 8) (sym (c.as_slice.ensures ∙ c.in_ok-traces.ensures)) can.harts

pub operations-requires-clause-steps : goal.operations-requires-clause-steps
operations-requires-clause-steps c =
    let can = can_be_prepared c.args.test.now c.args.lists.now c.requires.test c.requires.runs c.requires.registers c.args.number c.requires.number in
    subst (λ ts. All (λ trace. length trace.steps ≤ 32) ts) (sym (c.as_slice.ensures ∙ c.in_ok-traces.ensures)) can.short

pub returns-clause-ok : goal.returns-clause-ok
returns-clause-ok c =
    let t = c.args.test.now in
    let traces = runs_at c.args.lists.now c.args.number in
    let x = pre_execution t (steps_in traces) in
    let is = c.as_slice-3.ensures ∙ c.in_ok-operations.ensures.ok
    ∙ ap (λ ts. operations (pre_execution t (steps_in ts))) (c.as_slice.ensures ∙ c.in_ok-traces.ensures) in
    c.count_raw.ensures.exact x is
    ∙ ap (λ ls. capped (product_of_lengths (all_sources x) * product_by number_of_orders (map (own_stores x) (numbers_below (length ls))))) c.as_slice-2.ensures
    ∙ ap capped (factors t (steps_in traces))

pub overflow_cast-locations : goal.overflow_cast-locations
overflow_cast-locations c = count_fits _ (length c.args.test.now.locations) (ap length c.as_slice-2.ensures) c.requires.test.locations
