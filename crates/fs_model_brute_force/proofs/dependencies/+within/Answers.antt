use Rattle.std.proofs.Common.{◌-◌, sym, ◌∙◌}
use Rattle.fs_model_brute_force.specs.inner.Dependencies.{leads_through}
use Rattle.fs_model_brute_force.proofs.Between.{any_next, any_here}
use Rattle.fs_model_brute_force.proofs.Chains.{within_next}
use Rattle.fs_model_brute_force.proofs.dependencies.+within.Goals as goal

pub depends_within-loop-m-init : goal.depends_within-loop-m-init
depends_within-loop-m-init t c =
    within_next c.args.distance c.args.steps.now c.args.i c.args.j c.args.register c.if-distance-eq0.false
    (sym c.writes_last.ensures ∙ c.if-writes_last.false)

pub depends_within-returns-then-leads_through : goal.depends_within-returns-then-leads_through
depends_within-returns-then-leads_through t c =
    let test = leads_through (c.args.distance - 1) c.args.steps.now c.args.i c.args.j c.args.register in
    let passes = sym c.leads_through.ensures ∙ c.if-leads_through.true in
    sym (any_here test c.loop-m.m c.args.j c.loop-m-test.true passes) ∙ c.loop-m.invariant

pub depends_within-loop-m-preserved : goal.depends_within-loop-m-preserved
depends_within-loop-m-preserved t c =
    let test = leads_through (c.args.distance - 1) c.args.steps.now c.args.i c.args.j c.args.register in
    let fails = sym c.leads_through.ensures ∙ c.if-leads_through.false in
    any_next test c.loop-m.m c.args.j c.loop-m-test.true fails ∙ c.loop-m.invariant
