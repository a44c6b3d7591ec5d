use Rattle.std.proofs.Common.{List, sym, ◌∙◌, ap, subst}
use Rattle.std.specs.Arc.{arc_value}
use Rattle.fs_model.specs.declared.test.Test.{Test}
use Rattle.fs_model.specs.declared.step.Step.{Step}
use Rattle.fs_model.specs.Operations.{steps_of}
use Rattle.fs_hart.specs.Steps.{steps_in}
use Rattle.fs_region_refutation.specs.declared.doings.Doings.{Doings}
use Rattle.fs_region_refutation.specs.declared.lone.Made.{Made}
use Rattle.fs_region_refutation.specs.Beside.{IsBeside}
use Rattle.fs_region_refutation.specs.Alone.{RunOf}
use Rattle.fs_region_refutation.specs.inner.Tables.{IsReady}
use Rattle.fs_region_refutation.proofs.lone.Lone.new.Goals as goal

pub invariant_of-result : goal.invariant_of-result
invariant_of-result c =
    let made = arc_value c.in_ok-new.field-0 in
    let first = c.in_ok-made.made in (
      subst (λ (t : Test). IsReady t c.args.hart made.candidate made.places.items made.numbers.items) (sym c.in_ok-shared.ensures)
          (subst (λ (m : Made). IsReady (arc_value c.args.test.now) c.args.hart m.candidate m.places.items m.numbers.items) (sym c.in_ok-new.ensures.ok)
          (subst (λ (t : Test). IsReady t c.args.hart first.candidate first.places.items first.numbers.items) c.deref.ensures c.in_ok-made.ensures.ready)),
      subst (λ (doings : Doings). IsBeside doings c.args.number (steps_of (steps_in made.candidate.traces) c.args.hart)) (sym c.in_ok-try_clone.ensures)
          (subst (λ (m : Made). IsBeside (arc_value c.args.doings.now) c.args.number (steps_of (steps_in m.candidate.traces) c.args.hart)) (sym c.in_ok-new.ensures.ok)
          (subst (λ (run : List Step). IsBeside (arc_value c.args.doings.now) c.args.number run) (sym c.in_ok-made.ensures.steps) c.requires.beside)),
    )

pub returns-clause-ok : goal.returns-clause-ok
returns-clause-ok c =
    ap {B = RunOf} (λ t. record { test = t; hart = c.args.hart; steps = steps_of (steps_in (arc_value c.in_ok-new.field-0).candidate.traces) c.args.hart })
    c.in_ok-shared.ensures
    ∙ ap {A = Made} {B = RunOf} (λ m. record { test = arc_value c.args.test.now; hart = c.args.hart; steps = steps_of (steps_in m.candidate.traces) c.args.hart })
    c.in_ok-new.ensures.ok
    ∙ ap {B = RunOf} (λ ss. record { test = arc_value c.args.test.now; hart = c.args.hart; steps = ss }) c.in_ok-made.ensures.steps
