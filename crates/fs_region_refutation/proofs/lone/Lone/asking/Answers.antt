use Rattle.std.proofs.Common.{◌∙◌, ap, sym, subst}
use Rattle.std.specs.Arc.{arc_value}
use Rattle.fs_model.specs.declared.test.Test.{Test}
use Rattle.fs_model.specs.OfTests.{program_of}
use Rattle.fs_model.specs.Operations.{steps_of}
use Rattle.fs_hart.specs.Steps.{steps_in}
use Rattle.fs_region_refutation.specs.declared.doings.Doings.{Doings}
use Rattle.fs_region_refutation.specs.declared.lone.Made.{Made}
use Rattle.fs_region_refutation.specs.Beside.{IsBeside}
use Rattle.fs_region_refutation.specs.Alone.{RunOf}
use Rattle.fs_region_refutation.specs.inner.Tables.{IsReady}
use Rattle.fs_region_refutation.proofs.Programs.{carried, still_ready}
use Rattle.fs_region_refutation.proofs.lone.Lone.asking.Goals as goal

pub invariant_of-result : goal.invariant_of-result
invariant_of-result c =
    let old = arc_value c.self.inside.made in
    let same = ap (λ (run : RunOf). program_of run.test) c.self.view_is ∙ c.requires in
    let ready = carried (λ (t : Test). IsReady t c.self.inside.hart old.candidate old.places.items old.numbers.items)
    (still_ready c.self.inside.hart old.candidate old.places.items old.numbers.items) (arc_value c.self.inside.test) (arc_value c.args.test.now) same c.self.invariant.0 in (
      subst (λ (t : Test). IsReady t c.self.inside.hart (arc_value c.in_ok-try_clone.field-0).candidate
          (arc_value c.in_ok-try_clone.field-0).places.items (arc_value c.in_ok-try_clone.field-0).numbers.items) (sym c.in_ok-shared.ensures)
          (subst (λ (made : Made). IsReady (arc_value c.args.test.now) c.self.inside.hart made.candidate made.places.items made.numbers.items)
          (sym c.in_ok-try_clone.ensures) ready),
      subst (λ (doings : Doings). IsBeside doings c.self.inside.number (steps_of (steps_in (arc_value c.in_ok-try_clone.field-0).candidate.traces) c.self.inside.hart))
          (sym c.in_ok-try_clone-2.ensures)
          (subst (λ (made : Made). IsBeside (arc_value c.self.inside.doings) c.self.inside.number (steps_of (steps_in made.candidate.traces) c.self.inside.hart))
          (sym c.in_ok-try_clone.ensures) c.self.invariant.1),
    )
