use Rattle.std.proofs.Common.{◌∙◌, All, ap, subst}
use Rattle.fs_model.specs.Runs.{Program}
use Rattle.fs_model.specs.OfTests.{program_of}
use Rattle.fs_model.specs.Test.{IsStart}
use Rattle.fs_values.specs.ThinAir.{CanBeListed}
use Rattle.fs_judge.proofs.Conditions.{can_be_listed}
use Rattle.fs_judge.proofs.problem.Problem.asking.Goals as goal

pub asking-requires-clause-same : goal.asking-requires-clause-same
asking-requires-clause-same c = ap program_of (c.self.invariant.same ∙ c.self.view_is) ∙ c.requires.same

pub invariant_of-result : goal.invariant_of-result
invariant_of-result c = record {
  same = c.in_ok-basis.ensures;
  listable = can_be_listed c.args.self.now c.args.test.value c.requires.same c.requires.bounded
      (subst CanBeListed c.self.view_is c.self.invariant.listable);
  starts = subst (λ (p : Program). All IsStart p.starts) (ap program_of c.self.view_is ∙ c.requires.same) c.self.invariant.starts;
}
