use Rattle.std.proofs.Common.{◌≡◌, None, sym, subst}
use Rattle.std.specs.Arc.{arc_value}
use Rattle.fs_model.specs.Operations.{steps_of}
use Rattle.fs_hart.specs.Steps.{steps_in}
use Rattle.fs_cert_evidence.specs.Musts.{number_of}
use Rattle.fs_region_refutation.specs.Alone.{RunOf, execution_of}
use Rattle.fs_region_refutation.proofs.Others.{other_hart}
use Rattle.fs_region_refutation.proofs.lone.Lone.number_of.Goals as goal

pub returns-else-name-self : goal.returns-else-name-self
returns-else-name-self c =
    subst (λ (run : RunOf). None ≡ number_of (execution_of run) c.args.name) c.self.view_is
    (sym (other_hart (arc_value c.self.inside.test) c.self.inside.hart (steps_of (steps_in (arc_value c.self.inside.made).candidate.traces) c.self.inside.hart) c.args.name
    c.if-name-self.false))
