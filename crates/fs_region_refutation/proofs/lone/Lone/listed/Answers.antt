use Rattle.std.proofs.Common.{◌∙◌, ap, sym}
use Rattle.fs_region_refutation.specs.declared.doings.Doings.{Doings}
use Rattle.fs_region_refutation.specs.Alone.{RunOf}
use Rattle.fs_region_refutation.specs.Beside.{doing_of, doing_in}
use Rattle.fs_region_refutation.proofs.lone.Lone.listed.Goals as goal

pub returns : goal.returns
returns c = λ doing is.
    c.self.invariant.1 c.args.at doing
    (sym (ap (λ (doings : Doings). doing_in doings c.args.at c.self.inside.number) c.deref.ensures) ∙ sym c.at.ensures ∙ is)
    ∙ ap (λ (run : RunOf). doing_of run.steps c.args.at) c.self.view_is
