use Rattle.std.proofs.Common.{Some, sym, ◌∙◌, ap, subst}
use Rattle.std.specs.Arc.{arc_value}
use Rattle.fs_model.specs.Execution.{initial_words}
use Rattle.fs_cand.specs.Candidates.{rf}
use Rattle.fs_region_refutation.specs.Alone.{RunOf}
use Rattle.fs_region_refutation.specs.declared.lone.Made.{Made}
use Rattle.fs_region_refutation.specs.inner.Tables.{IsAlone}
use Rattle.fs_region_refutation.proofs.ReadyRuns.{is_pair}
use Rattle.fs_region_refutation.proofs.lone.Lone.is_pair.Goals as goal

pub returns-in-Some-Some : goal.returns-in-Some-Some
returns-in-Some-Some c = λ region.
    let run = c.args.self.now in
    let candidate = c.deref.result.now.candidate in
    let alone : IsAlone run.test run.hart run.steps candidate =
    subst (λ (made : Made). IsAlone run.test run.hart run.steps made.candidate) (sym c.deref.ensures)
    (subst (λ (r : RunOf). IsAlone r.test r.hart r.steps (arc_value c.self.inside.made).candidate) c.self.view_is c.self.invariant.0.alone) in
    c.rule.ensures (initial_words c.args.self.now.test) alone.made
    ∙ is_pair c.args.self.now candidate alone region c.args.load c.args.store c.from.result c.from-in-Some-Some.result
    (sym c.number_of.ensures ∙ c.in-Some-Some.is-0 ∙ ap Some (sym c.from.ensures))
    (sym c.number_of-2.ensures ∙ c.in-Some-Some.is-1 ∙ ap Some (sym c.from-in-Some-Some.ensures))
    (rf candidate)
