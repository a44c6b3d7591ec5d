use Rattle.std.proofs.Common.{Some, sym, ◌∙◌, ap, subst}
use Rattle.std.specs.Arc.{arc_value}
use Rattle.fs_model.specs.Execution.{initial_words}
use Rattle.fs_cert_evidence.specs.Musts.{known_source}
use Rattle.fs_region_refutation.specs.Alone.{RunOf, execution_of}
use Rattle.fs_region_refutation.specs.declared.lone.Made.{Made}
use Rattle.fs_region_refutation.specs.inner.Tables.{IsAlone}
use Rattle.fs_region_refutation.proofs.ReadyRuns.{is_rule_at, returned}
use Rattle.fs_region_refutation.proofs.lone.Lone.is_rule.Goals as goal

pub returns-in-Some-Some : goal.returns-in-Some-Some
returns-in-Some-Some c = λ region one two r e.
    let candidate = c.deref.result.now.candidate in
    let alone : IsAlone c.args.self.now.test c.args.self.now.hart c.args.self.now.steps candidate =
    subst (λ (made : Made). IsAlone c.args.self.now.test c.args.self.now.hart c.args.self.now.steps made.candidate) (sym c.deref.ensures)
    (subst (λ (run : RunOf). IsAlone run.test run.hart run.steps (arc_value c.self.inside.made).candidate) c.self.view_is c.self.invariant.0.alone) in
    let first = sym c.number_of.ensures ∙ c.in-Some-Some.is-0 ∙ ap Some (sym c.from-a.ensures) in
    let second = sym c.number_of-2.ensures ∙ c.in-Some-Some.is-1 ∙ ap Some (sym c.from-b.ensures) in
    c.is_ordered.ensures (initial_words c.args.self.now.test) alone.made (known_source c.args.self.now.test region (execution_of c.args.self.now))
    (returned c.args.self.now candidate alone region c.args.first c.args.second c.from-a.result c.from-b.result first second one two
    (record { are_same = c.are_same.result; store = c.own_store.result }) (c.are_same.ensures region) (c.own_store.ensures region))
    r e
    ∙ is_rule_at c.args.self.now candidate alone region c.args.placement.now r c.args.first.name c.args.second.name c.from-a.result c.from-b.result first second
