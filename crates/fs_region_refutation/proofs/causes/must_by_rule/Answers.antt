use Rattle.std.proofs.Common.{◌∙◌, Bool, List, ap, sym, subst}
use Rattle.std.specs.List.{list_all}
use Rattle.std.specs.Borrow.{Bor}
use Rattle.std.proofs.lemmas.Bool.{eq-eqb}
use Rattle.fs_kinds.specs.declared.reason.OperationName.{OperationName as Name}
use Rattle.fs_cert_evidence.specs.Musts.{alone, is_rule, knows_enough}
use Rattle.fs_region_refutation.specs.Alone.{RunOf}
use Rattle.fs_region_refutation.specs.Views.{region_of, runs_of, AreRunsOf}
use Rattle.fs_region_refutation.proofs.Lists.{last_of_four, second_of_two}
use Rattle.fs_region_refutation.proofs.causes.must_by_rule.Goals as goal

pub returns-then-is_hart : goal.returns-then-is_hart
returns-then-is_hart c = λ r n.
    let t = c.args.basis.now in
    let region = region_of c.args.region.now in
    let first = c.sourced-first.result in
    let second = c.sourced-second.result in
    let one = c.sourced-first.ensures.name in
    let two = c.sourced-second.ensures.name in
    let are : AreRunsOf t first.name.hart c.runs.result.now =
    subst (λ (m : Name). AreRunsOf t m.hart c.runs.result.now) (sym one)
    (subst (AreRunsOf t c.args.a.hart) (sym c.runs.ensures) (c.requires c.args.a.hart)) in
    let all : Name → Name → List (Bor RunOf) → Bool =
    λ m k runs. list_all (λ run. is_rule t region c.args.placement.now r m k (alone t m.hart run)) (runs_of runs) in
    last_of_four _ _ _ _ _ (eq-eqb c.args.a.hart c.args.b.hart c.if-a-b.true)
    (sym (c.knows_enough.ensures t region r c.sourced-first.ensures.knows c.sourced-second.ensures.knows n
    ∙ ap (λ (m : Name). knows_enough t region r m second.name) one ∙ ap (knows_enough t region r c.args.a) two)
    ∙ c.if-knows_enough.true)
    (sym c.is_hart.ensures ∙ c.if-is_hart.true)
    (c.all_order.ensures t region r are c.sourced-first.ensures.knows c.sourced-second.ensures.knows n
    ∙ ap (λ (m : Name). all m second.name c.runs.result.now) one
    ∙ ap (λ (k : Name). all c.args.a k c.runs.result.now) two
    ∙ ap (all c.args.a c.args.b) c.runs.ensures)

pub returns-else-knows_enough : goal.returns-else-knows_enough
returns-else-knows_enough c = λ r n.
    let t = c.args.basis.now in
    let region = region_of c.args.region.now in
    let second = c.sourced-second.result in
    second_of_two _ _ _ _ (eq-eqb c.args.a.hart c.args.b.hart c.if-a-b.true)
    (sym (c.knows_enough.ensures t region r c.sourced-first.ensures.knows c.sourced-second.ensures.knows n
    ∙ ap (λ (m : Name). knows_enough t region r m second.name) c.sourced-first.ensures.name
    ∙ ap (knows_enough t region r c.args.a) c.sourced-second.ensures.name)
    ∙ c.if-knows_enough.false)
    c.if-knows_enough.false
