use Rattle.std.proofs.Common.{◌≡◌, Bool, List, not, ◌∷◌, ◌++◌, ◌∙◌, sym, ap, rules}
use Rattle.fs_model.specs.Condition.{condition_of}
use Rattle.fs_judge_outcomes.specs.declared.end.Known.{Known}
use Rattle.fs_judge_outcomes.specs.declared.end.Stored.{Stored}
use Rattle.fs_judge_outcomes.specs.inner.Settled.{truth_of}
use Rattle.fs_judge_outcomes.specs.inner.Ends.{with_hart}
use Rattle.fs_judge_outcomes.proofs.Searching.{one_item, item_in, dead_show, is_no, show_by, not_shown_by, no_show}
use Rattle.fs_judge_outcomes.proofs.search.Search.+can_show.Goals as goal

pub loop-end-preserved-then-is_truth : goal.loop-end-preserved-then-is_truth
loop-end-preserved-then-is_truth t c =
    let wanted = c.may_go_on.ensures.wanted ∙ c.loop-end.invariant.0 in
    let left = c.in_ok-left.ensures ∙ ap (λ (ks : List Known). with_hart c.args.hart ks (condition_of c.args.condition.now)) c.deref.ensures in
    let dead = sym left ∙ c.is_truth.ensures.yes c.if-is_truth.true ∙ ap (λ (b : Bool). truth_of (not b)) wanted in (
      wanted,
      c.may_go_on.ensures.bounded ∙ c.loop-end.invariant.1,
      one_item _ c.as_slice-end-items.result.now c.loop-end.end-index c.end-item.result c.loop-end.invariant.2 c.loop-end-test.true c.end-item.is
          (dead_show _ _ _ _ _ _ dead),
    )

pub returns-then-ne-clause-yes : goal.returns-then-ne-clause-yes
returns-then-ne-clause-yes t c = λ yes.
    let split : c.args.lists.now ≡ c.in-Some.ends.now ∷ c.in-Some.rest.now = search rules in
    let left = c.in_ok-left.ensures ∙ ap (λ (ks : List Known). with_hart c.args.hart ks (condition_of c.args.condition.now)) c.deref.ensures in
    let longer = c.deref-in-loop-end-2.ensures.value ∙ c.in_ok-longer.ensures ∙ ap (λ (ss : List Stored). c.args.stored.now ++ ss) c.deref-in-loop-end.ensures in
    show_by c.args.hart c.as_slice-end-items.result.now c.in-Some.rest.now c.args.lists.now c.args.firsts.now c.args.stored.now (condition_of c.args.condition.now)
    (split ∙ ap (λ es. es ∷ c.in-Some.rest.now) (sym c.as_slice-end-items.ensures))
    c.args.self.now.wanted c.may_go_on.new.self.wanted c.end-item.result c.deref-in-loop-end-2.result.now (condition_of c.in_ok-left.left)
    (item_in c.as_slice-end-items.result.now c.loop-end.end-index c.end-item.result c.loop-end-test.true c.end-item.is)
    longer left (c.may_go_on.ensures.wanted ∙ c.loop-end.invariant.0) (c.in_ok-found.ensures.yes yes)

pub loop-end-preserved : goal.loop-end-preserved
loop-end-preserved t c =
    let wanted = c.may_go_on.ensures.wanted ∙ c.loop-end.invariant.0 in
    let split : c.args.lists.now ≡ c.in-Some.ends.now ∷ c.in-Some.rest.now = search rules in
    let left = c.in_ok-left.ensures ∙ ap (λ (ks : List Known). with_hart c.args.hart ks (condition_of c.args.condition.now)) c.deref.ensures in
    let longer = c.deref-in-loop-end-2.ensures.value ∙ c.in_ok-longer.ensures ∙ ap (λ (ss : List Stored). c.args.stored.now ++ ss) c.deref-in-loop-end.ensures in
    let never = c.in_ok-found.ensures.no (is_no c.in_ok-found.found (sym c.ne.ensures ∙ c.if-ne.false)) in (
      c.can_show.ensures.wanted ∙ wanted,
      c.can_show.ensures.bounded ∙ c.may_go_on.ensures.bounded ∙ c.loop-end.invariant.1,
      one_item _ c.as_slice-end-items.result.now c.loop-end.end-index c.end-item.result c.loop-end.invariant.2 c.loop-end-test.true c.end-item.is
          (not_shown_by c.args.hart c.as_slice-end-items.result.now c.in-Some.rest.now c.args.lists.now c.args.firsts.now c.args.stored.now (condition_of c.args.condition.now)
          (split ∙ ap (λ es. es ∷ c.in-Some.rest.now) (sym c.as_slice-end-items.ensures))
          c.args.self.now.wanted c.may_go_on.new.self.wanted c.end-item.result c.deref-in-loop-end-2.result.now (condition_of c.in_ok-left.left) longer left wanted never),
    )

pub returns-clause-no : goal.returns-clause-no
returns-clause-no t c = λ no.
    let split : c.args.lists.now ≡ c.in-Some.ends.now ∷ c.in-Some.rest.now = search rules in
    no_show c.args.hart c.as_slice-end-items.result.now c.in-Some.rest.now c.args.lists.now c.args.firsts.now c.args.stored.now (condition_of c.args.condition.now)
    (split ∙ ap (λ es. es ∷ c.in-Some.rest.now) (sym c.as_slice-end-items.ensures)) c.args.self.now.wanted
    c.loop-end.end-index c.loop-end-test.false c.loop-end.invariant.2
