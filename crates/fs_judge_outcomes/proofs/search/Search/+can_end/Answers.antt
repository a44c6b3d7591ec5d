use Rattle.std.proofs.Common.{◌≡◌, Bool, not, ◌∷◌, ◌∙◌, sym, ap, rules}
use Rattle.fs_model.specs.Condition.{condition_of}
use Rattle.fs_judge_outcomes.specs.inner.Settled.{truth_of}
use Rattle.fs_judge_outcomes.proofs.Searching.{one_seen, dead_end, is_no, end_by, not_by, no_end}
use Rattle.fs_judge_outcomes.proofs.search.Search.+can_end.Goals as goal

pub loop-word-preserved-then-is_truth : goal.loop-word-preserved-then-is_truth
loop-word-preserved-then-is_truth t c =
    let wanted = c.may_go_on.ensures.wanted ∙ c.loop-word.invariant.0 in
    let dead = sym c.in_ok-left.ensures ∙ c.is_truth-in-loop-word.ensures.yes c.if-is_truth.true ∙ ap (λ (b : Bool). truth_of (not b)) wanted in (
      wanted,
      c.may_go_on.ensures.bounded ∙ c.loop-word.invariant.1,
      one_seen _ c.deref-word-items.result.now c.loop-word.word-index 0 c.loop-word.invariant.2 c.loop-word-test.true (dead_end _ _ _ _ _ dead),
    )

pub returns-then-ne-clause-yes : goal.returns-then-ne-clause-yes
returns-then-ne-clause-yes t c = λ yes.
    let split : c.args.firsts.now ≡ c.in-Some.first.now ∷ c.in-Some.rest.now = search rules in
    end_by c.args.location c.in-Some.first.now c.in-Some.rest.now c.args.firsts.now c.args.stored.now (condition_of c.args.condition.now) split
    c.deref-word-items.result.now (c.deref-word-items.ensures.value ∙ c.in_ok-words.ensures) c.args.self.now.wanted c.may_go_on.new.self.wanted
    c.loop-word.word-index (condition_of c.in_ok-left.left) c.loop-word-test.true c.in_ok-left.ensures (c.may_go_on.ensures.wanted ∙ c.loop-word.invariant.0)
    (c.in_ok-found.ensures.yes yes)

pub loop-word-preserved : goal.loop-word-preserved
loop-word-preserved t c =
    let wanted = c.may_go_on.ensures.wanted ∙ c.loop-word.invariant.0 in
    let split : c.args.firsts.now ≡ c.in-Some.first.now ∷ c.in-Some.rest.now = search rules in
    let no = c.in_ok-found.ensures.no (is_no c.in_ok-found.found (sym c.ne.ensures ∙ c.if-ne.false)) in (
      c.can_end.ensures.wanted ∙ wanted,
      c.can_end.ensures.bounded ∙ c.may_go_on.ensures.bounded ∙ c.loop-word.invariant.1,
      one_seen _ c.deref-word-items.result.now c.loop-word.word-index 0 c.loop-word.invariant.2 c.loop-word-test.true
          (not_by c.args.location c.in-Some.first.now c.in-Some.rest.now c.args.firsts.now c.args.stored.now (condition_of c.args.condition.now) split
          c.deref-word-items.result.now (c.deref-word-items.ensures.value ∙ c.in_ok-words.ensures) c.args.self.now.wanted c.may_go_on.new.self.wanted
          _ (condition_of c.in_ok-left.left) c.in_ok-left.ensures wanted no),
    )

pub returns-clause-no : goal.returns-clause-no
returns-clause-no t c = λ no.
    let split : c.args.firsts.now ≡ c.in-Some.first.now ∷ c.in-Some.rest.now = search rules in
    no_end c.args.location c.in-Some.first.now c.in-Some.rest.now c.args.firsts.now c.args.stored.now (condition_of c.args.condition.now) split
    c.deref-word-items.result.now (c.deref-word-items.ensures.value ∙ c.in_ok-words.ensures) c.args.self.now.wanted
    c.loop-word.word-index c.loop-word-test.false c.loop-word.invariant.2
