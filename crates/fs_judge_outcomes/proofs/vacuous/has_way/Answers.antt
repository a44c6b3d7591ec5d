use Rattle.std.proofs.Common.{rules, ◌∙◌}
use Rattle.fs_model.specs.Condition.{condition_of}
use Rattle.fs_judge_outcomes.proofs.Ways.{Asked, has_way, has_none}
use Rattle.fs_judge_outcomes.proofs.vacuous.has_way.Goals as goal

pub returns-clause-yes : goal.returns-clause-yes
returns-clause-yes c =
    let asked : Asked c.test-test.result.now c.args.basis.now c.runs-runs.result.now c.deref.result.now c.deref-2.result.now c.all_ends.new.self.wanted (condition_of c.in_ok-condition.condition) = record {
      same = c.test-test.ensures.value;
      bounded = c.test-test.ensures.bounded;
      all = c.runs-runs.ensures.all;
      of = c.runs-runs.ensures.of;
      lists = c.in-Some.lists.items;
      truth = c.new-search.result.wanted;
      harts = c.len-harts.result;
      truth_is = c.new-search.ensures.wanted ∙ c.is_outcome-wanted.ensures;
      harts_is = c.len-harts.ensures;
      ends = search rules;
      lists_is = c.deref.ensures.value;
      firsts_is = c.deref-2.ensures.value ∙ c.in_ok-firsts.ensures;
      told_is = c.all_ends.ensures.wanted;
      left_is = c.in_ok-condition.ensures;
    } in
    λ is. has_way _ _ _ _ _ _ _ asked (c.in_ok-found.ensures.yes is)

pub returns-clause-no : goal.returns-clause-no
returns-clause-no c =
    let asked : Asked c.test-test.result.now c.args.basis.now c.runs-runs.result.now c.deref.result.now c.deref-2.result.now c.all_ends.new.self.wanted (condition_of c.in_ok-condition.condition) = record {
      same = c.test-test.ensures.value;
      bounded = c.test-test.ensures.bounded;
      all = c.runs-runs.ensures.all;
      of = c.runs-runs.ensures.of;
      lists = c.in-Some.lists.items;
      truth = c.new-search.result.wanted;
      harts = c.len-harts.result;
      truth_is = c.new-search.ensures.wanted ∙ c.is_outcome-wanted.ensures;
      harts_is = c.len-harts.ensures;
      ends = search rules;
      lists_is = c.deref.ensures.value;
      firsts_is = c.deref-2.ensures.value ∙ c.in_ok-firsts.ensures;
      told_is = c.all_ends.ensures.wanted;
      left_is = c.in_ok-condition.ensures;
    } in
    λ is. has_none _ _ _ _ _ _ _ asked (c.in_ok-found.ensures.no is)
