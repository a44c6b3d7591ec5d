use Rattle.std.proofs.Common.{rules, ◌+◌, ◌∷◌, [], ◌∙◌, sym, subst, ap, List, ◌++◌}
use Rattle.std.specs.List.{slice_index_or}
use Rattle.fs_model.specs.Condition.{condition_of}
use Rattle.fs_judge_outcomes.specs.declared.end.End.{End}
use Rattle.fs_judge_outcomes.specs.inner.Runs.{AreEnds}
use Rattle.fs_judge_outcomes.proofs.Seen.{FirstEnds, first_next}
use Rattle.fs_judge_outcomes.proofs.search.Search.all_ends.Goals as goal

pub loop-hart-preserved : goal.loop-hart-preserved
loop-hart-preserved c =
    let wanted = c.args.self.now.wanted in
    let condition = condition_of c.args.condition.now in
    let runs = slice_index_or c.args.runs.now c.loop-hart.hart [] in
    let found : AreEnds c.loop-hart.self.wanted condition c.loop-hart.hart c.runs_of.result.now c.in-Some.ends.items = search rules in
    let here = subst (λ w. AreEnds w condition c.loop-hart.hart runs c.in-Some.ends.items) c.loop-hart.invariant.0
    (subst (λ rs. AreEnds c.loop-hart.self.wanted condition c.loop-hart.hart rs c.in-Some.ends.items) c.runs_of.ensures found) in
    let pushed = c.in_ok-push.ensures.items ∙ ap (λ (es : List End). c.loop-hart.lists.items ++ es ∷ []) c.new.ensures in (
      c.ends_of.ensures.wanted ∙ c.loop-hart.invariant.0,
      c.ends_of.ensures.bounded ∙ c.loop-hart.invariant.1,
      subst (FirstEnds wanted condition c.args.runs.now (c.loop-hart.hart + 1)) (sym pushed)
          (first_next wanted condition c.args.runs.now c.loop-hart.hart c.loop-hart.lists.items c.in-Some.ends.items c.loop-hart.invariant.2 here),
    )
