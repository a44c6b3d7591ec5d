use Rattle.std.proofs.Common.{option_map, sym, ◌∙◌, subst}
use Rattle.fs_model_axioms.specs.Final.{AreFinal}
use Rattle.fs_check.specs.Verdicts.{IsWholeFile, IsFoundOrder}
use Rattle.fs_check.proofs.Found.{few_made, found_moved}
use Rattle.fs_check.proofs.Verdicts.{short, final, unordered}
use Rattle.fs_check.proofs.order.ordered_by.Goals as goal

pub candidate-requires-clause-steps : goal.candidate-requires-clause-steps
candidate-requires-clause-steps c = short c.args.test.now c.args.file.now c.args.traces c.requires.test c.requires.whole

pub listed-requires-clause-whole : goal.listed-requires-clause-whole
listed-requires-clause-whole c = subst (IsWholeFile c.args.test.now c.args.file.now) (sym c.in_ok-candidate.ensures.traces) c.requires.whole

pub returns-in_default-clause-none : goal.returns-in_default-clause-none
returns-in_default-clause-none c w keeps p =
    let candidate = c.in_ok-candidate.candidate in
    unordered c.args.test.now p c.args.file.now w keeps candidate
    (subst (IsWholeFile c.args.test.now c.args.file.now) (sym c.in_ok-candidate.ensures.traces) c.requires.whole)
    (subst (λ found. IsFoundOrder c.args.test.now candidate w (option_map (λ listed. listed.items) found)) c.in_default.is (c.in_ok-listed.ensures.ok w keeps))

pub arrange-requires-clause-few : goal.arrange-requires-clause-few
arrange-requires-clause-few c =
    few_made c.args.test.now c.args.file.now c.in_ok-candidate.candidate c.requires.test c.in_ok-candidate.ensures.made
    (subst (IsWholeFile c.args.test.now c.args.file.now) (sym c.in_ok-candidate.ensures.traces) c.requires.whole)

pub returns-clause-last : goal.returns-clause-last
returns-clause-last c =
    subst (AreFinal c.args.test.now) (sym (c.in_ok-arrange.ensures.same.traces ∙ c.in_ok-candidate.ensures.traces))
    (final c.args.test.now c.args.file.now c.args.traces c.requires.test.starts c.requires.whole)

pub returns-clause-some : goal.returns-clause-some
returns-clause-some c w keeps = (
  subst (IsWholeFile c.args.test.now c.args.file.now) (sym (c.in_ok-arrange.ensures.same.traces ∙ c.in_ok-candidate.ensures.traces)) c.requires.whole,
  found_moved c.args.test.now c.in_ok-candidate.candidate c.in_ok-arrange.field-0 w c.in-Some.listed.items c.in_ok-arrange.ensures.same
      (subst (λ found. IsFoundOrder c.args.test.now c.in_ok-candidate.candidate w (option_map (λ listed. listed.items) found)) c.in-Some.is (c.in_ok-listed.ensures.ok w keeps)),
)
