use Rattle.std.proofs.Common.{option_map, sym, ◌∙◌, ap}
use Rattle.fs_model.specs.Execution.{initial_words}
use Rattle.fs_hart.specs.Steps.{steps_in}
use Rattle.fs_cand.specs.Candidates.{runs_of}
use Rattle.fs_check.proofs.Found.{few_made, few_names, once_is, order_found, no_name, not_once}
use Rattle.fs_check.proofs.order.listed.Goals as goal

pub numbers-requires : goal.numbers-requires
numbers-requires c =
    few_names c.deref.result.now _ c.as_slice-operations.result.now _ (c.deref.ensures.value ∙ c.in_ok-names.ensures.ok) c.as_slice-operations.ensures
    (few_made c.args.test.now c.args.file.now c.args.candidate.now c.requires.test c.requires.made c.requires.whole)

pub returns-in_default-clause-ok : goal.returns-in_default-clause-ok
returns-in_default-clause-ok c w keeps =
    no_name c.args.test.now c.args.file.now c.args.candidate.now c.requires.test c.requires.made c.requires.whole c.deref.result.now c.as_slice-2.result.now
    c.as_slice-operations.result.now _ (c.deref.ensures.value ∙ c.in_ok-names.ensures.ok) (ap steps_in c.as_slice.ensures) c.as_slice-operations.ensures c.as_slice-2.ensures
    w keeps (sym (ap (option_map (λ order. order.items)) c.in_default.is) ∙ c.in_ok-listed.ensures.ok)

pub returns-then-lists_each_once-clause-ok : goal.returns-then-lists_each_once-clause-ok
returns-then-lists_each_once-clause-ok c w keeps = (
  order_found c.args.test.now c.args.file.now c.args.candidate.now c.requires.test c.requires.made c.requires.whole c.deref.result.now c.as_slice-2.result.now
      c.as_slice-operations.result.now _ (c.deref.ensures.value ∙ c.in_ok-names.ensures.ok) (ap steps_in c.as_slice.ensures) c.as_slice-operations.ensures c.as_slice-2.ensures
      w keeps c.in-Some.listed.items (sym (ap (option_map (λ order. order.items)) c.in-Some.is) ∙ c.in_ok-listed.ensures.ok),
  once_is (runs_of c.args.candidate.now (initial_words c.args.test.now)) c.in-Some.listed.items c.deref-2.result.now c.count_accesses.result c.lists_each_once.result
      c.lists_each_once.ensures (c.count_accesses.ensures.count (runs_of c.args.candidate.now (initial_words c.args.test.now)) (c.as_slice-operations.ensures ∙ c.requires.made.operations))
      c.deref-2.ensures.value ∙ c.if-lists_each_once.true,
)

pub returns-clause-ok : goal.returns-clause-ok
returns-clause-ok c w keeps =
    not_once c.args.test.now c.args.file.now c.args.candidate.now c.requires.test c.requires.made c.requires.whole c.deref.result.now c.as_slice-2.result.now
    c.as_slice-operations.result.now _ (c.deref.ensures.value ∙ c.in_ok-names.ensures.ok) (ap steps_in c.as_slice.ensures) c.as_slice-operations.ensures c.as_slice-2.ensures
    w keeps c.in-Some.listed.items (sym (ap (option_map (λ order. order.items)) c.in-Some.is) ∙ c.in_ok-listed.ensures.ok)
    (once_is (runs_of c.args.candidate.now (initial_words c.args.test.now)) c.in-Some.listed.items c.deref-2.result.now c.count_accesses.result c.lists_each_once.result
    c.lists_each_once.ensures (c.count_accesses.ensures.count (runs_of c.args.candidate.now (initial_words c.args.test.now)) (c.as_slice-operations.ensures ∙ c.requires.made.operations))
    c.deref-2.ensures.value ∙ c.if-lists_each_once.false)
