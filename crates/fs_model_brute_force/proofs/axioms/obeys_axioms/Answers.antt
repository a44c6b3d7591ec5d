use Rattle.std.proofs.Common.{◌≡◌, ◌∙◌, ◌==◌, ◌&&◌, ℕ, true, List, length, ap, refl, subst, sym}
use Rattle.std.specs.List.{list_all}
use Rattle.std.proofs.lemmas.Bool.{false≢true}
use Rattle.fs_model.specs.Numbers.{has_number, numbers_below}
use Rattle.fs_model.specs.Operations.{PreExecution, accesses}
use Rattle.fs_model.specs.Source.{lists_each_once}
use Rattle.fs_model_brute_force.specs.Whole.{pre_execution_of}
use Rattle.fs_model_brute_force.proofs.axioms.obeys_axioms.Goals as goal

once_is : (x : PreExecution) (order : List ℕ) (count : ℕ) → count ≡ length (accesses x)
    → ((length order == count) && list_all (has_number order) (numbers_below count)) ≡ lists_each_once x order
once_is x order count e = rw e refl

pub returns-then-not-lists_each_once-clause-ok : goal.returns-then-not-lists_each_once-clause-ok
returns-then-not-lists_each_once-clause-ok c = λ h.
    let x = pre_execution_of c.args.test.now c.args.traces.now in
    let counted = c.count.ensures x (ap (λ o. o.operations) c.in_ok-ordered.ensures.ok ∙ c.in_ok-operations.ensures.ok) in
    let answered = c.lists_each_once.ensures ∙ once_is x c.args.order.now c.count.result counted in
    false≢true (sym c.if-not-lists_each_once.true ∙ answered ∙ h.once)

pub all_pass-requires-clause-once : goal.all_pass-requires-clause-once
all_pass-requires-clause-once c =
    let x = pre_execution_of c.args.test.now c.args.traces.now in
    let counted = c.count.ensures x (ap (λ o. o.operations) c.in_ok-ordered.ensures.ok ∙ c.in_ok-operations.ensures.ok) in
    let answered = c.lists_each_once.ensures ∙ once_is x c.args.order.now c.count.result counted in
    subst (λ listed. lists_each_once x listed ≡ true) (sym (ap (λ o. o.listed) c.in_ok-ordered.ensures.ok))
    (sym answered ∙ c.if-not-lists_each_once.false)
