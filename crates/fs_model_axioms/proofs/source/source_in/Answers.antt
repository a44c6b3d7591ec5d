use Rattle.std.proofs.Common.{◌≡◌, ◌∙◌, ℕ, Bool, List, refl, sym}
use Rattle.fs_model.specs.declared.operation.Operation.{Operation}
use Rattle.fs_model.specs.Operations.{PreExecution, operations}
use Rattle.fs_model.specs.Source.{gmo, source_in}
use Rattle.fs_model_axioms.specs.Among.{may_return, source_among}
use Rattle.fs_model_axioms.proofs.Listed.{last_more_yes, last_more_no, last_whole}
use Rattle.fs_model_axioms.proofs.source.source_in.Goals.{then-may_return, else-may_return}
use Rattle.fs_model_axioms.proofs.source.source_in.Goals as goal

in_order : (x : PreExecution) (ops : List Operation) (order listed : List ℕ) (load : ℕ) → ops ≡ operations x
    → order ≡ gmo x listed
    → source_among ops order load ≡ source_in x listed load
in_order x ops order listed load e g = rw (e, g) refl

pub returns : goal.returns
returns c = λ x listed e g.
    last_whole (may_return c.args.operations.now c.args.order.now c.args.load) c.as_slice-s-items.result.now c.args.order.now
    c.loop-s.s-index c.loop-s.source
    c.as_slice-s-items.ensures c.loop-s-test.false c.loop-s.invariant
    ∙ in_order x c.args.operations.now c.args.order.now listed c.args.load e g

pub loop-s-preserved : goal.loop-s-preserved
loop-s-preserved c =
    let test : ℕ → Bool = may_return c.args.operations.now c.args.order.now c.args.load in
    let xs : List ℕ = c.as_slice-s-items.result.now in
    elim c.if-may_return.branch [
      | then-may_return w ↦ w.source-is ∙ last_more_yes test xs c.loop-s.s-index c.loop-s-test.true (sym c.may_return.ensures
          ∙ w.if-may_return.true)
      | else-may_return w ↦ w.source-is ∙ c.loop-s.invariant
          ∙ last_more_no test xs c.loop-s.s-index c.loop-s-test.true (sym c.may_return.ensures ∙ w.if-may_return.false)
    ]
