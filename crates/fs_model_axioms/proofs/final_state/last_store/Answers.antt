use Rattle.std.proofs.Common.{◌∙◌, ℕ, Bool, List, sym}
use Rattle.fs_model_axioms.specs.Among.{stores_at}
use Rattle.fs_model_axioms.proofs.Listed.{last_more_yes, last_more_no, last_whole}
use Rattle.fs_model_axioms.proofs.final_state.last_store.Goals.{then-stores_at, else-stores_at}
use Rattle.fs_model_axioms.proofs.final_state.last_store.Goals as goal

pub returns : goal.returns
returns c =
    last_whole (stores_at c.args.operations.now c.args.address) c.as_slice-a-items.result.now c.args.order.now c.loop-a.a-index
    c.loop-a.last
    c.as_slice-a-items.ensures c.loop-a-test.false c.loop-a.invariant

pub loop-a-preserved : goal.loop-a-preserved
loop-a-preserved c =
    let test : ℕ → Bool = stores_at c.args.operations.now c.args.address in
    let xs : List ℕ = c.as_slice-a-items.result.now in
    elim c.if-stores_at.branch [
      | then-stores_at w ↦ w.last-is ∙ last_more_yes test xs c.loop-a.a-index c.loop-a-test.true (sym c.stores_at.ensures
          ∙ w.if-stores_at.true)
      | else-stores_at w ↦ w.last-is ∙ c.loop-a.invariant
          ∙ last_more_no test xs c.loop-a.a-index c.loop-a-test.true (sym c.stores_at.ensures ∙ w.if-stores_at.false)
    ]
