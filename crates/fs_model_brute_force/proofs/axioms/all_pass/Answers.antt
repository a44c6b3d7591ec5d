use Rattle.std.proofs.Common.{◌∙◌, sym}
use Rattle.std.proofs.lemmas.Bool.{false≢true}
use Rattle.fs_model_brute_force.specs.Whole.{pre_execution_of}
use Rattle.fs_model_brute_force.proofs.Deciding.{decided, returning, going_forward}
use Rattle.fs_model_brute_force.proofs.axioms.all_pass.Goals as goal

pub returns-then-not-all_return : goal.returns-then-not-all_return
returns-then-not-all_return c = λ h.
    let x = pre_execution_of c.args.test.now c.args.traces.now in
    false≢true (sym c.if-not-all_return.true ∙ c.all_return.ensures ∙ returning x c.args.placement.now c.args.ordered.now.listed h)

pub returns-then-not-all_go_forward : goal.returns-then-not-all_go_forward
returns-then-not-all_go_forward c = λ h.
    let x = pre_execution_of c.args.test.now c.args.traces.now in
    false≢true (sym c.if-not-all_go_forward.true ∙ c.all_go_forward.ensures
    ∙ going_forward x c.args.placement.now c.args.ordered.now.listed h)

pub returns : goal.returns
returns c =
    decided (pre_execution_of c.args.test.now c.args.traces.now) c.args.placement.now c.args.ordered.now.listed
    c.all_keep_atomicity.result c.requires.once (sym c.all_return.ensures ∙ c.if-not-all_return.false)
    (sym c.all_go_forward.ensures ∙ c.if-not-all_go_forward.false) c.all_keep_atomicity.ensures
