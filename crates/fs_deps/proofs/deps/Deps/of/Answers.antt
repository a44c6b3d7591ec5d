use Rattle.std.proofs.Common.{◌≡◌, ◌+◌, Some, length, arith, refl, ap, ◌∙◌, sym, subst}
use Rattle.std.specs.Prelude.{slice_get}
use Rattle.std.proofs.lemmas.Option.{slice_get_read}
use Rattle.std.proofs.lemmas.List.{length-append}
use Rattle.fs_model.specs.Operations.{instr_at}
use Rattle.fs_deps.specs.Tracker.{AreMasks}
use Rattle.fs_deps.proofs.Listed.{EachIsMasks, each_none, each_more, deps_of}
use Rattle.fs_deps.proofs.deps.Deps.of.Goals as goal

pub loop-j-init : goal.loop-j-init
loop-j-init c =
    let steps = c.args.trace.now.steps in
    let none = c.in_ok-masks.ensures.items in
    (c.new-tracker.ensures steps, ap length none, subst (EachIsMasks steps) (sym none) (each_none steps))

pub loop-j-preserved : goal.loop-j-preserved
loop-j-preserved c =
    let steps = c.args.trace.now.steps in
    let j = c.loop-j.j in
    let step = c.step-item.result in
    let walked = c.steps-step-items.result.now in
    let all_steps : walked ≡ steps = c.steps-step-items.ensures in
    let read = slice_get_read walked (length walked) j step refl c.loop-j-test.true c.step-item.is in
    let there : slice_get steps j ≡ Some step = subst (λ xs. slice_get xs j ≡ Some step) all_steps read in
    let here : instr_at steps j ≡ step.instr = rw there refl in
    let tracked = c.loop-j.invariant.0 in
    let listed = c.loop-j.invariant.1 in
    let pushed = c.in_ok-push.ensures.items in (
      c.take.ensures steps here tracked,
      ap length pushed ∙ length-append c.loop-j.masks.items _ ∙ ap (λ n. n + 1) listed,
      subst (EachIsMasks steps) (sym pushed)
          (each_more steps c.loop-j.masks.items c.masks.result c.loop-j.invariant.2
          (subst (λ n. AreMasks steps n c.masks.result) (sym listed) (c.masks.ensures steps j here tracked))),
    )

pub returns-clause-ok : goal.returns-clause-ok
returns-clause-ok c =
    let all : c.loop-j.j ≡ length c.args.trace.now.steps = omega (arith, ap length c.steps-step-items.ensures) in
    deps_of c.args.trace.now.steps c.loop-j.masks.items (c.loop-j.invariant.1 ∙ all) c.loop-j.invariant.2
