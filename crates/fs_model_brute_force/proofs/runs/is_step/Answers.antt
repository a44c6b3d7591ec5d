use Rattle.std.proofs.Common.{subst, sym}
use Rattle.std.specs.Option.{option_to_list}
use Rattle.fs_model.specs.Choices.{Makes, StopsAt}
use Rattle.fs_model_brute_force.proofs.Stepwise.{made_decides, stop_decides}
use Rattle.fs_model_brute_force.proofs.runs.is_step.Goals as goal

pub returns-in-Ok : goal.returns-in-Ok
returns-in-Ok c =
    let n = c.args.locations in
    let h = c.args.state.now in
    let i = c.in-Some.instr in
    let m = subst (λ choice. Makes n h i choice c.in-Ok.made) c.choice_by.ensures c.in-Ok.ensures.ok in
    made_decides n c.args.code.now h i c.args.step.now c.in-Ok.made c.eq.result (sym c.in-Some.ensures) m c.eq.ensures

pub returns-in-Err : goal.returns-in-Err
returns-in-Err c =
    let n = c.args.locations in
    let h = c.args.state.now in
    let i = c.in-Some.instr in
    let b = subst (λ choice. StopsAt n h i (option_to_list choice) c.in-Err.field-0) c.choice_by.ensures c.in-Err.ensures.err in
    stop_decides n c.args.code.now h i c.args.step.now c.in-Err.field-0 (sym c.in-Some.ensures) b
