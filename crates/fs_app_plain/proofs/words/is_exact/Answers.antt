use Rattle.std.proofs.Common.{rules, FitsSigned}
use Rattle.std.specs.Int.{w32}
use Rattle.fs_app_plain.proofs.ExactSteps.{register_exact, immediate_exact, shift_exact, amo_exact, quiet_exact}
use Rattle.fs_app_plain.proofs.words.is_exact.Goals as goal

pub returns-in-Register : goal.returns-in-Register
returns-in-Register c =
    λ fit. register_exact c.args.state.now c.args.step.now c.in-Register.op c.in-Register.rd
    c.in-Register.first c.in-Register.second c.read.result c.read-in-Register.result c.in-Register.is
    c.read.ensures c.read-in-Register.ensures (c.register_fits.ensures fit)

pub returns-in-Immediate : goal.returns-in-Immediate
returns-in-Immediate c =
    let n = c.in-Immediate.imm in
    let range : FitsSigned w32 n = search rules in
    λ fit. immediate_exact c.args.state.now c.args.step.now c.in-Immediate.op c.in-Immediate.rd
    c.in-Immediate.first n c.read-in-Immediate.result c.in-Immediate.is range
    c.read-in-Immediate.ensures (c.immediate_fits.ensures fit)

pub returns-in-Shift : goal.returns-in-Shift
returns-in-Shift c =
    λ fit. shift_exact c.args.state.now c.args.step.now c.in-Shift.op c.in-Shift.rd c.in-Shift.first c.in-Shift.amount
    c.read-in-Shift.result c.in-Shift.is c.read-in-Shift.ensures (c.shift_fits.ensures fit)

pub returns-in-Amo : goal.returns-in-Amo
returns-in-Amo c =
    λ fit. amo_exact c.args.state.now c.args.step.now c.in-Amo.op c.in-Amo.ann c.in-Amo.rd c.in-Amo.value c.in-Amo.base
    c.unwrap_or.result c.read-in-Amo.result c.in-Amo.is c.unwrap_or.ensures c.read-in-Amo.ensures
    (c.amo_fits.ensures fit)

pub returns-in_default : goal.returns-in_default
returns-in_default c =
    λ _. quiet_exact c.args.state.now c.args.step.now c.in_default.not-Register c.in_default.not-Immediate
    c.in_default.not-Shift c.in_default.not-Amo
