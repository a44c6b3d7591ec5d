use Rattle.std.proofs.Common.{rules, ◌≡◌, Some, false, length, refl, ap, arith}
use Rattle.std.specs.Prelude.{slice_get}
use Rattle.std.proofs.lemmas.Option.{slice_get_read}
use Rattle.fs_model.specs.Trace.{after_step}
use Rattle.fs_model.specs.Choices.{is_choosing}
use Rattle.fs_hart.proofs.Along.{makes_later}
use Rattle.fs_hart.proofs.Leading.{leads_none, leads_more, halts_past, halts_choosing, halts_astray}
use Rattle.fs_hart.proofs.walk.Walk.go_on.Goals as goal

pub loop-instr-init : goal.loop-instr-init
loop-instr-init c = leads_none c.args.locations c.args.code.now c.args.state.now c.args.self.now c.requires.at

pub loop-instr-smaller : goal.loop-instr-smaller
loop-instr-smaller c =
    let code = c.args.code.now in
    let h = c.loop-instr.state in
    let i = c.index-code-from.result in
    let e : slice_get code h.at ≡ Some i = slice_get_read code (length code) h.at i refl (omega arith) (grind (arith, c.index-code-from.is)) in
    let later = makes_later _ code h i _ c.in-Ok.step c.requires.forward (omega arith) e c.in-Ok.ensures.ok in
    let there : c.take.new.self.at ≡ (after_step h c.in-Ok.step).at = ap (λ g. g.at) c.take.ensures in
    omega arith

pub loop-instr-preserved : goal.loop-instr-preserved
loop-instr-preserved c =
    let code = c.args.code.now in
    let h = c.loop-instr.state in
    let i = c.index-code-from.result in
    let e : slice_get code h.at ≡ Some i = slice_get_read code (length code) h.at i refl (omega arith) (grind (arith, c.index-code-from.is)) in
    let quiet : is_choosing i ≡ false = grind (rules, c.is_choosing.ensures, c.if-is_choosing.false) in
    rw c.take.ensures
    (leads_more c.args.locations code c.args.state.now h i c.in-Ok.step c.args.self.now c.loop-instr.self _ c.requires.forward (omega arith) e quiet c.in-Ok.ensures.ok c.loop-instr.invariant c.in_ok-push.ensures.items refl refl refl)

pub returns-then-is_choosing-clause-halts : goal.returns-then-is_choosing-clause-halts
returns-then-is_choosing-clause-halts c =
    let code = c.args.code.now in
    let h = c.loop-instr.state in
    let i = c.index-code-from.result in
    let e : slice_get code h.at ≡ Some i = slice_get_read code (length code) h.at i refl (omega arith) (grind (arith, c.index-code-from.is)) in
    halts_choosing c.args.locations code h i e (grind (rules, c.is_choosing.ensures, c.if-is_choosing.true))

pub returns-in_default-clause-halts : goal.returns-in_default-clause-halts
returns-in_default-clause-halts c =
    let code = c.args.code.now in
    let h = c.loop-instr.state in
    let i = c.index-code-from.result in
    let e : slice_get code h.at ≡ Some i = slice_get_read code (length code) h.at i refl (omega arith) (grind (arith, c.index-code-from.is)) in
    let quiet : is_choosing i ≡ false = grind (rules, c.is_choosing.ensures, c.if-is_choosing.false) in
    let stops = rw c.in_default.is at c.step.ensures.err in
    halts_astray c.args.locations code h i _ e quiet stops

pub returns-clause-halts : goal.returns-clause-halts
returns-clause-halts c = halts_past c.args.locations c.args.code.now c.loop-instr.state (omega arith)
