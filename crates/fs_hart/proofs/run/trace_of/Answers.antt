use Rattle.std.proofs.Common.{rules, ◌≡◌, is_some, if◌then◌else◌, ◌++◌, [], ◌∷◌, Some, length, refl, sym, ap, subst, arith}
use Rattle.std.specs.Prelude.{slice_get}
use Rattle.std.proofs.lemmas.Option.{slice_get_read}
use Rattle.fs_model.specs.Test.{GoesForward}
use Rattle.fs_model.specs.Trace.{after_step}
use Rattle.fs_hart.proofs.Along.{along_more, along_stop, makes_later, code_forward, stops_by}
use Rattle.fs_hart.proofs.run.trace_of.Goals as goal

pub returns-in-Err-clause-ok : goal.returns-in-Err-clause-ok
returns-in-Err-clause-ok c =
    let code = c.code_of-code.result.now in
    let h = c.loop-code.state in
    let e : slice_get code h.at ≡ Some c.index-code-from.result = slice_get_read code (length code) h.at c.index-code-from.result refl (omega arith) (grind (arith, c.index-code-from.is)) in
    let stop = along_stop _ code _ _ c.loop-code.used h c.loop-code.steps.items c.index-code-from.result c.next_choice-choice.result c.in-Err.stop c.loop-code.invariant e c.next_choice-choice.ensures c.in-Err.ensures.err in
    rw c.stopped.ensures (stops_by c.args.test.now c.args.hart c.args.choices.now c.as_slice.result.now code c.loop-code.steps.items c.in-Err.stop c.as_slice.ensures c.code_of-code.ensures stop)

pub loop-code-smaller : goal.loop-code-smaller
loop-code-smaller c =
    let code = c.code_of-code.result.now in
    let h = c.loop-code.state in
    let forward : GoesForward code = subst GoesForward (sym c.code_of-code.ensures) (code_forward c.args.test.now c.args.hart c.requires.test.forward c.requires.hart) in
    let e : slice_get code h.at ≡ Some c.index-code-from.result = slice_get_read code (length code) h.at c.index-code-from.result refl (omega arith) (grind (arith, c.index-code-from.is)) in
    let later = makes_later _ code h c.index-code-from.result c.next_choice-choice.result c.in-Ok.step forward (omega arith) e c.in-Ok.ensures.ok in
    let there : c.take.new.self.at ≡ (after_step h c.in-Ok.step).at = ap (λ g. g.at) c.take.ensures in
    omega arith

pub loop-code-preserved : goal.loop-code-preserved
loop-code-preserved c =
    let code = c.code_of-code.result.now in
    let h = c.loop-code.state in
    let forward : GoesForward code = subst GoesForward (sym c.code_of-code.ensures) (code_forward c.args.test.now c.args.hart c.requires.test.forward c.requires.hart) in
    let e : slice_get code h.at ≡ Some c.index-code-from.result = slice_get_read code (length code) h.at c.index-code-from.result refl (omega arith) (grind (arith, c.index-code-from.is)) in
    let more = along_more _ code _ _ c.loop-code.used h c.loop-code.steps.items c.index-code-from.result c.next_choice-choice.result c.in-Ok.step forward c.loop-code.invariant (omega arith) e c.next_choice-choice.ensures c.in-Ok.ensures.ok in
    let pushed : c.push.new.self.items ≡ c.loop-code.steps.items ++ c.in-Ok.step ∷ [] = c.in_ok-push.ensures.items in
    let counted : c.from-used.result ≡ (if is_some c.next_choice-choice.result then 1 else 0) = search rules in
    rw (c.take.ensures, pushed, counted) more
