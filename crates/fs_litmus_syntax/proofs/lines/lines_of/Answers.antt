use Rattle.std.proofs.Common.{append-nil, [], ◌∷◌, ◌++◌, ◌∙◌, sym, ap, take}
use Rattle.fs_litmus_syntax.specs.inner.Listings.{marked}
use Rattle.fs_litmus_syntax.specs.Lines.{lines_of}
use Rattle.fs_litmus_syntax.proofs.LineLemmas.{lines_next}
use Rattle.fs_litmus_syntax.proofs.lines.lines_of.Goals as goal
use Rattle.fs_litmus_syntax.proofs.lines.lines_of.Goals.{in-Instruction+in_ok-push-in-Instruction, in-Label}

pub loop-mark-preserved : goal.loop-mark-preserved
loop-mark-preserved c = λ code.
    let seen = c.deref-mark-items.result.now in
    let at = c.loop-mark.mark-index in
    let done = lines_of (marked code (take at seen)) in
    elim c.match-mark.branch [
      | in-Instruction+in_ok-push-in-Instruction w ↦
          ap (λ v. v.items) w.lines-is ∙ w.in_ok-push-in-Instruction.ensures.items
          ∙ ap (λ l. l ++ w.in-Instruction.line ∷ []) (c.loop-mark.invariant code)
          ∙ sym (lines_next code seen at _ _ c.loop-mark-test.true w.in-Instruction.is)
      | in-Label w ↦
          ap (λ v. v.items) w.lines-is ∙ c.loop-mark.invariant code
          ∙ sym (lines_next code seen at _ _ c.loop-mark-test.true w.in-Label.is ∙ append-nil done)
    ]
