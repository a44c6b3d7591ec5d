use Rattle.std.proofs.Common.{◌++◌, ◌∷◌, [], true, false, map, string_bytes, ap, sym, ◌∙◌, arith}
use Rattle.std.specs.List.{enumerate_from}
use Rattle.std.proofs.lemmas.List.{map-append, append-nil}
use Rattle.fs_model.specs.Printed.{cell}
use Rattle.fs_model.proofs.Numbered.{numbered_push, numbered_end}
use Rattle.fs_model.proofs.Texts.{column-made}
use Rattle.fs_model.proofs.columns.column_of.Goals.{then-is_target+in_ok-format+in_ok-push-2, else-is_target}
use Rattle.fs_model.proofs.columns.column_of.Goals as goal

pub loop-at-preserved : goal.loop-at-preserved
loop-at-preserved c =
    numbered_push string_bytes (cell c.args.code.now) c.args.code.now c.loop-at.at c.index-code-at.result c.loop-at.cells.items c.push.new.self.items c.in_ok-cell.field-0
    (omega arith) c.index-code-at.is c.in_ok-push.ensures.items c.loop-at.invariant c.in_ok-cell.ensures

pub returns : goal.returns
returns c =
    let code = c.args.code.now in
    let cells = c.loop-at.invariant ∙ ap (map (cell code)) (numbered_end code c.loop-at.at (omega arith)) in
    elim c.if-is_target.branch [
      | then-is_target+in_ok-format+in_ok-push-2 w ↦
          column-made code true _ (sym c.is_target.ensures ∙ w.if-is_target.true)
          (ap (λ v. map string_bytes v.items) w.cells-is
          ∙ ap (map string_bytes) w.in_ok-push-2.ensures.items
          ∙ map-append string_bytes c.loop-at.cells.items (w.in_ok-format.field-0 ∷ [])
          ∙ ap (λ ys. ys ++ string_bytes w.in_ok-format.field-0 ∷ []) cells
          ∙ ap (λ y. map (cell code) (enumerate_from 0 code) ++ y ∷ []) w.in_ok-format.ensures.ok)
      | else-is_target w ↦
          column-made code false _ (sym c.is_target.ensures ∙ w.if-is_target.false)
          (ap (λ v. map string_bytes v.items) w.cells-is ∙ cells ∙ sym (append-nil _))
    ]
