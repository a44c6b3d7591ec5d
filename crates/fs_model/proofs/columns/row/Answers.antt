use Rattle.std.proofs.Common.{ℕ, List, [], ◌++◌, map, codes, slice_index_or, ap, ◌∙◌, arith}
use Rattle.std.proofs.lemmas.List.{take_all}
use Rattle.std.specs.Borrow.{Bor}
use Rattle.fs_model.specs.Printed.{joined}
use Rattle.fs_model.proofs.Texts.{joined-map}
use Rattle.fs_model.proofs.columns.row.Goals as goal

pub returns : goal.returns
returns c =
    let columns = c.args.columns.now in
    let cell = λ (cells : List (List ℕ)). slice_index_or cells c.args.at [] in
    let cells = c.loop-column.invariant ∙ ap (map cell) (take_all c.loop-column.column-index columns (omega arith)) in
    let separator = codes " | " in
    c.in_ok-push_str.ensures.bytes
    ∙ ap (λ line. line ++ codes " ;")
    (c.in_ok-line.ensures.ok ∙ joined-map (λ (piece : Bor (List ℕ)). piece.now) separator c.deref.result.now ∙ ap (λ v. joined separator (map (λ (piece : Bor (List ℕ)). piece.now) v)) c.deref.ensures.value ∙ ap (joined separator) cells)
