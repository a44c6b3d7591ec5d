use Rattle.std.proofs.Common.{rules, Bool, ◌≡◌, ◌∙◌, ap, sym, subst, ℕ, ◌+◌, List, ◌∷◌, ◌++◌, length, map, take, drop, string_bytes}
use Rattle.std.proofs.Math.Seq.{take-length}
use Rattle.std.specs.Bool.{OnFalse}
use Rattle.std.specs.BTreeSet.{contains, IsUnchanged}
use Rattle.fs_app_states.specs.Left.{left_over}
use Rattle.fs_app_states.specs.declared.log.Block.{Block}
use Rattle.fs_app_states.proofs.Naming.{order, Holds, IsLeft, holds_more, left_new, left_known, names_next, names_left, was_new, was_known}
use Rattle.fs_app_states.proofs.left.left_over.Goals.{then-branch+in_ok-push_line, else-branch}
use Rattle.fs_app_states.proofs.left.left_over.Goals as goal

-- src/left.rt:17:5
pub loop-name-preserved : goal.loop-name-preserved
loop-name-preserved c =
    subst (λ (names : List (List ℕ)). Holds c.insert.new.self names)
    (names_next string_bytes c.args.names.now c.loop-name.name-index c.name-item.result c.as_str.result.now c.loop-name-test.true c.name-item.is
    c.as_str.ensures.value)
    (holds_more c.loop-name.named c.insert.new.self c.as_str.result _ c.loop-name.invariant c.in_ok-insert.ensures.updates)

-- src/left.rt:21:5
pub loop-block-init : goal.loop-block-init
loop-block-init c =
    let end : c.loop-name.name-index ≡ length c.args.names.now = search rules in
    let holds : Holds c.loop-name.named (map string_bytes c.args.names.now) =
    subst (λ names. Holds c.loop-name.named (map string_bytes names))
    (ap (λ (i : ℕ). take i c.args.names.now) end ∙ take-length c.args.names.now) c.loop-name.invariant in (
      map string_bytes c.args.names.now,
      holds,
      ap (λ (bytes : List ℕ). bytes ++ left_over (map string_bytes c.args.names.now) (map (λ block. block.name.now) c.args.log.now)) c.new-text.ensures.bytes,
    )

-- src/left.rt:21:5
pub loop-block-preserved : goal.loop-block-preserved
loop-block-preserved c =
    let names = map string_bytes c.args.names.now in
    let name_of : Block → List ℕ = λ block. block.name.now in
    let whole = map name_of c.args.log.now in
    let rest = map name_of (drop (c.loop-block.block-index + 1) c.args.log.now) in
    let set = c.loop-block.named in
    let after = c.insert-in-loop-block.new.self in
    let key = c.block-item.result.name in
    let text = string_bytes c.loop-block.text in
    let before : IsLeft text set names (key.now ∷ rest) whole =
    subst (λ (left : List (List ℕ)). IsLeft text set names left whole)
    (ap (λ (log : List Block). map name_of (drop c.loop-block.block-index log)) (sym c.as_slice-block-items.ensures)
    ∙ names_left name_of c.as_slice-block-items.result.now c.loop-block.block-index c.block-item.result c.loop-block-test.true c.block-item.is
    ∙ ap (λ (log : List Block). key.now ∷ map name_of (drop (c.loop-block.block-index + 1) log)) c.as_slice-block-items.ensures)
    c.loop-block.invariant in
    elim c.if-branch.branch [
      | then-branch+in_ok-push_line w ↦
          subst (λ (bytes : List ℕ). IsLeft bytes after names rest whole) (sym (ap string_bytes w.text-is ∙ w.in_ok-push_line.ensures))
          (left_new text set after key names rest whole before
          (was_new c.in_ok-insert-2.field-0 (contains order set key) c.in_ok-insert-2.ensures.added w.if-branch.true)
          c.in_ok-insert-2.ensures.updates)
      | else-branch w ↦
          subst (λ (bytes : List ℕ). IsLeft bytes after names rest whole) (sym (ap string_bytes w.text-is))
          (left_known text set after key names rest whole before
          (was_known c.in_ok-insert-2.field-0 (contains order set key) c.in_ok-insert-2.ensures.added w.if-branch.false)
          (subst (λ (added : Bool). OnFalse added (IsUnchanged set after)) w.if-branch.false c.in_ok-insert-2.ensures.unchanged))
    ]
