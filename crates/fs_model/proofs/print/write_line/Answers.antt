use Rattle.std.proofs.Common.{[], ◌∷◌, ◌++◌, codes, map, string_bytes, ap, sym, ◌∙◌}
use Rattle.std.proofs.lemmas.List.{append_assoc}
use Rattle.fs_model.specs.Printed.{joined}
use Rattle.fs_model.proofs.Texts.{joined-map, line_of-some}
use Rattle.fs_model.proofs.print.write_line.Goals as goal

pub returns-in_ok-push_str-2 : goal.returns-in_ok-push_str-2
returns-in_ok-push_str-2 c =
    let old = string_bytes c.args.text.now in
    let pieces = map string_bytes c.args.pieces.now in
    let line = c.as_str.ensures.value ∙ c.in_ok-join.ensures.ok ∙ joined-map string_bytes (codes " ") c.args.pieces.now in
    c.in_ok-push_str-2.ensures.bytes
    ∙ ap (λ t. t ++ 10 ∷ []) (c.in_ok-push_str.ensures.bytes ∙ ap (λ l. old ++ l) line)
    ∙ append_assoc old (joined (codes " ") pieces) (10 ∷ [])
    ∙ ap (λ l. old ++ l) (line_of-some string_bytes c.args.pieces.now (sym c.is_empty.ensures ∙ c.if-not-is_empty.true))
