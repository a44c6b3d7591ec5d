use Rattle.std.proofs.Common.{[], ◌∷◌, ◌++◌, string_bytes, ap, ◌∙◌}
use Rattle.std.proofs.lemmas.List.{append_assoc}
use Rattle.fs_model.specs.Printed.{ended, row}
use Rattle.fs_model.proofs.Numbered.{range_text}
use Rattle.fs_model.proofs.columns.write_rows.Goals as goal

pub loop-at-preserved : goal.loop-at-preserved
loop-at-preserved c =
    let columns = c.args.columns.now in
    let old = string_bytes c.loop-at.text in
    let line = c.as_str.ensures.value ∙ c.in_ok-row.ensures in
    range_text (λ at. ended (row columns at)) c.loop-at.at (string_bytes c.args.text.now) old (string_bytes c.push_str-in-loop-at.new.self)
    (c.in_ok-push_str-2.ensures.bytes ∙ ap (λ t. t ++ 10 ∷ []) (c.in_ok-push_str.ensures.bytes ∙ ap (λ l. old ++ l) line) ∙ append_assoc old (row columns c.loop-at.at) (10 ∷ []))
    c.loop-at.invariant
