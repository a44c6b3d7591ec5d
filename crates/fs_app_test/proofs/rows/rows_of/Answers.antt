use Rattle.std.proofs.Common.{◌∙◌, ap, sym, flat_map, arith}
use Rattle.std.proofs.lemmas.List.{take_all}
use Rattle.std.proofs.lemmas.List.Folds.{flat_map-map}
use Rattle.fs_app_test.specs.Rows.{said_by}
use Rattle.fs_app_test.proofs.rows.rows_of.Goals as goal

pub returns : goal.returns
returns c =
    c.loop-index.invariant
    ∙ ap (flat_map (λ line. said_by line.now)) (take_all c.loop-index.index c.args.lines.now (omega arith))
    ∙ sym (flat_map-map said_by (λ line. line.now) c.args.lines.now)
