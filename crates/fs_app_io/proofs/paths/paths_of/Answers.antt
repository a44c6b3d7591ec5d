use Rattle.std.proofs.Common.{◌∙◌, ap, sym, flat_map, arith}
use Rattle.std.proofs.lemmas.List.{take_all}
use Rattle.std.proofs.lemmas.List.Folds.{flat_map-map}
use Rattle.fs_app_io.specs.Paths.{path_of}
use Rattle.fs_app_io.proofs.paths.paths_of.Goals as goal

pub returns : goal.returns
returns c =
    c.loop-line.invariant
    ∙ ap (flat_map (λ line. path_of c.args.list.now line.now)) (take_all c.loop-line.line-index c.args.lines.now (omega arith))
    ∙ sym (flat_map-map (path_of c.args.list.now) (λ line. line.now) c.args.lines.now)
