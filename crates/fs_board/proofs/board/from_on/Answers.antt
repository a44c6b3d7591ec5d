use Rattle.std.proofs.Common.{◌≤◌, ◌-◌, length, map, drop, arith, ◌∙◌, ap}
use Rattle.std.proofs.lemmas.List.{take_all, length-drop}
use Rattle.std.specs.Arc.{arc_value}
use Rattle.fs_board.proofs.Children.{map_drop}
use Rattle.fs_board.proofs.board.from_on.Goals as goal

pub returns-then-from-count : goal.returns-then-from-count
returns-then-from-count c =
    let ws = c.args.witnesses.now in
    let within : length (drop c.args.from ws) ≤ length ws - c.args.from = omega (arith, length-drop c.args.from ws) in
    ap (map arc_value) (take_all (length ws - c.args.from) (drop c.args.from ws) within) ∙ map_drop arc_value c.args.from ws
