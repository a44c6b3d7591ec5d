use Rattle.std.proofs.Common.{◌≡◌, Option, List, map, length, drop, sym, ◌∙◌, ap, ap₂}
use Rattle.std.specs.Prelude.{option_map}
use Rattle.std.specs.Arc.{arc_value}
use Rattle.fs_kinds.specs.declared.placement.Entry.{Entry}
use Rattle.fs_board_offers.specs.Board.{Board, Seen}
use Rattle.fs_cert_evidence.specs.Evidence.{Shown, Refuted, witness_in, placement_in}
use Rattle.fs_board.specs.Growth.{Tree, board_of}
use Rattle.fs_board.specs.View.{Search}
use Rattle.fs_board.proofs.Backed.{plain_bound, plain_witnesses}
use Rattle.fs_board.proofs.Children.{map_drop, length_map}
use Rattle.fs_board.proofs.board.Board.seen.Goals as goal

pub returns-clause-value : goal.returns-clause-value
returns-clause-value c =
    let tree : Tree = c.self.inside.tree in
    let b : Board = board_of tree in
    let bound : option_map placement_in c.in_ok-bound.bound ≡ b.bound =
    sym (plain_bound c.in_ok-bound.bound) ∙ ap (option_map (λ (f : Refuted). f.placement)) c.in_ok-bound.ensures in
    let ws = c.witnesses-witnesses.result.now in
    let plain : map (λ (w : Shown). w.witness) (map arc_value ws) ≡ b.witnesses = ap (map (λ (w : Shown). w.witness)) c.witnesses-witnesses.ensures in
    let count : length ws ≡ length b.witnesses = sym (length_map witness_in ws) ∙ ap length (sym (plain_witnesses ws) ∙ plain) in
    let shown : map witness_in c.new-shown.result ≡ drop c.args.from b.witnesses =
    sym (plain_witnesses c.new-shown.result)
    ∙ (ap (map (λ (w : Shown). w.witness)) (ap (map arc_value) c.new-shown.ensures ∙ (c.in_ok-share.ensures ∙ c.from_on.ensures))
    ∙ (map_drop (λ (w : Shown). w.witness) c.args.from (map arc_value ws) ∙ ap (drop c.args.from) plain)) in
    ap (λ (x : Option (List Entry)). Seen x (length ws) (map witness_in c.new-shown.result)) bound
    ∙ (ap₂ (λ n vs. Seen b.bound n vs) count shown ∙ ap (λ (x : Search). Seen x.board.bound (length x.board.witnesses) (drop c.args.from x.board.witnesses)) c.self.view_is)
