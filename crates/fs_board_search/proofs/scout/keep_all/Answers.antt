use Rattle.std.proofs.Common.{Some, option_map, sym, ap, ◌∙◌, arith}
use Rattle.std.specs.Arc.{arc_value}
use Rattle.std.proofs.lemmas.Option.{slice_get-map, slice_get-get_or}
use Rattle.fs_board_search.proofs.scout.keep_all.Goals as goal

pub returns-in_err-keep_new : goal.returns-in_err-keep_new
returns-in_err-keep_new c = λ t ss all each.
    let ws = c.args.witnesses.now in
    let i = c.loop-witness.witness-index in
    let item = c.witness-item.result in
    let at = slice_get-map arc_value ws i ∙ ap (option_map arc_value) (slice_get-get_or ws i item (omega arith) ∙ ap (λ w. Some w) (sym c.witness-item.is)) in
    c.keep_new.ensures t ss (all i item.value at) (c.loop-witness.invariant t ss all each)

pub loop-witness-preserved : goal.loop-witness-preserved
loop-witness-preserved c = λ t ss all each.
    let ws = c.args.witnesses.now in
    let i = c.loop-witness.witness-index in
    let item = c.witness-item.result in
    let at = slice_get-map arc_value ws i ∙ ap (option_map arc_value) (slice_get-get_or ws i item (omega arith) ∙ ap (λ w. Some w) (sym c.witness-item.is)) in
    c.keep_new.ensures t ss (all i item.value at) (c.loop-witness.invariant t ss all each)
