use Rattle.std.proofs.Common.{map, Some, sym, ap, ◌∙◌}
use Rattle.std.specs.Arc.{arc_value}
use Rattle.std.proofs.lemmas.List.{map-append}
use Rattle.fs_board_search.proofs.WitnessLists.{picked-more}
use Rattle.fs_board_search.proofs.store.Store.take.Goals as goal

pub returns : goal.returns
returns c = λ t ss all each.
    picked-more t ss c.args.self.now (map arc_value c.args.picked.now.items) (map arc_value c.push.new.self.items) c.in_ok-shared.shared.value c.in-Some.ensures.0
    (ap (map arc_value) c.in_ok-push.ensures.items ∙ map-append arc_value c.args.picked.now.items _)
    (c.in-Some.ensures.1 ∙ ap (λ w. Some w) (sym c.in_ok-shared.ensures)) all each
