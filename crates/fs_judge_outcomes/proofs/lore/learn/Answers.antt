use Rattle.std.proofs.Common.{◌∙◌, ◌<◌, sym, subst, length}
use Rattle.std.proofs.lemmas.List.Elements.{All-filter}
use Rattle.fs_judge_outcomes.specs.inner.Parts.{is_at, IsPartOf}
use Rattle.fs_judge_outcomes.proofs.lore.learn.Goals as goal

pub has_none-requires-clause-part : goal.has_none-requires-clause-part
has_none-requires-clause-part c =
    let n = length c.args.places.now in
    let own = All-filter (is_at c.in-Some.last.now.index) (λ atom. atom.index < n) c.args.part.now c.requires.part in
    subst (IsPartOf n) (sym (c.as_slice.ensures ∙ c.in_ok-own.ensures)) own
