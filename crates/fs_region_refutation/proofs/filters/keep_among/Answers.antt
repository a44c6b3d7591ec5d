use Rattle.std.proofs.Common.{sym, ◌∙◌}
use Rattle.std.specs.Borrow.{Bor}
use Rattle.std.proofs.lemmas.Bool.{eqb-true}
use Rattle.fs_region_refutation.specs.Alone.{RunOf}
use Rattle.fs_region_refutation.specs.inner.Pairs.{pair_at}
use Rattle.fs_region_refutation.proofs.Pairs.{kept_none}
use Rattle.fs_region_refutation.proofs.filters.keep_among.Goals as goal

pub returns-then-is_empty : goal.returns-then-is_empty
returns-then-is_empty c =
    c.new-then-is_empty.ensures
    ∙ c.new.ensures.items
    ∙ kept_none (λ (run : Bor RunOf). pair_at c.args.access c.args.at run.now.steps) c.args.pairs.now
    (eqb-true _ 0 (sym c.is_empty.ensures ∙ c.if-is_empty.true)) c.args.runs.now
