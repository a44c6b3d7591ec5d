use Rattle.std.proofs.Common.{◌∙◌, ◌++◌, ap}
use Rattle.fs_cand_listing.specs.inner.Places.{runs_at}
use Rattle.fs_cand_listing.proofs.runs.runs_at.Goals as goal

pub returns : goal.returns
returns c = c.new.ensures ∙ c.in_ok-push_runs.ensures ∙ ap (λ xs. xs ++ runs_at c.args.lists.now c.args.number) c.new-traces.ensures.items
