use Rattle.std.proofs.Common.{◌∙◌, ◌*◌, ap}
use Rattle.fs_cand_listing.specs.inner.Listed.{capped}
use Rattle.fs_cand_listing.proofs.Capped.{capped_product}
use Rattle.fs_cand_listing.proofs.counting.times.Goals as goal

pub returns-clause-exact : goal.returns-clause-exact
returns-clause-exact c =
    c.cap.ensures.exact ∙ ap (λ n. capped (c.args.count * n)) c.cap-factor.ensures.exact ∙ capped_product c.args.count c.args.factor
