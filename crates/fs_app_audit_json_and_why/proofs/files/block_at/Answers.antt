use Rattle.std.proofs.Common.{ℕ, Bool, List, subst}
use Rattle.fs_app_audit_json_and_why.specs.Files.{IsObjectBlock}
use Rattle.fs_app_audit_json_and_why.proofs.files.block_at.Goals as goal

pub returns-then-is_same : goal.returns-then-is_same
returns-then-is_same c =
    subst (λ (prices : List ℕ). IsObjectBlock c.args.is_anew prices c.found.inside.block) (c.is_same.ensures c.if-is_same.true)
    (subst (λ (is_anew : Bool). IsObjectBlock is_anew c.found.inside.prices.now c.found.inside.block) (c.is_alike.ensures c.if-is_alike.true)
    c.found.invariant)
