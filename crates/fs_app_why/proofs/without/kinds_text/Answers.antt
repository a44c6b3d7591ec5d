use Rattle.std.proofs.Common.{◌≡◌, ℕ, IfOk, string_bytes, subst}
use Rattle.fs_app_why.specs.Counted.{in_text}
use Rattle.fs_app_why.proofs.without.kinds_text.Goals as goal

pub returns : goal.returns
returns c =
    subst (λ (key : ℕ). IfOk c.in_text.result (λ text. string_bytes text ≡ in_text c.args.telling c.args.kinds.now key))
    c.fence_key.ensures c.in_text.ensures
