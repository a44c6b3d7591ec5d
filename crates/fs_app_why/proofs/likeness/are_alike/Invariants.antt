use Rattle.std.proofs.Common.{◌≡◌, ◌<◌, ℕ, false}
use Rattle.std.specs.List.{zip}
use Rattle.fs_app_why.specs.Kinds.{is_renamed, turned}
use Rattle.fs_app_why.proofs.likeness.are_alike.Given as goal

-- none of the earlier turns is
abbrev pub invariant-loop-from : goal.invariant-loop-from
invariant-loop-from l =
    (k : ℕ) → k < l.from → is_renamed l.texts (zip l.first.links (turned k l.links)) ≡ false
