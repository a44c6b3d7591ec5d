use Rattle.std.proofs.Common.{◌≡◌, None, drop}
use Rattle.fs_model.specs.Placed.{placed}
use Rattle.fs_app_sites.proofs.words.put.Given as goal

-- with the fences that are left they are those with all
abbrev pub invariant-loop-site : goal.invariant-loop-site
invariant-loop-site l = placed None l.kinds (drop l.site-index l.fences) ≡ placed None l.initial.kinds l.fences
