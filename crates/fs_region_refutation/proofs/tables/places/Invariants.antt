use Rattle.std.proofs.Common.{◌≡◌, Some, take}
use Rattle.fs_model.specs.declared.step.Step.{Step}
use Rattle.fs_region_refutation.proofs.Firsts.{firsts}
use Rattle.fs_region_refutation.proofs.tables.places.Given as goal

abbrev pub invariant-loop-place : goal.invariant-loop-place
invariant-loop-place l = l.table.items ≡ firsts (λ (s : Step). Some s.at) l.positions (take l.place l.steps)
