use Rattle.std.proofs.Common.{◌≡◌, ◌&&◌, drop}
use Rattle.fs_app_audit.specs.Audit.{all_fit, taken_up}
use Rattle.fs_app_audit.proofs.findings.take_up_all.Given as goal

-- what is left makes the same of what there is now
abbrev pub invariant-loop-fence : goal.invariant-loop-fence
invariant-loop-fence l = record {
  fit : all_fit l.prices l.initial.placement l.fences ≡ l.all_fit && all_fit l.prices l.placement (drop l.fence-index l.fences);
  taken : taken_up l.prices l.initial.placement l.fences ≡ taken_up l.prices l.placement (drop l.fence-index l.fences);
}
