use Rattle.std.proofs.Common.{◌≡◌, map, take, true}
use Rattle.std.specs.List.{list_all}
use Rattle.fs_litmus.specs.inner.Kept.{instrs_of, is_short}
use Rattle.fs_litmus.proofs.limits.kept_codes.Given as goal

abbrev pub invariant-loop-hart : goal.invariant-loop-hart
invariant-loop-hart l = record {
  codes : l.codes.items ≡ map instrs_of (take l.hart-index l.kept);
  short : list_all is_short (take l.hart-index l.kept) ≡ true;
}
