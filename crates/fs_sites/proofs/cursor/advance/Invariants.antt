use Rattle.std.proofs.Common.{◌≡◌, ◌≤◌, List, length, vec_len}
use Rattle.fs_kinds.specs.declared.placement.Entry.{Entry}
use Rattle.fs_sites.specs.Sinking.{Fills, Begins}
use Rattle.fs_sites.specs.Walks.{is_reached}
use Rattle.fs_sites.proofs.cursor.advance.Given as goal

abbrev pub invariant-loop-last : goal.invariant-loop-last
invariant-loop-last l = record {
  begins : Begins l.offers l.cursor.items;
  short : length l.cursor.items ≤ length l.offers;
  same : (q : List Entry) → Fills l.offers q → is_reached q l.initial.cursor.items ≡ is_reached q l.cursor.items;
}

abbrev pub decreases-loop-last : goal.decreases-loop-last
decreases-loop-last l = vec_len l.cursor
