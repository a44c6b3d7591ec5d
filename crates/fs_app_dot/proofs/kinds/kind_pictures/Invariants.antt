use Rattle.std.specs.List.{range_with_len}
use Rattle.fs_app_dot.specs.Kinds.{AreOf, IsOfNumber}
use Rattle.fs_app_dot.proofs.kinds.kind_pictures.Given as goal

-- the kinds so far
abbrev pub invariant-loop-number : goal.invariant-loop-number
invariant-loop-number l =
    AreOf (IsOfNumber l.page.test.now l.page.title.now l.telling l.kinds) (range_with_len 0 l.number) l.pictures.items
