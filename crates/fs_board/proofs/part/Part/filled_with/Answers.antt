use Rattle.std.proofs.Common.{◌≤◌, length, ◌∙◌, ap, sym, arith}
use Rattle.fs_board.specs.inner.Fills.{put_all}
use Rattle.fs_board.proofs.Filling.{put_end, filled}
use Rattle.fs_board.proofs.part.Part.filled_with.Goals as goal

pub returns : goal.returns
returns c =
    let part = c.args.self.now in
    let test = c.loop-decision-test.false in
    let same = ap length c.as_slice-decision-items.ensures.value in
    let past : length part ≤ c.loop-decision.decision-index = omega arith in
    sym (put_end part c.loop-decision.decision-index c.loop-decision.placement past)
    ∙ (c.loop-decision.invariant ∙ (ap (put_all part) c.requires ∙ filled c.args.kind part c.as_slice-decision-items.ensures.rising))
