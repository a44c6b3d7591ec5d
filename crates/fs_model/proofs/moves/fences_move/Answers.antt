use Rattle.std.proofs.Common.{refl}
use Rattle.fs_model.proofs.FencedPlaces.{codes_fenced}
use Rattle.fs_model.proofs.FencedSteps.{length-fenced_codes}
use Rattle.fs_model.proofs.MovedSlots.{slots_move}
use Rattle.fs_model.proofs.moves.fences_move.Goals as goal

pub returns : goal.returns
returns c =
    let t = c.args.test.now in
    let p = c.args.placement.now in
    record { harts = length-fenced_codes p t.codes; codes = codes_fenced t p; others = refl; slots = slots_move t p }
