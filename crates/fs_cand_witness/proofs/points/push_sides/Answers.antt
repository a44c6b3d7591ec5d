use Rattle.std.proofs.Common.{rules, arith, ◌≡◌, Some, refl}
use Rattle.std.specs.Prelude.{slice_get}
use Rattle.std.proofs.lemmas.Option.{slice_get_read}
use Rattle.fs_model.specs.Slots.{slot_at}
use Rattle.fs_cand.specs.Candidates.{runs_of}
use Rattle.fs_model.specs.Operations.{steps_of}
use Rattle.fs_cand_witness.specs.Fencing.{orders_at}
use Rattle.fs_cand_witness.specs.inner.Halves.{orders_before_step}
use Rattle.fs_cand_witness.proofs.StepSides.{one_side, side_pushed}
use Rattle.fs_cand_witness.proofs.points.push_sides.Goals as goal

pub loop-place-preserved : goal.loop-place-preserved
loop-place-preserved c = λ words made p a b.
    let x = runs_of c.args.candidate.now words in
    let run : c.steps_of-steps.result.now ≡ steps_of x.traces c.args.hart = cc (c.steps_of-steps.ensures, c.as_slice.ensures) in
    let there : slice_get (steps_of x.traces c.args.hart) c.loop-place.place ≡ Some c.index-steps-place.result =
    rw (← run) (slice_get_read c.steps_of-steps.result.now _ c.loop-place.place c.index-steps-place.result refl (omega arith) c.index-steps-place.is) in
    let slot : c.sides_at.result.slot ≡ slot_at c.args.hart c.index-steps-place.result.at = search rules in
    side_pushed (orders_at p a b) (orders_before_step x p c.args.hart a b) c.args.sides.now.items c.loop-place.sides.items _ c.sides_at.result c.loop-place.place
    c.in_ok-push.ensures.items (c.loop-place.invariant words made p a b)
    (one_side x p c.args.hart c.loop-place.place a b c.index-steps-place.result c.sides_at.result there slot
    (c.sides_at.ensures.before words made a) (c.sides_at.ensures.after words made b))
