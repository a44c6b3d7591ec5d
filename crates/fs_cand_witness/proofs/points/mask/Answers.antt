use Rattle.std.proofs.Common.{length, arith, ◌≡◌, ◌||◌, ◌==◌, ◌&&◌, ◌<◌, ℕ, Bool, ap, sym, ◌∙◌}
use Rattle.std.specs.List.{slice_index_or}
use Rattle.std.proofs.lemmas.List.{get_or_default}
use Rattle.fs_model.specs.Operations.{nothing}
use Rattle.fs_cand_witness.proofs.Bits.{bit_set_test}
use Rattle.fs_cand_witness.specs.inner.Halves.{is_on, is_of}
use Rattle.fs_cand_witness.proofs.Below.{one_in, one_out}
use Rattle.fs_cand_witness.proofs.points.mask.Goals.{then-is_among, else-is_among}
use Rattle.fs_cand_witness.proofs.points.mask.Goals as goal

pub loop-a-preserved : goal.loop-a-preserved
loop-a-preserved c = λ y.
    let passes : ℕ → Bool = λ z. is_on c.args.half c.args.hart c.args.place (slice_index_or c.args.operations.now z nothing) && is_of c.args.class (slice_index_or c.args.operations.now z nothing) in
    let low : c.loop-a.a < 64 = omega arith in
    let was = c.loop-a.invariant y in
    let within : c.loop-a.a < length c.args.operations.now = omega arith in
    let at = get_or_default c.args.operations.now c.loop-a.a nothing c.index-operations-a.result within ∙ sym c.index-operations-a.is in
    let now : c.is_among.result ≡ passes c.loop-a.a = c.is_among.ensures ∙ ap (λ o. is_on c.args.half c.args.hart c.args.place o && is_of c.args.class o) (sym at) in
    elim c.if-is_among.branch [
      | then-is_among w ↦ rw w.mask-is (bit_set_test c.loop-a.mask c.loop-a.a y low ∙ (ap (λ b. b || (y == c.loop-a.a)) was
          ∙ one_in passes y c.loop-a.a (sym now ∙ w.if-is_among.true)))
      | else-is_among w ↦ rw w.mask-is (was ∙ one_out passes y c.loop-a.a (sym now ∙ w.if-is_among.false))
    ]
