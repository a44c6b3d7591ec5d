use Rattle.std.proofs.Common.{arith, ◌||◌, ◌==◌, ◌<◌, ℕ, Bool, [], ap, sym, ◌∙◌}
use Rattle.fs_cert_evidence.specs.Judged.{is_judged}
use Rattle.fs_cand.specs.Candidates.{candidate_of, runs_of}
use Rattle.fs_cand_witness.proofs.Bits.{bit_set_test}
use Rattle.fs_cand_witness.proofs.Below.{one_in, one_out}
use Rattle.fs_cand_witness.proofs.base.row_of.Goals.{then-is_judged, else-is_judged}
use Rattle.fs_cand_witness.proofs.base.row_of.Goals as goal

pub loop-b-preserved : goal.loop-b-preserved
loop-b-preserved c = λ words made y.
    let edge : ℕ → Bool = λ z. is_judged (runs_of c.args.candidate.now words) [] (candidate_of c.args.candidate.now) c.args.a z in
    let low : c.loop-b.b < 64 = omega arith in
    let was = c.loop-b.invariant words made y in
    let now = c.is_judged.ensures words made in
    elim c.if-is_judged.branch [
      | then-is_judged w ↦ rw w.row-is (bit_set_test c.loop-b.row c.loop-b.b y low ∙ (ap (λ b. b || (y == c.loop-b.b)) was
          ∙ one_in edge y c.loop-b.b (sym now ∙ w.if-is_judged.true)))
      | else-is_judged w ↦ rw w.row-is (was ∙ one_out edge y c.loop-b.b (sym now ∙ w.if-is_judged.false))
    ]
