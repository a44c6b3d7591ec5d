use Rattle.std.proofs.Common.{◌≡◌, ◌∙◌, sym, arith, Bool}
use Rattle.std.proofs.lemmas.Bool.{false≢true}
use Rattle.std.proofs.lemmas.List.Folds.{list_any_more}
use Rattle.fs_cert_evidence.specs.Judged.{is_edge}
use Rattle.fs_cand.specs.Candidates.{candidate_of, runs_of}
use Rattle.fs_cert_evidence.specs.Evidence.{cause_of}
use Rattle.fs_cert_evidence.specs.declared.evidence.Cause.{Cause}
use Rattle.fs_cert_evidence.specs.declared.evidence.Cause.TheVariants.{Rule1}
use Rattle.fs_judge.proofs.Caused.{judged_by_causes}
use Rattle.fs_judge.proofs.causes.cause.Goals as goal

pub loop-cause-preserved : goal.loop-cause-preserved
loop-cause-preserved c = λ words made.
    let candidate = candidate_of c.args.candidate.now in
    let passes : Cause → Bool = λ cause. is_edge (runs_of c.args.candidate.now words) c.args.placement.now candidate c.args.a c.args.b (cause_of cause) in
    let now = c.is_edge.ensures words made in
    list_any_more passes _ c.loop-cause.cause-index Rule1 c.loop-cause-test.true
    ∙ rw (c.loop-cause.invariant words made) (sym now ∙ c.if-is_edge.false)

pub returns : goal.returns
returns c = λ words made edge.
    let candidate = candidate_of c.args.candidate.now in
    let all = c.loop-cause.cause-index in
    let whole : all ≡ 16 = omega arith in
    absurd (false≢true (sym (rw whole at (c.loop-cause.invariant words made))
    ∙ (sym (judged_by_causes (runs_of c.args.candidate.now words) c.args.placement.now candidate c.args.a c.args.b) ∙ edge)))
