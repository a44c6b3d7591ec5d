use Rattle.std.proofs.Common.{◌≡◌, ◌∙◌, None, map, sym, subst}
use Rattle.fs_cert_evidence.specs.Refusals.{first_wrong}
use Rattle.fs_cert_evidence.specs.Trees.{roots}
use Rattle.fs_cert_evidence.specs.Inferences.{inference_of}
use Rattle.fs_region_refutation.proofs.Walked.{none_to}
use Rattle.fs_judge.proofs.sought.is_refuted.Goals as goal

pub returns-in-None-clause-ok : goal.returns-in-None-clause-ok
returns-in-None-clause-ok c holds =
    let t = c.args.basis.now in
    let p = c.args.placement.now in
    let found = c.in_ok-reason_against.ensures.exact in
    record {
      runs = found.0;
      all = found.1;
      refuted = none_to t p (roots t found.0) (map inference_of c.args.inferences.now) 0
          (subst (λ inferences. first_wrong t p (roots t found.0) (map inference_of inferences) 0 ≡ None) c.as_slice.ensures
          (sym found.2 ∙ c.in-None.is));
    }
