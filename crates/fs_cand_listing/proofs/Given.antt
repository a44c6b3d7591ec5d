-- What a made candidate is to the definitions.
use Rattle.std.proofs.Common.{◌≡◌, ◌∙◌, Option, List, ℕ, ap, Result, Ok, Err, IfOk}
use Rattle.fs_kinds.specs.declared.fault.Fault.{Fault}
use Rattle.fs_hart.specs.declared.trace.Trace.{Trace}
use Rattle.fs_hart.specs.Steps.{steps_in}
use Rattle.fs_cert_evidence.specs.Candidates as defined
use Rattle.fs_cand.specs.declared.candidate.Candidate.{Candidate}
use Rattle.fs_cand.specs.Candidates.{candidate_of}
use Rattle.fs_cand_listing.specs.RawCandidates.{candidate}

pub given : (r : Result Candidate Fault) (traces : List Trace) (source : List (Option ℕ)) (orders : List (List ℕ)) (d : defined.Candidate)
    → candidate (steps_in traces) source orders ≡ d
    → IfOk r (λ c. c.traces ≡ traces) → IfOk r (λ c. c.source ≡ source) → IfOk r (λ c. c.store_order ≡ orders)
    → IfOk r (λ c. candidate_of c ≡ d)
given (Ok c) traces source orders d is a b e =
    ap (λ ts. candidate (steps_in ts) c.source c.store_order) a
    ∙ ap (λ s. candidate (steps_in traces) s c.store_order) b
    ∙ ap (candidate (steps_in traces) source) e
    ∙ is
given (Err f) traces source orders d is a b e = tt
