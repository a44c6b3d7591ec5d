use Rattle.std.proofs.Common.{◌≡◌, arith, length, ◌&&◌, ◌||◌, ◌==◌, ℕ, Bool, [], ap, ◌∙◌}
use Rattle.std.specs.Prelude.{nat_lt}
use Rattle.fs_cert_evidence.specs.Judged.{is_judged}
use Rattle.fs_cand.specs.Candidates.{candidate_of, runs_of}
use Rattle.fs_cand_witness.specs.Edges.{has_bit}
use Rattle.fs_cand_witness.proofs.Below.{one_more}
use Rattle.fs_model.specs.Operations.{operations}
use Rattle.fs_model.specs.Execution.{initial_words}
use Rattle.fs_cert_evidence.specs.Candidates.{runs_of as defined_runs}
use Rattle.fs_cand_witness.proofs.Joined.{among, unbounded}
use Rattle.fs_cand_witness.proofs.base.base_rows.Goals as goal

pub loop-a-preserved : goal.loop-a-preserved
loop-a-preserved c = λ words made y z.
    let edge : ℕ → Bool = λ a. nat_lt z c.len-n.result && is_judged (runs_of c.args.candidate.now words) [] (candidate_of c.args.candidate.now) a z in
    c.add_row.ensures y z
    ∙ (ap (λ b. b || ((y == c.loop-a.a) && has_bit c.row_of.result z)) (c.loop-a.invariant words made y z)
    ∙ (ap (λ b. (nat_lt y c.loop-a.a && edge y) || ((y == c.loop-a.a) && b)) (c.row_of.ensures words made z)
    ∙ one_more edge y c.loop-a.a))

pub returns-clause-raw : goal.returns-clause-raw
returns-clause-raw c = λ t made raw a b.
    let candidate = candidate_of c.args.candidate.now in
    let edge : Bool = is_judged (defined_runs t candidate) [] candidate a b in
    let many : length c.args.candidate.now.operations ≡ length (operations (defined_runs t candidate)) = ap length made.operations in
    let all : c.loop-a.a ≡ c.len-n.result = omega arith in
    let long : c.len-n.result ≡ length (operations (defined_runs t candidate)) = omega (arith, many, c.len-n.ensures) in
    c.loop-a.invariant (initial_words t) made a b
    ∙ (ap (λ n. nat_lt a n && (nat_lt b c.len-n.result && edge)) all
    ∙ (ap (λ n. nat_lt a n && (nat_lt b n && edge)) long
    ∙ unbounded (length (operations (defined_runs t candidate))) a b edge (among t [] candidate a b raw)))
