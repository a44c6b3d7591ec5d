use denote.Param.{param}
use Rattle.std.proofs.Crossing.{Arc-sync, Vec-sync, sync}
use Rattle.fs_cert_evidence.specs.contracts.evidence.Witness as Witness
use Rattle.fs_board_offers.specs.contracts.question.Question as Question
use Rattle.fs_board_search.proofs.Problems as problem
use Rattle.fs_pool_workers.proofs.Crosses.{desk_sync, problem_send, problem_sync, question_send, question_sync, witness_send, witness_sync}
use Rattle.fs_pool_workers.proofs.crew.work_together.Goals as goal

-- the closure lends the threads, the allocator, the desk, the gate, the question, the witnesses and the problem to each
-- job, in this order
pub map_vec-requires-sync-F : goal.map_vec-requires-sync-F
map_vec-requires-sync-F g c κs within =
    let d = desk_sync (param 0 g.row.A) g.A.Asked in
    let q = Arc-sync Question.the_row question_send question_sync in
    let w = Vec-sync _ (Arc-sync Witness.the_row witness_send witness_sync) in
    let p = Arc-sync problem.the_row problem_send problem_sync in
    record {
      shared = λ x b o κ. (
        (
          ((λ q. tt), c.type_bounds.sync-R.shared x.0.now x.0.ref_ptr.0 x.0.ref_ptr.1 _),
          (
            ((λ q. tt), sync.shared x.1.now x.1.ref_ptr.0 x.1.ref_ptr.1 κ),
            (
              ((λ q. tt), d.shared x.2.now x.2.ref_ptr.0 x.2.ref_ptr.1 _),
              (
                ((λ q. tt), c.type_bounds.sync-G.shared x.3.now x.3.ref_ptr.0 x.3.ref_ptr.1 _),
                (
                  ((λ q. tt), q.shared x.4.now x.4.ref_ptr.0 x.4.ref_ptr.1 κ),
                  (
                    ((λ q. tt), w.shared x.5.now x.5.ref_ptr.0 x.5.ref_ptr.1 _),
                    (((λ q. tt), p.shared x.6.now x.6.ref_ptr.0 x.6.ref_ptr.1 κ), tt),
                  ),
                ),
              ),
            ),
          ),
        ),
        λ q. tt,
      );
    }
