use Rattle.std.proofs.Common.{◌≡◌, ℕ, Some, List, length, sym, ◌∙◌, subst, arith}
use Rattle.std.specs.Prelude.{slice_get}
use Rattle.fs_model.specs.Allows.{Allows}
use Rattle.fs_cert_evidence.specs.Candidates.{Candidate}
use Rattle.fs_cert_evidence.specs.Certificate.{Link, Listed}
use Rattle.fs_cert_evidence.specs.Cycles.{IsCycle, HasCycles}
use Rattle.fs_verdict_laws.proofs.Deciding.{cycles_forbid_all}
use Rattle.fs_cert_evidence.specs.Evidence.{ShowsForbidden}
use Rattle.fs_judge.specs.inner.Findings.{IsFinding}
use Rattle.fs_judge.proofs.Linked.{longer, more}
use Rattle.fs_judge.proofs.Prepared.{item_at, zipped}
use Rattle.fs_judge.proofs.listed.judge_all.Goals as goal

pub loop-number-preserved : goal.loop-number-preserved
loop-number-preserved c =
    let n = c.loop-number.number in
    let t = c.args.test.now in
    let p = c.args.placement.now in
    let cs = c.args.showing.now.candidates in
    record {
      long = longer c.loop-number.cycles.items _ c.in-Cyclic.links n c.loop-number.invariant.long c.in_ok-push-in-Cyclic.ensures.items;
      each = more (λ (k : ℕ) (links : List Link). (d : Candidate) → slice_get cs k ≡ Some d → IsCycle t p d links) c.loop-number.cycles.items _ c.in-Cyclic.links n
          c.loop-number.invariant.long c.in_ok-push-in-Cyclic.ensures.items c.loop-number.invariant.each
          (λ d there. subst (IsFinding t p d) c.in-Cyclic.is (c.in_ok-finding.ensures.ok d there));
    }

pub returns-in-Ordered-clause-ok : goal.returns-in-Ordered-clause-ok
returns-in-Ordered-clause-ok c =
    let here = item_at c.args.showing.now.candidates c.loop-number.number (omega arith) in
    subst (IsFinding c.args.test.now c.args.placement.now here.0) c.in-Ordered.is (c.in_ok-finding.ensures.ok here.0 here.1)

pub returns-clause-ok : goal.returns-clause-ok
returns-clause-ok c =
    let t = c.args.test.now in
    let p = c.args.placement.now in
    let cs = c.args.showing.now.candidates in
    let whole : c.loop-number.number ≡ length cs = omega arith in
    let has : HasCycles t p c.loop-number.cycles.items = (
      cs,
      c.requires.listing,
      zipped (IsCycle t p) cs c.loop-number.cycles.items (c.loop-number.invariant.long ∙ whole) c.loop-number.invariant.each,
    ) in
    let shows : ShowsForbidden t (record { placement = p; cycles = Listed c.loop-number.cycles.items }) = record { forbid = has; judged = c.requires.clean } in
    subst (λ (cycles : List (List Link)). ShowsForbidden t (record { placement = p; cycles = Listed cycles }) × (Allows t p → ⊥)) (sym c.new.ensures)
    (shows, cycles_forbid_all t c.requires.listable p _ has)
