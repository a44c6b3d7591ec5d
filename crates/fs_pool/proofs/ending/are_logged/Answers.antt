use Rattle.std.proofs.Common.{◌∙◌, sym, arith, true≢false}
use Rattle.fs_pool.proofs.Agreeing.{went_on, logged_within}
use Rattle.fs_pool.proofs.ending.are_logged.Goals.{then-number-next-via-then-number-next, then-number-next-via-else-number-next+then-number-count, then-number-next-via-else-number-next+else-number-count+then-not-is_logged}
use Rattle.fs_pool.proofs.ending.are_logged.Goals as goal

pub returns-then-number-next-clause-no : goal.returns-then-number-next-clause-no
returns-then-number-next-clause-no g c = λ all.
    let log = c.args.log.now in
    let r = c.index-receipts-i.result in
    let parts = went_on log c.args.worker c.loop-i.next c.args.receipts.now c.loop-i.i r c.loop-i-test.true c.index-receipts-i.is (c.loop-i.invariant.rest all) in
    let low = parts.0 in
    let same = c.number-number.ensures in
    let within = logged_within log c.args.worker r parts.1 in
    elim c.then-number-next.branch [
      | then-number-next-via-then-number-next v ↦ absurd (let less = v.if-number-next.true in omega arith)
      | then-number-next-via-else-number-next+then-number-count v ↦ absurd (let more = v.if-number-count.true in omega arith)
      | then-number-next-via-else-number-next+else-number-count+then-not-is_logged v ↦
          absurd (true≢false (sym (v.is_logged.ensures.no parts.1) ∙ v.if-not-is_logged.true))
    ]
