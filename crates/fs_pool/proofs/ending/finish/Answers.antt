use Rattle.std.proofs.Common.{◌≡◌, ℕ, List, drop, length, subst, sym, ◌∙◌, ap}
use Rattle.std.specs.Prelude.{sum_by}
use Rattle.fs_board_offers.specs.Histories.{LogEntry}
use Rattle.fs_board_offers.specs.Receipts.{Pass}
use Rattle.fs_pool.specs.Ends.{AreGiven, AllLogged}
use Rattle.fs_pool.proofs.Agreeing.{agreed}
use Rattle.fs_pool.proofs.ending.finish.Goals as goal

pub returns-clause-agreed : goal.returns-clause-agreed
returns-clause-agreed g c =
    let workers = c.args.desk.workers in
    let board_log = c.parts-since.result.1.log in
    let log = drop c.args.desk.since board_log in
    let passes = c.args.passes.items in
    let given : AreGiven workers passes =
    subst (λ (n : ℕ). AreGiven n passes) c.workers.ensures
    (subst (AreGiven c.workers.result) c.deref.ensures.value (c.are_given.ensures.yes c.if-not-are_given.false)) in
    let same : c.log_since-log.result.now ≡ log =
    c.log_since-log.ensures ∙ (ap (λ n. drop n c.log.result.now) c.parts-since.ensures.since ∙ ap (drop c.args.desk.since) c.log.ensures.value) in
    let count = c.are_so_many.ensures.yes c.if-not-are_so_many.false in
    let all = c.all_logged.ensures.yes c.if-not-all_logged.false in
    agreed workers log passes given
    (subst (λ (es : List LogEntry). AllLogged es passes) same
    (subst (λ (ps : List Pass). AllLogged c.log_since-log.result.now ps) c.deref-else-not-are_so_many.ensures.value all))
    (ap (sum_by (λ (pass : Pass). length pass.receipts)) (sym c.deref-2.ensures.value) ∙ (count ∙ ap length same))
