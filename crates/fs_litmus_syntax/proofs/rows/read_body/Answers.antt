use Rattle.std.proofs.Common.{◌+◌, ◌-◌, sym, ◌∙◌, ap, arith}
use Rattle.fs_litmus_tokens.specs.Tokens.{views}
use Rattle.fs_litmus_syntax.specs.Body.{cells_of}
use Rattle.fs_litmus_syntax.specs.Rows.{Flat, next, start, move_of}
use Rattle.fs_litmus_syntax.proofs.FormAnswering.{finished, refused, ended, is_end_lent}
use Rattle.fs_litmus_syntax.proofs.RowsResidual.{Left, scanned_left}
use Rattle.fs_litmus_syntax.proofs.RowsReading.{takes_body, stops_body, whole_cells}
use Rattle.fs_litmus_syntax.proofs.rows.read_body.Goals as goal

pub returns-in-Finish-clause-ok : goal.returns-in-Finish-clause-ok
returns-in-Finish-clause-ok c =
    let ts = c.args.tokens.now in
    let n = c.args.columns - 1 in
    let cs = c.take.new.cells.items in
    let flat : Flat = record { cells = cells_of cs; quantifier = c.in-Finish.quantifier } in
    takes_body c.args.columns c.requires (views ts) _ flat (finished (Left n start) (next n) ts _ _ c.loop-i.i _ flat (scanned_left n start (views ts)) c.loop-i.invariant.same c.loop-i-test.true (ap (λ s. move_of ts (c.loop-i.i + 1) cs s) (sym c.in-Finish.is) ∙ c.in_ok-next.ensures.value))

pub returns-in-Finish-clause-whole : goal.returns-in-Finish-clause-whole
returns-in-Finish-clause-whole c =
    let ts = c.args.tokens.now in
    let n = c.args.columns - 1 in
    let cs = c.take.new.cells.items in
    let flat : Flat = record { cells = cells_of cs; quantifier = c.in-Finish.quantifier } in
    whole_cells n (views ts) _ flat (finished (Left n start) (next n) ts _ _ c.loop-i.i _ flat (scanned_left n start (views ts)) c.loop-i.invariant.same c.loop-i-test.true (ap (λ s. move_of ts (c.loop-i.i + 1) cs s) (sym c.in-Finish.is) ∙ c.in_ok-next.ensures.value))

pub returns-in-Finish-clause-rest : goal.returns-in-Finish-clause-rest
returns-in-Finish-clause-rest c = is_end_lent c.args.tokens.now (c.loop-i.i + 1)

pub returns-in-Bad-clause-bad : goal.returns-in-Bad-clause-bad
returns-in-Bad-clause-bad c =
    let ts = c.args.tokens.now in
    let n = c.args.columns - 1 in
    let cs = c.take.new.cells.items in
    stops_body c.args.columns c.requires ts _ (refused (Left n start) (next n) ts _ _ c.loop-i.i _ (scanned_left n start (views ts)) c.loop-i.invariant.same c.loop-i-test.true (ap (λ s. move_of ts (c.loop-i.i + 1) cs s) (sym c.in-Bad.is) ∙ c.in_ok-next.ensures.value))

pub returns-clause-bad : goal.returns-clause-bad
returns-clause-bad c =
    let ts = c.args.tokens.now in
    let n = c.args.columns - 1 in
    stops_body c.args.columns c.requires ts _ (ended (Left n start) (next n) ts _ _ c.loop-i.i (scanned_left n start (views ts)) c.loop-i.invariant.same (omega arith))
