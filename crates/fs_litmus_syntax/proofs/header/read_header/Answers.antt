use Rattle.std.proofs.Common.{◌+◌, sym, ◌∙◌, ap, arith}
use Rattle.fs_litmus_tokens.specs.Tokens.{views}
use Rattle.fs_litmus_syntax.specs.Header.{IsHeader, next, move_of}
use Rattle.fs_litmus_syntax.proofs.FormAnswering.{finished, refused, ended, is_end_lent}
use Rattle.fs_litmus_syntax.proofs.HeaderResidual.{scanned_header}
use Rattle.fs_litmus_syntax.proofs.header.read_header.Goals as goal

pub returns-in-Finish-clause-ok : goal.returns-in-Finish-clause-ok
returns-in-Finish-clause-ok c =
    let ts = c.args.tokens.now in
    finished IsHeader next ts _ _ c.loop-i.i _ c.in-Finish.columns (scanned_header (views ts)) c.loop-i.invariant.same c.loop-i-test.true (ap move_of (sym c.in-Finish.is) ∙ c.in_ok-next.ensures.value)

pub returns-in-Finish-clause-rest : goal.returns-in-Finish-clause-rest
returns-in-Finish-clause-rest c = is_end_lent c.args.tokens.now (c.loop-i.i + 1)

pub returns-in-Bad-clause-bad : goal.returns-in-Bad-clause-bad
returns-in-Bad-clause-bad c =
    let ts = c.args.tokens.now in
    refused IsHeader next ts _ _ c.loop-i.i _ (scanned_header (views ts)) c.loop-i.invariant.same c.loop-i-test.true (ap move_of (sym c.in-Bad.is) ∙ c.in_ok-next.ensures.value)

pub returns-clause-bad : goal.returns-clause-bad
returns-clause-bad c =
    let ts = c.args.tokens.now in
    ended IsHeader next ts _ _ c.loop-i.i (scanned_header (views ts)) c.loop-i.invariant.same (omega arith)
