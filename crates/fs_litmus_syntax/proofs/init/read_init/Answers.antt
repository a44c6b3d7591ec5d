use Rattle.std.proofs.Common.{◌+◌, sym, ◌∙◌, ap, arith}
use Rattle.fs_litmus_syntax.specs.Init.{IsInit, next, move_of, entries_of}
use Rattle.fs_litmus_syntax.proofs.FormAnswering.{finished, refused, ended, is_end_lent}
use Rattle.fs_litmus_syntax.proofs.InitReading.{scanned_init}
use Rattle.fs_litmus_tokens.specs.Tokens.{views}
use Rattle.fs_litmus_syntax.proofs.init.read_init.Goals as goal

pub returns-in-Finish-clause-ok : goal.returns-in-Finish-clause-ok
returns-in-Finish-clause-ok c =
    let ts = c.args.tokens.now in
    let es = c.take.new.entries.items in
    finished IsInit next ts _ _ c.loop-i.i _ (entries_of es) (scanned_init (views ts)) c.loop-i.invariant c.loop-i-test.true (ap (λ s. move_of s es) (sym c.in-Finish.is) ∙ c.in_ok-next.ensures)

pub returns-in-Finish-clause-rest : goal.returns-in-Finish-clause-rest
returns-in-Finish-clause-rest c = is_end_lent c.args.tokens.now (c.loop-i.i + 1)

pub returns-in-Bad-clause-bad : goal.returns-in-Bad-clause-bad
returns-in-Bad-clause-bad c =
    let ts = c.args.tokens.now in
    let es = c.take.new.entries.items in
    refused IsInit next ts _ _ c.loop-i.i _ (scanned_init (views ts)) c.loop-i.invariant c.loop-i-test.true (ap (λ s. move_of s es) (sym c.in-Bad.is) ∙ c.in_ok-next.ensures)

pub returns-clause-bad : goal.returns-clause-bad
returns-clause-bad c =
    let ts = c.args.tokens.now in
    ended IsInit next ts _ _ c.loop-i.i (scanned_init (views ts)) c.loop-i.invariant (omega arith)
