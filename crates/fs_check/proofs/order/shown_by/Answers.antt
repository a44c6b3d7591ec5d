use Rattle.std.proofs.Common.{length, sym, ◌∙◌, ap}
use Rattle.fs_check.proofs.Verdicts.{stopped_of, whole_made}
use Rattle.fs_check.proofs.Shown.{refused}
use Rattle.fs_check.proofs.order.shown_by.Goals as goal

pub shown_in-requires-clause-whole : goal.shown_in-requires-clause-whole
shown_in-requires-clause-whole c =
    whole_made c.args.test.now c.args.file.now c.as_slice-3.result.now c.in_ok-traces.field-0 c.in-Whole.traces c.as_slice-3.ensures c.in_ok-traces.ensures.ok c.in-Whole.is
    (ap length (c.as_slice-3.ensures ∙ sym c.as_slice.ensures) ∙ c.if-as_slice.false ∙ ap length c.as_slice-2.ensures)

pub returns-in-Stopped-clause-none : goal.returns-in-Stopped-clause-none
returns-in-Stopped-clause-none c w keeps =
    refused c.args.test.now c.args.placement.now w c.in-Stopped.field-0 c.requires.test.forward
    (stopped_of c.args.test.now c.args.placement.now c.args.file.now w c.as_slice-3.result.now c.in_ok-traces.field-0 c.in-Stopped.field-0 c.as_slice-3.ensures c.in_ok-traces.ensures.ok
    c.in-Stopped.is keeps)
