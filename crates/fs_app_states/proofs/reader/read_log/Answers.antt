use Rattle.std.proofs.Common.{arith, sym}
use Rattle.fs_app_states.proofs.Reading.{of_text}
use Rattle.fs_app_states.proofs.reader.read_log.Goals as goal

pub returns-in-Ok-clause-error : goal.returns-in-Ok-clause-error
returns-in-Ok-clause-error c =
    let cases = c.in-Ok.ensures.cases in
    of_text c.args.bytes.now c.in-Ok.text.now c.read_text.result (omega (arith, c.if-bytes-gt-MOST_BYTES.false), cases.1) (sym cases.0) c.read_text.ensures.err
