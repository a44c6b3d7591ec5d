use Rattle.std.proofs.Common.{map}
use Rattle.fs_app_states.proofs.Reading.{if_err, lines_error}
use Rattle.fs_app_states.proofs.reader.read_lines.Goals as goal

pub returns-in_err-blocks-clause-err : goal.returns-in_err-blocks-clause-err
returns-in_err-blocks-clause-err c =
    if_err _ _ _ c.from_residual.ensures.1 (lines_error (map (λ line. line.now) c.args.lines.now) _ c.in_err-blocks.ensures.err)
