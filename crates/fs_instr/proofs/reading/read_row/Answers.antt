use Rattle.std.proofs.Common.{◌∙◌, sym, ap}
use Rattle.fs_instr.specs.Reading.{is_alone}
use Rattle.fs_instr.proofs.RowBuilt.{empty_toks, row_built}
use Rattle.fs_instr.proofs.reading.read_row.Goals as goal

pub returns-else-is_refused : goal.returns-else-is_refused
returns-else-is_refused c =
    let at = c.row-op.ensures ∙ ap (is_alone c.args.op) (c.is_empty.ensures ∙ empty_toks c.args.tokens.now) in
    row_built c.args.op _ _ _ _ _ _ at c.parts.ensures c.in-Some.ensures (sym c.if-is_refused.false ∙ c.is_refused.ensures) c.build.ensures
