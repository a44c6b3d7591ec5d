use Rattle.fs_instr.proofs.TextLemmas.{text_of_table, with_faults, no_fault}
use Rattle.fs_instr.proofs.text.read_instr.Goals as goal

pub returns-in-Ok-clause-table : goal.returns-in-Ok-clause-table
returns-in-Ok-clause-table c = text_of_table c.in-Ok.ensures.answers

pub returns-in-Ok-clause-only : goal.returns-in-Ok-clause-only
returns-in-Ok-clause-only c = λ i l s. with_faults _ _ (c.in-Ok.ensures.only i l s)

pub returns-in-Err-clause-only : goal.returns-in-Err-clause-only
returns-in-Err-clause-only c = λ i l s. no_fault _ _ _ (c.in-Err.ensures.only i l s)
