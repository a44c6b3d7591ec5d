use Rattle.std.proofs.Common.{sym, ◌∙◌}
use Rattle.fs_litmus.proofs.Ends.{ends_split}
use Rattle.fs_litmus.proofs.site_hart.end_word.Goals as goal

pub returns-in-Some : goal.returns-in-Some
returns-in-Some c = c.word_of.ensures ∙ sym (ends_split c.args.cell.now _ _ c.in-Some.ensures.cases.0)
