use Rattle.std.proofs.Common.{sym, ◌∙◌}
use Rattle.fs_app_file_text.proofs.Comparing.{starts_same}
use Rattle.fs_app_file_text.proofs.same.are_same_starts.Goals as goal

pub returns : goal.returns
returns c = λ same. starts_same c.args.starts.now c.args.others.now (sym c.eq.ensures ∙ same)
