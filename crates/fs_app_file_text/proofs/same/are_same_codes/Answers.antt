use Rattle.std.proofs.Common.{sym, ◌∙◌}
use Rattle.fs_app_file_text.proofs.Comparing.{codes_same}
use Rattle.fs_app_file_text.proofs.same.are_same_codes.Goals as goal

pub returns : goal.returns
returns c = λ same. codes_same c.args.codes.now c.args.others.now (sym c.eq.ensures ∙ same)
