use Rattle.fs_model_laws.proofs.ExactWidths.{exact}
use Rattle.fs_model_laws.proofs.strength.widths_are_exact.Goals as goal

pub returns : goal.returns
returns c = exact
