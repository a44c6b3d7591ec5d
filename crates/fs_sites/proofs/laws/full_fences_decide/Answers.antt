use Rattle.fs_sites.proofs.Strongest.{all-allowed}
use Rattle.fs_sites.proofs.laws.full_fences_decide.Goals as goal

pub returns : goal.returns
returns c q allows p placement = all-allowed q.offers p placement.slots q.parts allows
