use Rattle.std.proofs.Common.{[]}
use Rattle.std.proofs.lemmas.Bool.{false≢true}
use Rattle.fs_model_laws.proofs.Weakening.{kept-at, allows-no-less}
use Rattle.fs_model_laws.proofs.strength.weaker_fences_allow_more.Goals as goal

pub returns-clause-placements : goal.returns-clause-placements
returns-clause-placements c t p q same weaker = allows-no-less t p q (kept-at p q same weaker)

pub returns-clause-lists : goal.returns-clause-lists
returns-clause-lists c = allows-no-less

pub returns-clause-unfenced : goal.returns-clause-unfenced
returns-clause-unfenced c t q = allows-no-less t [] q (λ s pair kept. absurd (false≢true kept))
