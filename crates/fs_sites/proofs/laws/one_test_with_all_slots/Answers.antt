use Rattle.fs_sites.proofs.Alone.{image-itself, cheapest-alone}
use Rattle.fs_sites.proofs.laws.one_test_with_all_slots.Goals as goal

pub returns-clause-images : goal.returns-clause-images
returns-clause-images c = image-itself

pub returns-clause-cheapest : goal.returns-clause-cheapest
returns-clause-cheapest c = cheapest-alone
