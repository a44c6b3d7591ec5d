use Rattle.fs_litmus.proofs.Standing.{sites_stand}
use Rattle.fs_litmus.proofs.site_law.site_labels_stand_free.Goals as goal

pub returns : goal.returns
returns c = sites_stand
