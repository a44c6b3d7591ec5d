use Rattle.fs_model.specs.Values.{IsValueAfter}
use Rattle.fs_hart.specs.Listing.{IsOffered}
use Rattle.fs_values.proofs.Sets.{same_fault}
use Rattle.fs_values.proofs.laws.same_sets_fail_alike.Goals as goal

pub returns-clause-sets : goal.returns-clause-sets
returns-clause-sets c = λ t xs ys same. same_fault t (IsOffered xs) (IsOffered ys) same

pub returns-clause-values : goal.returns-clause-values
returns-clause-values c = λ t n sets same. same_fault t (IsOffered sets) (IsValueAfter t n) same
