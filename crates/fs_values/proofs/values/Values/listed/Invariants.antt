use Rattle.fs_model.specs.Values.{IsValueAfter}
use Rattle.fs_values.specs.Sets.{AreSets}
use Rattle.fs_values.proofs.Finished.{AreCleanBefore}
use Rattle.fs_values.proofs.values.Values.listed.Given as goal

abbrev pub invariant-loop : goal.invariant-loop
invariant-loop l = record {
  sets : AreSets l.test (IsValueAfter l.test l.counter) l.values;
  clean : AreCleanBefore l.test l.counter;
}
