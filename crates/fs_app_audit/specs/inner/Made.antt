-- What was found, as definitions speak of it.
use Rattle.std.specs.Prelude.{◌≡◌, IfSome, IsTrue}
use Rattle.std.specs.Arc.{arc_value}
use Rattle.fs_kinds.specs.Placement.{slots_of}
use Rattle.fs_kinds.specs.PriceTable.{are_offered}
use Rattle.fs_model.specs.Slots.{slots}
use Rattle.fs_model.specs.Test.{IsBounded}
use Rattle.fs_app_audit.specs.Audit as said
use Rattle.fs_app_audit.specs.declared.findings.Findings.{Findings}

abbrev pub findings_of : Findings → said.Findings
findings_of f = record {
  test = arc_value f.written.test;
  prices = (arc_value f.question).prices;
  lines = f.lines.items;
  kind = f.written.kind;
  codes = (arc_value f.asked).codes;
  bare = (arc_value f.question).test;
  written = f.fences;
  all = f.all_fit;
  best = f.best;
}

-- what printing asks for
pub record IsSound (f : Findings) : Type 0 where
  pub written : IsBounded (arc_value f.written.test)
  pub asked : IsBounded (arc_value f.asked)
  pub bare : IsBounded (arc_value f.question).test
  pub fences : IsTrue (are_offered (arc_value f.question).prices f.fences)
  pub best : IfSome f.best (λ p. (slots_of p ≡ slots (arc_value f.question).test) × IsTrue (are_offered (arc_value f.question).prices p))
