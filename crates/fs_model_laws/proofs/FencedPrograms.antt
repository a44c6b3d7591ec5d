-- Fences as instructions of a program, and fences that are placed.
use Rattle.std.proofs.Common.{List, Some}
use Rattle.std.specs.Prelude.{◌↔◌}
use Rattle.fs_kinds.specs.declared.kind.Kind.TheVariants.{RwRw}
use Rattle.fs_kinds.specs.declared.placement.Entry.{Entry}
use Rattle.fs_kinds.specs.Placements.{PriceTable}
use Rattle.fs_kinds.proofs.Entries.{slots_of-all_with}
use Rattle.fs_model.specs.declared.test.Test.{Test}
use Rattle.fs_model.specs.Allows as placed
use Rattle.fs_model.specs.Executions.{Allows}
use Rattle.fs_model.specs.Answers.{IsCheapest, NothingRulesOut, fenced}
use Rattle.fs_model.specs.OfTests.{program_of, outcome_of}
use Rattle.fs_model.specs.Fenced as test
use Rattle.fs_model.specs.Slots.{slots}
use Rattle.fs_model_laws.specs.Strength.{AllAreRefuted}
use Rattle.fs_model_laws.proofs.FencedLaw.{same_allowed, allows_alike}
use Rattle.fs_model_laws.proofs.Filled.{filled-shows}
use Rattle.fs_model_laws.proofs.NoPlacement as program

pub tested_alike : (t : Test) → Allows (program_of t) (outcome_of t) ↔ placed.Allows t (placed.no_fences t)
tested_alike t = (
  λ allowed. (same_allowed t).0 ((program.same_allowed t).0 allowed),
  λ allowed. (program.same_allowed t).1 ((same_allowed t).1 allowed),
)

pub fenced_alike : (t : Test) (p : List Entry) → Allows (fenced (program_of t) p) (outcome_of t) ↔ placed.Allows t p
fenced_alike t p = (
  λ allowed. (allows_alike t p).0 ((tested_alike (test.fenced t p)).0 allowed),
  λ allowed. (tested_alike (test.fenced t p)).1 ((allows_alike t p).1 allowed),
)

to-cheapest : (t : Test) (prices : PriceTable) (p : List Entry) → placed.IsCheapest t prices p
    → IsCheapest (program_of t) (outcome_of t) prices p
to-cheapest t prices p it = record {
  placement = it.placement;
  rules_out = λ allowed. it.forbids ((fenced_alike t p).0 allowed);
  better = λ q placement better. (fenced_alike t q).1 (it.better q placement better);
}

from-cheapest : (t : Test) (prices : PriceTable) (p : List Entry) → IsCheapest (program_of t) (outcome_of t) prices p
    → placed.IsCheapest t prices p
from-cheapest t prices p it = record {
  placement = it.placement;
  forbids = λ allowed. it.rules_out ((fenced_alike t p).1 allowed);
  better = λ q placement better. (fenced_alike t q).0 (it.better q placement better);
}

pub cheapest_alike : (t : Test) (prices : PriceTable) (p : List Entry)
    → placed.IsCheapest t prices p ↔ IsCheapest (program_of t) (outcome_of t) prices p
cheapest_alike t prices p = (to-cheapest t prices p, from-cheapest t prices p)

pub none_alike : (t : Test) → AllAreRefuted t ↔ NothingRulesOut (program_of t) (outcome_of t)
none_alike t = (
  λ (e, refutes) q same. (fenced_alike t q).1 (e, filled-shows t e refutes q same),
  λ nothing. (fenced_alike t (placed.full_fences t)).0 (nothing (placed.full_fences t) (slots_of-all_with (Some RwRw) (slots t))),
)
