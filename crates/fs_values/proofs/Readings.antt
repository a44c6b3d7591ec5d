-- Where every execution is grounded, the word can be left out.
use Rattle.std.proofs.Common.{◌↔◌, List}
use Rattle.fs_kinds.specs.declared.placement.Entry.{Entry}
use Rattle.fs_kinds.specs.PriceTable.{PriceTable}
use Rattle.fs_model.specs.declared.test.Test.{Test}
use Rattle.fs_model.specs.Execution.{Execution}
use Rattle.fs_model.specs.Allows.{Shows, Allows, IsCheapest}
use Rattle.fs_values.specs.ThinAir.{IsAlwaysGrounded}
use Rattle.fs_values.specs.Readings.{ShowsGrounded, AllowsGrounded, IsGroundedCheapest, SaysTheSame}

module _ (t : Test) (always : IsAlwaysGrounded t) where
  fully : (p : List Entry) (e : Execution) → Shows t p e → ShowsGrounded t p e
  fully p e s = record { shows = s; grounded = always p e s.execution }

  plainly : (p : List Entry) (e : Execution) → ShowsGrounded t p e → Shows t p e
  plainly p e s = s.shows

  allows_fully : (p : List Entry) → Allows t p → AllowsGrounded t p
  allows_fully p a = (a.0, fully p a.0 a.1)

  allows_plainly : (p : List Entry) → AllowsGrounded t p → Allows t p
  allows_plainly p a = (a.0, plainly p a.0 a.1)

  cheapest : (prices : PriceTable) (p : List Entry) → IsCheapest t prices p ↔ IsGroundedCheapest t prices p
  cheapest prices p = (
    (λ c. record {
      placement = c.placement;
      forbids = λ a. c.forbids (allows_plainly p a);
      better = λ q is less. allows_fully q (c.better q is less);
    }),
    (λ c. record {
      placement = c.placement;
      forbids = λ a. c.forbids (allows_fully p a);
      better = λ q is less. allows_plainly q (c.better q is less);
    }),
  )

  pub says_the_same : SaysTheSame t
  says_the_same = record {
    shows = λ p e. (fully p e, plainly p e);
    allows = λ p. (allows_fully p, allows_plainly p);
    cheapest = cheapest;
    refutes = λ e. (fully _ e, plainly _ e);
  }
