-- A cycle with a stale load: that load alone rules the region out, by the inference that says so.
use Rattle.std.proofs.Common.{◌≡◌, ◌++◌, ◌&&◌, ◌==◌, Bool, true, false, Option, None, Some, List, [], ◌∷◌, length, nat_le, nat_lt, drop, refl, ap, subst, unwrap_or, if◌then◌else◌}
use Rattle.std.proofs.lemmas.Bool.{false≢true}
use Rattle.std.specs.List.{list_all, zip}
use Rattle.fs_kinds.specs.declared.placement.Entry.{Entry}
use Rattle.fs_kinds.specs.declared.reason.OperationName.{OperationName as Name}
use Rattle.fs_model.specs.declared.test.Test.{Test}
use Rattle.fs_cert_evidence.specs.Certificate.{Link, Cycle, Stale}
use Rattle.fs_cert_evidence.specs.Judged.{Cause, Preserved, ReadsFrom, Coherence, FromReads}
use Rattle.fs_cert_evidence.specs.Musts.{must, overwrites}
use Rattle.fs_cert_evidence.specs.Regions.{Region}
use Rattle.fs_cert_evidence.specs.Cycles.{most_links}
use Rattle.fs_cert_evidence.specs.Trees.{follows, links_around}
use Rattle.fs_app_why.specs.Chains.{goes_back, is_from_reads, next_of, stale_in, stale_of}

joined : (a b c d : Bool) → (a && b) ≡ true → (c && d) ≡ true → (a && (b && d)) ≡ true
joined true true true true e f = refl
joined true true true false e f = absurd (false≢true f)
joined true true false d e f = absurd (false≢true f)
joined true false c d e f = absurd (false≢true e)
joined false b c d e f = absurd (false≢true e)

first_of : (a b : Bool) → (a && b) ≡ true → a ≡ true
first_of true b e = refl
first_of false b e = absurd (false≢true e)

second_of : (a b : Bool) → (a && b) ≡ true → b ≡ true
second_of true b e = e
second_of false b e = absurd (false≢true e)

module _ (t : Test) (p : List Entry) (region : Region) where
  abbrev holds : Link × Link → Bool
  holds pair = must t region p pair.0.cause pair.0.operation pair.1.operation

  at_cause : (cause : Cause) (load next : Name)
      → (is_from_reads cause && ((next.hart == load.hart) && nat_lt next.at load.at)) ≡ true
      → must t region p cause load next ≡ true
      → ((next.hart == load.hart) && (nat_lt next.at load.at && overwrites t region next load)) ≡ true
  at_cause FromReads load next back edge =
      joined (next.hart == load.hart) (nat_lt next.at load.at) _ (overwrites t region next load) back edge
  at_cause (Preserved r) load next back edge = absurd (false≢true back)
  at_cause ReadsFrom load next back edge = absurd (false≢true back)
  at_cause Coherence load next back edge = absurd (false≢true back)

  chosen : (b : Bool) (found : Name × Name) (rest : Option (Name × Name)) (load store : Name)
      → (if b then Some found else rest) ≡ Some (load, store)
      → (b ≡ true → follows t p region (Stale found.0 found.1) ≡ true)
      → (rest ≡ Some (load, store) → follows t p region (Stale load store) ≡ true)
      → follows t p region (Stale load store) ≡ true
  chosen true found rest load store is here later =
      subst (λ (pair : Name × Name). follows t p region (Stale pair.0 pair.1) ≡ true)
      (ap (λ o. unwrap_or o found) is) (here refl)
  chosen false found rest load store is here later = later is

  over : (first : Link) (links : List Link) (load store : Name)
      → list_all holds (zip links (drop 1 links ++ first ∷ [])) ≡ true
      → stale_in first.operation links ≡ Some (load, store)
      → follows t p region (Stale load store) ≡ true
  over first [] load store all is = absurd (let none = is in cc)
  over first (link ∷ []) load store all is =
      chosen (goes_back link first.operation) (link.operation, first.operation) None load store is
      (λ back. at_cause link.cause link.operation first.operation back (first_of (holds (link, first)) true all))
      (over first [] load store refl)
  over first (link ∷ next ∷ links) load store all is =
      let others = list_all holds (zip (next ∷ links) (links ++ first ∷ [])) in
      chosen (goes_back link next.operation) (link.operation, next.operation) (stale_in first.operation (next ∷ links))
      load store is
      (λ back. at_cause link.cause link.operation next.operation back (first_of (holds (link, next)) others all))
      (over first (next ∷ links) load store (second_of (holds (link, next)) others all))

  -- the stale load that is told of a cycle is one
  pub stale_follows : (links : List Link) (load store : Name) → follows t p region (Cycle links) ≡ true
      → stale_of links ≡ Some (load, store) → follows t p region (Stale load store) ≡ true
  stale_follows [] load store h is = absurd (let none = is in cc)
  stale_follows (link ∷ links) load store h is =
      let ls = link ∷ links in
      let sizes = nat_lt 0 (length ls) && nat_le (length ls) most_links in
      over link ls load store (second_of sizes (list_all holds (links_around t ls)) h) is
