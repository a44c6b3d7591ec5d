-- What must hold in a region holds in each candidate of it.
use Rattle.std.proofs.Common.{◌≡◌, ℕ, ◌<◌, ◌==◌, Bool, true, ◌&&◌, not, Option, None, Some, is_some, List, length, refl, sym, ◌∙◌, ap, subst}
use Rattle.std.specs.Prelude.{All, nat_lt}
use Rattle.std.specs.List.{list_all}
use Rattle.std.proofs.lemmas.Bool.{false≢true, and_parts, and_from, eqb-true, ltb-true, ne_eqb, eq-eqb}
use Rattle.fs_kinds.specs.declared.placement.Entry.{Entry}
use Rattle.fs_kinds.specs.declared.reason.OperationName.{OperationName as Name}
use Rattle.fs_model.specs.declared.test.Test.{Test}
use Rattle.fs_model.specs.Test.{GoesForward, address_of}
use Rattle.fs_model.specs.declared.step.Step.{Step}
use Rattle.fs_model.specs.Numbers.{numbers_below}
use Rattle.fs_model.specs.Operations.{operation, is_store, steps_of}
use Rattle.fs_model.specs.Witness.{name_of}
use Rattle.fs_model.proofs.OptionalNumbers.{same_parts, same_from}
use Rattle.fs_cert_evidence.specs.Candidates.{Candidate, IsRaw, runs_of, rf, co}
use Rattle.fs_cert_evidence.specs.Judged.{Cause, Preserved, ReadsFrom, Coherence, FromReads, is_later}
use Rattle.fs_verdict_laws.proofs.Sourced.{source_is}
use Rattle.fs_verdict_laws.specs.Local.{HasLink}
use Rattle.fs_cert_evidence.specs.Regions.{Region, Source, Initial, From, In, same_name, address_at, loaded_at, stored_at}
use Rattle.fs_cert_evidence.specs.Musts.{in_each_run, must_be, is_later_than, overwrites, has_source, knows_enough, must}
use Rattle.fs_verdict_laws.proofs.Lists.{all_in, any_from}
use Rattle.fs_verdict_laws.proofs.Names.{name_is, is_itself, names_differ, once}
use Rattle.fs_verdict_laws.proofs.Runs.{done, at_address}
use Rattle.fs_verdict_laws.proofs.Alone.{rule_there}
use Rattle.fs_verdict_laws.proofs.Coherent.{harts_differ, initial_first}

same_source_is : (o : Option Source) (s : Source) → has_source o s ≡ true → o ≡ Some s
same_source_is None s e = absurd (false≢true e)
same_source_is (Some Initial) Initial e = refl
same_source_is (Some Initial) (From b) e = absurd (false≢true e)
same_source_is (Some (From a)) Initial e = absurd (false≢true e)
same_source_is (Some (From a)) (From b) e = ap (λ n. Some (From n)) (name_is a b e)

pub differ : (a b : Name) → not (same_name a b) ≡ true → a ≡ b → ⊥
differ a b other same = false≢true (sym (ap not (is_itself a b same)) ∙ other)

pub other_harts : (m n : ℕ) → not (m == n) ≡ true → m ≡ n → ⊥
other_harts m n other same = false≢true (sym (ap not (eq-eqb m n same)) ∙ other)

module _ (t : Test) (c : Candidate) (forward : All GoesForward t.codes) (raw : IsRaw t c) (region : Region) (inside : In t c region) where
  -- what each run that is left passes, the candidate's run passes
  pub record Passes (hart : ℕ) (test : List Step → Bool) : Type 0 where
    pub low : hart < length t.codes
    pub passes : test (steps_of c.traces hart) ≡ true

  pub passes_each : (hart : ℕ) (test : List Step → Bool) → in_each_run t region hart test ≡ true → Passes hart test
  passes_each hart test h =
      let parts = and_parts (nat_lt hart (length t.codes)) (list_all test (region.runs hart)) h in
      let low = ltb-true hart (length t.codes) parts.0 in
      record { low = low; passes = all_in test (region.runs hart) (steps_of c.traces hart) parts.1 (inside.runs hart low) }

  -- ---- accesses

  pub record IsAt (n : Name) (location : ℕ) : Type 0 where
    pub a : ℕ
    pub name : name_of (runs_of t c) a ≡ Some n
    pub address : (operation (runs_of t c) a).address ≡ Some (address_of location)

  pub accesses_there : (access : List Step → ℕ → Option ℕ) (n : Name) (location : ℕ) → must_be t region access n location ≡ true → IsAt n location
  accesses_there access n location h =
      let at = passes_each n.hart _ h in
      let parts = and_parts (is_some (access (steps_of c.traces n.hart) n.at)) _ at.passes in
      let same = same_parts (address_at (steps_of c.traces n.hart) n.at) (Some (address_of location)) parts.1 in
      let is : address_at (steps_of c.traces n.hart) n.at ≡ Some (address_of location) = same.1 ∙ sym same.2 in
      let there = at_address t c forward raw n (address_of location) is in
      record { a = there.0; name = there.1; address = sym (done t c forward raw there.0 n there.1).address ∙ is }

  pub stores_there : (n : Name) (location a : ℕ) → must_be t region stored_at n location ≡ true → name_of (runs_of t c) a ≡ Some n → is_store (runs_of t c) a ≡ true
  stores_there n location a h name =
      let at = passes_each n.hart _ h in
      let parts = and_parts (is_some (stored_at (steps_of c.traces n.hart) n.at)) _ at.passes in
      sym (ap is_some (done t c forward raw a n name).stored) ∙ parts.0

  -- ---- what a load returns, and what is later

  pub record IsLater (load store : Name) : Type 0 where
    pub a : ℕ
    pub s : ℕ
    pub b : ℕ
    pub one : name_of (runs_of t c) a ≡ Some load
    pub source : rf c a ≡ Some s
    pub two : name_of (runs_of t c) b ≡ Some store
    pub later : co c s b ≡ true

  pub later : (store load : Name) → overwrites t region store load ≡ true → IsLater load store
  later store load h = by_source (region.source load) refl h
    where
      by_source : (o : Option Source) → region.source load ≡ o → is_later_than t region store load o ≡ true → IsLater load store
      by_source None e k = absurd (false≢true k)
      by_source (Some Initial) e k =
          let x = runs_of t c in
          let at = any_from (λ location. must_be t region loaded_at load location && must_be t region stored_at store location) (numbers_below (length t.locations)) k in
          let parts = and_parts (must_be t region loaded_at load at.0) (must_be t region stored_at store at.0) at.2 in
          let first = accesses_there loaded_at load at.0 parts.0 in
          let second = accesses_there stored_at store at.0 parts.1 in
          let from = inside.sources load Initial e in
          let one : from.0 ≡ first.a = once t c forward raw from.0 first.a load from.2 first.name in
          let source : rf c first.a ≡ Some from.1 = subst (λ (z : ℕ). rf c z ≡ Some from.1) one from.3 in
          let is = source_is t c raw first.a from.1 source in
          let word = same_parts (operation x from.1).address (operation x first.a).address is.same in
          let address : (operation x from.1).address ≡ Some (address_of at.0) = word.1 ∙ sym word.2 ∙ first.address in
          record {
            a = first.a;
            s = from.1;
            b = second.a;
            one = first.name;
            source = source;
            two = second.name;
            later = initial_first t c raw from.1 second.a store is.store (stores_there store at.0 second.a parts.1 second.name)
                (same_from (operation x from.1).address (operation x second.a).address (address_of at.0) address second.address) from.4 second.name;
          }
      by_source (Some (From k)) e before =
          let from = inside.sources load (From k) e in
          let order = inside.orders k store before in
          let one : order.0 ≡ from.1 = once t c forward raw order.0 from.1 k order.2 from.4 in
          record {
            a = from.0;
            s = from.1;
            b = order.1;
            one = from.2;
            source = from.3;
            two = order.3;
            later = subst (λ (z : ℕ). co c z order.1 ≡ true) one order.4;
          }

  -- ---- edges

  pub edge_there : (p : List Entry) (cause : Cause) (a b : Name) → must t region p cause a b ≡ true → HasLink t p c a b cause
  edge_there p (Preserved r) a b h =
      let parts = and_parts (a.hart == b.hart) _ h in
      let rest = and_parts (knows_enough t region r a b) _ parts.1 in
      let at = passes_each a.hart _ rest.1 in
      let there = rule_there t c forward raw region inside p a b at.low (sym (eqb-true a.hart b.hart parts.0)) r rest.0 at.passes in
      (there.a, there.b, there.one, there.two, there.holds)
  edge_there p ReadsFrom a b h =
      let parts = and_parts (not (a.hart == b.hart)) _ h in
      let from = inside.sources b (From a) (same_source_is (region.source b) (From a) parts.1) in (
        from.1,
        from.0,
        from.4,
        from.2,
        and_from _ _ (same_from (rf c from.0) (Some from.1) from.1 from.3 refl)
            (ap not (harts_differ (runs_of t c) from.1 from.0 a b from.4 from.2 (other_harts a.hart b.hart parts.0))),
      )
  edge_there p Coherence a b h = inside.orders a b h
  edge_there p FromReads a b h =
      let parts = and_parts (not (same_name a b)) _ h in
      let is = later b a parts.1 in (
        is.a,
        is.b,
        is.one,
        is.two,
        and_from _ _ (ap not (ne_eqb is.a is.b (names_differ (runs_of t c) is.a is.b a b is.one is.two (differ a b parts.0))))
            (ap (λ (o : Option ℕ). is_later c o is.b) is.source ∙ is.later),
      )
