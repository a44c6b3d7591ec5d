-- What the run of a candidate does at a name is what its operation of that name does.
use Rattle.std.proofs.Common.{◌≡◌, ℕ, ◌<◌, ◌==◌, true, None, Some, Option, is_some, option_and_then, List, inl, inr, length, refl, sym, ◌∙◌, ap, arith}
use Rattle.std.specs.Prelude.{All, slice_get}
use Rattle.fs_kinds.specs.declared.reason.OperationName.{OperationName as Name}
use Rattle.fs_instr.specs.declared.instr.Instr.{Instr}
use Rattle.fs_instr.specs.declared.instr.Instr.TheVariants.{Lw, Sw, Lr, Sc, Amo}
use Rattle.fs_model.specs.declared.test.Test.{Test}
use Rattle.fs_model.specs.Test.{GoesForward}
use Rattle.fs_model.specs.declared.hart.Hart.{Hart}
use Rattle.fs_model.specs.declared.step.Step.{Step}
use Rattle.fs_model.specs.Operations.{operation, place, steps_of}
use Rattle.fs_model.specs.Trace.{Accesses}
use Rattle.fs_model.specs.Witness.{name_of}
use Rattle.fs_model.proofs.OptionalNumbers.{none_there, some_from, some_parts}
use Rattle.fs_model.proofs.WhichOperation.{of_hart}
use Rattle.fs_cert_evidence.specs.Candidates.{Candidate, IsRaw, runs_of}
use Rattle.fs_cand.proofs.Distinct.{named}
use Rattle.fs_verdict_laws.proofs.Named.{place_named}
use Rattle.fs_verdict_laws.proofs.Links.{numbered}
use Rattle.fs_cert_evidence.specs.Regions.{step_at, address_at, loaded_at, stored_at}
use Rattle.fs_verdict_laws.proofs.Lists.{find_is, found}
use Rattle.fs_verdict_laws.proofs.Names.{runs_forward, step_made}

-- what loads a word has an address
loads_somewhere : (n : ℕ) (h : Hart) (s : Step) (i : Instr) → Accesses n h s i → is_some s.loaded ≡ true → is_some s.address ≡ true
loads_somewhere n h s (Lw ann rd base offset) a there = some_from s.address _ a.0.1.2
loads_somewhere n h s (Lr ann rd base) a there = some_from s.address _ a.0.1.2
loads_somewhere n h s (Amo op ann rd value base) a there = some_from s.address _ a.0.1.2
loads_somewhere n h s (Sw ann value base offset) a there = absurd (none_there s.loaded a.1 there)
loads_somewhere n h s (Sc ann rd value base) a there = elim a [
  | inl done ↦ absurd (none_there s.loaded done.2 there)
  | inr failed ↦ absurd (none_there s.loaded failed.1 there)
]
loads_somewhere n h s _ a there = absurd (none_there s.loaded a.1 there)

step_with : (f : Step → Option ℕ) (o : Option Step) (w : ℕ) → option_and_then f o ≡ Some w → (s : Step) × (o ≡ Some s) × (f s ≡ Some w)
step_with f None w e = absurd (let none : None ≡ Some w = e in cc)
step_with f (Some s) w e = (s, refl, e)

module _ (t : Test) (c : Candidate) (forward : All GoesForward t.codes) (raw : IsRaw t c) where
  -- the hart's run
  abbrev pub run : ℕ → List Step
  run hart = steps_of c.traces hart

  -- at the name of an operation the run does what the operation does
  pub record IsDone (a : ℕ) (n : Name) : Type 0 where
    pub address : address_at (run n.hart) n.at ≡ (operation (runs_of t c) a).address
    pub loaded : loaded_at (run n.hart) n.at ≡ (operation (runs_of t c) a).loaded
    pub stored : stored_at (run n.hart) n.at ≡ (operation (runs_of t c) a).stored

  pub done : (a : ℕ) (n : Name) → name_of (runs_of t c) a ≡ Some n → IsDone a n
  done a n e =
      let x = runs_of t c in
      let of = of_hart x a n.hart (named x a n e).hart in
      let first = place_named x (runs_forward t c forward raw) a n e in
      let step : step_at (run n.hart) n.at ≡ Some of.step = find_is (λ (s : Step). s.at == n.at) (run n.hart) (place x a) of.step first of.there in
      record {
        address = ap (λ (o : Option Step). option_and_then (λ s. s.address) o) step ∙ sym (ap (λ o. o.address) of.is);
        loaded = ap (λ (o : Option Step). option_and_then (λ s. s.loaded) o) step ∙ sym (ap (λ o. o.loaded) of.is);
        stored = ap (λ (o : Option Step). option_and_then (λ s. s.stored) o) step ∙ sym (ap (λ o. o.stored) of.is);
      }

  -- where the run accesses memory there is an operation
  pub at_address : (n : Name) (w : ℕ) → address_at (run n.hart) n.at ≡ Some w → (a : ℕ) × (name_of (runs_of t c) a ≡ Some n)
  at_address n w e =
      let step = step_with (λ s. s.address) (step_at (run n.hart) n.at) w e in
      let is = found (λ (s : Step). s.at == n.at) (run n.hart) step.0 step.1 in
      let there : is_some (option_and_then (λ s. s.address) (slice_get (run n.hart) is.at)) ≡ true =
      some_from _ w (ap (λ (o : Option Step). option_and_then (λ s. s.address) o) is.there ∙ step.2) in
      let number = numbered (runs_of t c) n.hart n.at is.at is.first there in
      (number.number, number.name)

  -- and so where it loads
  pub at_load : (n : Name) → n.hart < length t.codes → is_some (loaded_at (run n.hart) n.at) ≡ true → (a : ℕ) × (name_of (runs_of t c) a ≡ Some n)
  at_load n low loads =
      let word = some_parts (loaded_at (run n.hart) n.at) loads in
      let step = step_with (λ s. s.loaded) (step_at (run n.hart) n.at) word.0 word.1 in
      let is = found (λ (s : Step). s.at == n.at) (run n.hart) step.0 step.1 in
      let harts = raw.runs.harts in
      let made = step_made t c raw n.hart is.at step.0 (omega (arith, low, harts)) is.there in
      let some = loads_somewhere (length t.locations) made.0 step.0 step.0.instr made.1.2 (some_from step.0.loaded word.0 step.2) in
      let address = some_parts step.0.address some in
      at_address n address.0 (ap (λ (o : Option Step). option_and_then (λ s. s.address) o) step.1 ∙ address.1)
