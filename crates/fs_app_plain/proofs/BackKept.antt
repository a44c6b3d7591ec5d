-- A run of a hart with 64 bits that keeps the words of the loads that a store rests on keeps the store. The other loads
-- return extended initial words.
use Rattle.std.proofs.Common.{◌≡◌, ◌==◌, ◌&&◌, ℕ, zero, suc, ◌+◌, ◌<◌, ◌≤◌, List, [], ◌∷◌, Bool, true, false, Option, Some, None, is_some, refl, sym, ap, subst, ◌∙◌, inl, inr, arith}
use Rattle.std.specs.Prelude.{slice_get, unwrap_or, option_map}
use Rattle.std.specs.List.{list_any}
use Rattle.std.proofs.lemmas.Bool.{cases_eq, eq-eqb, both_ways, or_left, or_right, and_from}
use Rattle.std.proofs.lemmas.List.Elements.{All-cons}
use Rattle.fs_instr.specs.declared.instr.Instr.{Instr}
use Rattle.fs_instr.specs.declared.instr.Instr.TheVariants.{Lw, Sw, Lr, Sc, Amo}
use Rattle.fs_instr.specs.Instructions.{nop, sources_of, address_of, data_of, is_conditional}
use Rattle.fs_model.specs.Test.{address_of as location_address}
use Rattle.fs_model.specs.declared.hart.Hart.{Hart}
use Rattle.fs_model.specs.declared.step.Step.{Step}
use Rattle.fs_model.specs.Numbers.{between}
use Rattle.fs_model.specs.Operations.{instr_at}
use Rattle.fs_model.specs.Trace.{IsDeclared}
use Rattle.fs_model.specs.Dependencies.{depends, address_depends, data_depends, control_depends}
use Rattle.fs_model.specs.Values.{LoadsOne, LoadsFrom, StoresWord}
use Rattle.fs_deps.proofs.Chains.{IsIn, has_to, depends_from, depends_forward}
use Rattle.fs_deps.proofs.Between.{any_between_to}
use Rattle.fs_values.specs.ThinAir.{rests_on}
use Rattle.fs_values.proofs.Clean.{Clean, Agree}
use Rattle.fs_values.proofs.Altered.{new_load}
use Rattle.fs_values.proofs.Finish.{AreInitial, initial_at, initial_word, initial_value}
use Rattle.fs_app_plain.specs.Instructions64.{extended}
use Rattle.fs_app_plain.specs.Wide.{Accesses, IsStep, AreSteps, after_step}
use Rattle.fs_app_plain.proofs.Given.{WordLaws}
use Rattle.fs_app_plain.proofs.BackAltered.{instead, follows, still_agree, stores_the_same}

-- the word of location k is that of V, extended
abbrev pub ExtendedFrom : (ℕ → ℕ → Type 0) → ℕ → ℕ → Type 0
ExtendedFrom V k word = (v : ℕ) × V k v × (word ≡ extended v)

instr_here : (steps : List Step) (i : ℕ) (u : Step) → slice_get steps i ≡ Some u → instr_at steps i ≡ u.instr
instr_here steps i u e = ap (λ o. unwrap_or (option_map (λ (s : Step). s.instr) o) nop) e

-- a step that loads is at a location
pub loads_declared : (n : ℕ) (h : Hart) (s : Step) (w : ℕ) (i : Instr) → s.loaded ≡ Some w → Accesses n h s i
    → IsDeclared n s.address
loads_declared n h s w i l a = by_form i a
  where
    none : s.loaded ≡ None → IsDeclared n s.address
    none e = let both : None ≡ Some w = sym e ∙ l in absurd (cc)

    by_form : (i : Instr) → Accesses n h s i → IsDeclared n s.address
    by_form (Lw ann rd base offset) a = a.0.1
    by_form (Sw ann value base offset) a = a.0.1
    by_form (Lr ann rd base) a = a.0.1
    by_form (Sc ann rd value base) a = elim a [ inl b ↦ none b.2 | inr b ↦ none b.1 ]
    by_form (Amo op ann rd value base) a = a.0.1
    by_form _ a = none a.1

module _ (laws : WordLaws) (n : ℕ) (code : List Instr) (words : List ℕ) (V : ℕ → ℕ → Type 0) (initial : AreInitial n words V)
    (steps : List Step) (j : ℕ) (s : Step) (at_j : slice_get steps j ≡ Some s) (stores : is_some s.stored ≡ true)
    (loads : (i : ℕ) (u : Step) → i ≤ j → rests_on steps j i ≡ true → slice_get steps i ≡ Some u → LoadsOne (ExtendedFrom V) u) where
  abbrev pub kept : ℕ → Bool
  kept = rests_on steps j

  kept_itself : kept j ≡ true
  kept_itself = or_left (j == j) _ (eq-eqb j j refl)

  by_address : (l : ℕ) → address_depends steps l j ≡ true → kept l ≡ true
  by_address l d = or_right (l == j) _ (or_left (address_depends steps l j) _ d)

  by_data : (l : ℕ) → data_depends steps l j ≡ true → kept l ≡ true
  by_data l d = or_right (l == j) _ (or_right (address_depends steps l j) _ (or_left (data_depends steps l j) _ d))

  by_control : (l : ℕ) → control_depends steps l j ≡ true → kept l ≡ true
  by_control l d =
      or_right (l == j) _ (or_right (address_depends steps l j) _ (or_right (data_depends steps l j) _
      (or_left (control_depends steps l j) _ d)))

  by_between : (l : ℕ) → list_any (address_depends steps l) (between l j) ≡ true → kept l ≡ true
  by_between l d =
      or_right (l == j) _ (or_right (address_depends steps l j) _ (or_right (data_depends steps l j) _
      (or_right (control_depends steps l j) _ d)))

  -- the registers that address an access up to j, and decide a branch before it, depend on kept steps only
  address_clean : (i : ℕ) (u : Step) → i ≤ j → slice_get steps i ≡ Some u → Clean steps kept i (address_of u.instr)
  address_clean i u low at l k d =
      let there : address_depends steps l i ≡ true = ap (λ x. depends steps l i (address_of x)) (instr_here steps i u at) ∙ d in
      elim (cases_eq i j) [
        | inl same ↦ both_ways (kept l) k (by_address l (subst (λ (m : ℕ). address_depends steps l m ≡ true) same there))
        | inr other ↦ (
            let after = depends_forward steps l i _ (depends_from steps l i _ d) in
            both_ways (kept l) k (by_between l (any_between_to (address_depends steps l) l j i after (omega (arith, low, other)) there)))
      ]

  branch_clean : (i : ℕ) (u : Step) → i < j → slice_get steps i ≡ Some u → is_conditional u.instr ≡ true
      → (r : Option ℕ) → IsIn (sources_of u.instr) r → Clean steps kept i r
  branch_clean i u low at c r is_in l k d =
      let here = instr_here steps i u at in
      let after = depends_forward steps l i r (depends_from steps l i r d) in
      let branch = ap is_conditional here ∙ c in
      let source = has_to (depends steps l i) (sources_of (instr_at steps i)) r
      (subst (λ (x : Instr). IsIn (sources_of x) r) (sym here) is_in) d in
      both_ways (kept l) k (by_control l (any_between_to
      (λ m. ◌&&◌ (is_conditional (instr_at steps m)) (list_any (depends steps l m) (sources_of (instr_at steps m))))
      l j i after low (and_from _ _ branch source)))

  data_clean : Clean steps kept j (data_of s.instr)
  data_clean l k d =
      both_ways (kept l) k (by_data l (ap (λ x. depends steps l j (data_of x)) (instr_here steps j s at_j) ∙ d))

  -- the run stores the word of step j at its location
  abbrev pub HasStore : List Step → Type 0
  HasStore us = (k w : ℕ) → s.address ≡ Some (location_address k) → s.stored ≡ Some w → StoresWord us k w

  -- the word that a load returns which isn't kept
  abbrev fresh : Option ℕ → ℕ
  fresh address = extended (initial_at words address)

  loads_altered : (i : ℕ) (h : Hart) (u : Step) (w : ℕ) (keep : Bool) → i ≤ j → slice_get steps i ≡ Some u
      → IsStep n code h u → kept i ≡ keep
      → (k word : ℕ) → u.address ≡ Some (location_address k) → new_load keep (fresh u.address) u.loaded ≡ Some word
      → ExtendedFrom V k word
  loads_altered i h u w true low at step e k word address l = loads i u low e at k word address l
  loads_altered i h u w false low at step e k word address l = by_load u.loaded refl l
    where
      by_load : (o : Option ℕ) → u.loaded ≡ o → new_load false (fresh u.address) o ≡ Some word → ExtendedFrom V k word
      by_load None q l = absurd (cc)
      by_load (Some a) q l =
          let same : Some (fresh u.address) ≡ Some word = l in
          let one : word ≡ fresh u.address = cc in (
            initial_at words u.address,
            initial_value n words V initial u.address k (loads_declared n h u a u.instr q step.2) address,
            one,
          )

  -- steps that a hart in this state makes, with the store among them
  pub record Keeps (g : Hart) : Type 0 where
    pub run : List Step
    pub made : AreSteps n code g run
    pub takes : LoadsFrom (ExtendedFrom V) run
    pub store : HasStore run

  follow : (d i : ℕ) (h g : Hart) (ss : List Step) → i + d ≡ j → ((k : ℕ) → slice_get ss k ≡ slice_get steps (i + k))
      → Agree steps kept i h g → AreSteps n code h ss → Keeps g
  follow d i h g [] e same agree r =
      let both : None ≡ Some s = same d ∙ ap (slice_get steps) e ∙ at_j in absurd (cc)
  follow zero i h g (u ∷ ss) e same agree r =
      let here : i ≡ j = omega (arith, e) in
      let at : slice_get steps i ≡ Some u = ap (slice_get steps) (let q : i ≡ i + 0 = omega arith in q) ∙ sym (same 0) in
      let both : Some u ≡ Some s = sym at ∙ ap (slice_get steps) here ∙ at_j in
      let one : u ≡ s = cc in
      let word = fresh u.address in
      let small = laws.fits (initial_at words u.address) (initial_word n words V initial u.address) in
      let clean = address_clean i u (omega (arith, here)) at in
      let v = instead steps kept n code i h g u word small agree (instr_here steps i u at) r.0 clean in
      let step = follows steps kept n code i h g u word small agree (instr_here steps i u at) r.0 clean in
      let data' : Clean steps kept i (data_of u.instr) = subst (λ (x : Step). Clean steps kept i (data_of x.instr)) (sym one)
      (subst (λ (m : ℕ). Clean steps kept m (data_of s.instr)) (sym here) data_clean) in
      let stored = stores_the_same steps kept n code i h g u word small agree (instr_here steps i u at) r.0 clean
      (subst (λ (m : ℕ). kept m ≡ true) (sym here) kept_itself) (subst (λ (x : Step). is_some x.stored ≡ true) (sym one) stores) data' in
      record {
        run = v ∷ [];
        made = (step, tt);
        takes = All-cons (LoadsOne (ExtendedFrom V)) v []
            (λ k w a l. loads_altered i h u w (kept i) (omega (arith, here)) at r.0 refl k w a l) (λ k x l. absurd (omega (arith, l)));
        store = λ k w a b. inl (ap (λ (x : Step). x.address) one ∙ a, stored ∙ ap (λ (x : Step). x.stored) one ∙ b);
      }
  follow (suc d) i h g (u ∷ ss) e same agree r =
      let at : slice_get steps i ≡ Some u = ap (slice_get steps) (let q : i ≡ i + 0 = omega arith in q) ∙ sym (same 0) in
      let low : i < j = omega (arith, e) in
      let word = fresh u.address in
      let small = laws.fits (initial_at words u.address) (initial_word n words V initial u.address) in
      let clean = address_clean i u (omega (arith, low)) at in
      let v = instead steps kept n code i h g u word small agree (instr_here steps i u at) r.0 clean in
      let step = follows steps kept n code i h g u word small agree (instr_here steps i u at) r.0 clean in
      let more = still_agree steps kept n code i h g u word small agree (instr_here steps i u at) r.0 clean
      (λ c r' is_in. branch_clean i u low at c r' is_in) in
      let rest = follow d (suc i) (after_step h u) (after_step g v) ss (omega (arith, e))
      (λ k. same (suc k) ∙ ap (slice_get steps) (let q : i + suc k ≡ suc i + k = omega arith in q)) more r.1 in
      record {
        run = v ∷ rest.run;
        made = (step, rest.made);
        takes = All-cons (LoadsOne (ExtendedFrom V)) v rest.run
            (λ k w a l. loads_altered i h u w (kept i) (omega (arith, low)) at r.0 refl k w a l) rest.takes;
        store = λ k w a b. inr (rest.store k w a b);
      }

  pub store_kept : (h : Hart) → AreSteps n code h steps → Keeps h
  store_kept h r =
      follow j 0 h h steps (omega arith) (λ k. ap (slice_get steps) (let q : k ≡ 0 + k = omega arith in q))
      (record { at = refl; paired = refl; size = refl; registers = λ q c. refl }) r
