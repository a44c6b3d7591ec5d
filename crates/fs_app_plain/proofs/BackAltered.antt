-- A step of a hart with 64 bits with another loaded word: it is a step of a state that agrees.
use Rattle.std.proofs.Common.{◌≡◌, ℕ, suc, ◌<◌, ◌^◌, List, [], ◌∷◌, Bool, true, false, Option, Some, None, is_some, refl, sym, ap, subst, ◌∙◌, inl, inr}
use Rattle.std.specs.Prelude.{slice_get}
use Rattle.std.proofs.lemmas.Bool.{false≢true}
use Rattle.fs_instr.specs.declared.instr.Instr.{Instr}
use Rattle.fs_instr.specs.declared.instr.Instr.TheVariants.{Register, Immediate, Shift, Lui, Li, Lw, Sw, Lr, Sc, Amo, Branch, Jump, Fence, FenceTso, FenceI}
use Rattle.fs_instr.specs.Instructions.{sources_of, address_of, data_of, is_conditional}
use Rattle.fs_model.specs.declared.hart.Hart.{Hart}
use Rattle.fs_model.specs.declared.step.Step.{Step}
use Rattle.fs_model.specs.Operations.{instr_at}
use Rattle.fs_model.specs.Forms.{is_storing}
use Rattle.fs_model.specs.Trace.{AccessesNothing}
use Rattle.fs_deps.proofs.Chains.{IsIn}
use Rattle.fs_values.proofs.Clean.{SameAt, Clean, Agree, read_same}
use Rattle.fs_values.proofs.Altered.{new_load, new_store}
use Rattle.fs_app_plain.specs.Instructions64.{address_in, stored_in, next_after}
use Rattle.fs_app_plain.specs.Wide.{IsDoubleword, IsAtLocation, StoresItsWord, Accesses, IsStep, after_step}
use Rattle.fs_app_plain.proofs.BackStates.{address_same, stored_same, next_same, agree_more}

-- the step in a state with these registers
abbrev pub altered : Bool → (word : ℕ) → List ℕ → Step → Step
altered keep word x s = record {
  at = s.at;
  instr = s.instr;
  address = s.address;
  loaded = new_load keep word s.loaded;
  stored = new_store (stored_in x (new_load keep word s.loaded) s.instr) s.stored;
}

-- ---- words

load_word : (keep : Bool) (word : ℕ) (o : Option ℕ) → word < 2 ^ 64 → IsDoubleword o
    → IsDoubleword (new_load keep word o)
load_word true word o l w = w
load_word false word None l w = w
load_word false word (Some a) l w = l

no_load : (keep : Bool) (word : ℕ) (o : Option ℕ) → o ≡ None → new_load keep word o ≡ None
no_load true word o e = e
no_load false word None e = refl
no_load false word (Some a) e = absurd (cc)

pub no_store : (now o : Option ℕ) → o ≡ None → new_store now o ≡ None
no_store now None e = refl
no_store now (Some a) e = absurd (cc)

pub store_now : (now o : Option ℕ) → is_some o ≡ true → new_store now o ≡ now
store_now now None e = absurd (false≢true e)
store_now now (Some a) e = refl

pub storing : (x : List ℕ) (lo : Option ℕ) (i : Instr) → is_storing i ≡ true → is_some (stored_in x lo i) ≡ true
storing x lo (Register op rd first second) e = e
storing x lo (Immediate op rd first immediate) e = e
storing x lo (Shift op rd first amount) e = e
storing x lo (Lui rd upper) e = e
storing x lo (Li rd word) e = e
storing x lo (Lw ann rd base offset) e = e
storing x lo (Sw ann value base offset) e = refl
storing x lo (Lr ann rd base) e = e
storing x lo (Sc ann rd value base) e = refl
storing x lo (Amo op ann rd value base) e = refl
storing x lo (Branch op first second target) e = e
storing x lo (Jump target) e = e
storing x lo (Fence before after) e = e
storing x lo FenceTso e = e
storing x lo FenceI e = e

some_load : (keep : Bool) (word : ℕ) (o : Option ℕ) → keep ≡ true → o ≡ new_load keep word o
some_load true word o e = refl
some_load false word o e = absurd (false≢true e)

-- ---- a step of a state that agrees

module _ (n : ℕ) (h g : Hart) (s : Step) (keep : Bool) (word : ℕ) (is_word : word < 2 ^ 64)
    (paired : h.paired ≡ g.paired) (place : address_in h.registers s.instr ≡ address_in g.registers s.instr) where
  abbrev now : Step
  now = altered keep word g.registers s

  at_location : IsAtLocation n h s → IsAtLocation n g now
  at_location a = (a.0 ∙ place, a.1)

  nothing : AccessesNothing s → AccessesNothing now
  nothing a = (a.0, no_load keep word s.loaded a.1, no_store _ s.stored a.2)

  stores : StoresItsWord h s → is_storing s.instr ≡ true → StoresItsWord g now
  stores e b = store_now (stored_in g.registers (new_load keep word s.loaded) s.instr) s.stored
      (ap is_some e ∙ storing h.registers s.loaded s.instr b)

  accesses : (i : Instr) → s.instr ≡ i → Accesses n h s i → Accesses n g now i
  accesses (Register op rd first second) e a = nothing a
  accesses (Immediate op rd first immediate) e a = nothing a
  accesses (Shift op rd first amount) e a = nothing a
  accesses (Lui rd upper) e a = nothing a
  accesses (Li rd w) e a = nothing a
  accesses (Lw ann rd base offset) e a =
      (at_location a.0, load_word keep word s.loaded is_word a.1, no_store _ s.stored a.2)
  accesses (Sw ann value base offset) e a = (at_location a.0, no_load keep word s.loaded a.1, stores a.2 (ap is_storing e))
  accesses (Lr ann rd base) e a = (at_location a.0, load_word keep word s.loaded is_word a.1, no_store _ s.stored a.2)
  accesses (Sc ann rd value base) e a = elim a [
    | inl b ↦ inl (b.0 ∙ place, b.1 ∙ paired, no_load keep word s.loaded b.2, stores b.3 (ap is_storing e))
    | inr b ↦ inr (nothing b)
  ]
  accesses (Amo op ann rd value base) e a =
      (at_location a.0, load_word keep word s.loaded is_word a.1, stores a.2 (ap is_storing e))
  accesses (Branch op first second target) e a = nothing a
  accesses (Jump target) e a = nothing a
  accesses (Fence before after) e a = nothing a
  accesses FenceTso e a = nothing a
  accesses FenceI e a = nothing a

  -- it stores where it stored
  kept_none : s.stored ≡ None → is_some s.stored ≡ is_some now.stored
  kept_none e = ap is_some (e ∙ sym (no_store _ s.stored e))

  kept_some : StoresItsWord h s → is_storing s.instr ≡ true → is_some s.stored ≡ is_some now.stored
  kept_some e b = (ap is_some e ∙ storing h.registers s.loaded s.instr b)
      ∙ sym (ap is_some (stores e b) ∙ storing g.registers (new_load keep word s.loaded) s.instr b)

  store_kept : (i : Instr) → s.instr ≡ i → Accesses n h s i → is_some s.stored ≡ is_some now.stored
  store_kept (Register op rd first second) e a = kept_none a.2
  store_kept (Immediate op rd first immediate) e a = kept_none a.2
  store_kept (Shift op rd first amount) e a = kept_none a.2
  store_kept (Lui rd upper) e a = kept_none a.2
  store_kept (Li rd w) e a = kept_none a.2
  store_kept (Lw ann rd base offset) e a = kept_none a.2
  store_kept (Sw ann value base offset) e a = kept_some a.2 (ap is_storing e)
  store_kept (Lr ann rd base) e a = kept_none a.2
  store_kept (Sc ann rd value base) e a = elim a [
    | inl b ↦ kept_some b.3 (ap is_storing e)
    | inr b ↦ kept_none b.2
  ]
  store_kept (Amo op ann rd value base) e a = kept_some a.2 (ap is_storing e)
  store_kept (Branch op first second target) e a = kept_none a.2
  store_kept (Jump target) e a = kept_none a.2
  store_kept (Fence before after) e a = kept_none a.2
  store_kept FenceTso e a = kept_none a.2
  store_kept FenceI e a = kept_none a.2

  -- a store that is kept, of a word that is the same
  word_kept : (i : Instr) → s.instr ≡ i → Accesses n h s i → is_some s.stored ≡ true → keep ≡ true
      → stored_in h.registers s.loaded s.instr ≡ stored_in g.registers s.loaded s.instr → now.stored ≡ s.stored
  word_kept i e a b k same =
      store_now _ s.stored b
      ∙ ap (λ o. stored_in g.registers o s.instr) (sym (some_load keep word s.loaded k))
      ∙ sym same
      ∙ sym (itself i e a)
    where
      gone : s.stored ≡ None → s.stored ≡ stored_in h.registers s.loaded s.instr
      gone none = absurd (false≢true (sym (ap is_some none) ∙ b))

      itself : (i : Instr) → s.instr ≡ i → Accesses n h s i → s.stored ≡ stored_in h.registers s.loaded s.instr
      itself (Register op rd first second) e a = gone a.2
      itself (Immediate op rd first immediate) e a = gone a.2
      itself (Shift op rd first amount) e a = gone a.2
      itself (Lui rd upper) e a = gone a.2
      itself (Li rd w) e a = gone a.2
      itself (Lw ann rd base offset) e a = gone a.2
      itself (Sw ann value base offset) e a = a.2
      itself (Lr ann rd base) e a = gone a.2
      itself (Sc ann rd value base) e a = elim a [ inl c ↦ c.3 | inr c ↦ gone c.2 ]
      itself (Amo op ann rd value base) e a = a.2
      itself (Branch op first second target) e a = gone a.2
      itself (Jump target) e a = gone a.2
      itself (Fence before after) e a = gone a.2
      itself FenceTso e a = gone a.2
      itself FenceI e a = gone a.2

module _ (steps : List Step) (kept : ℕ → Bool) (n : ℕ) (code : List Instr) (i : ℕ) (h g : Hart) (s : Step) (word : ℕ)
    (is_word : word < 2 ^ 64) (agree : Agree steps kept i h g) (here : instr_at steps i ≡ s.instr) (step : IsStep n code h s)
    (address_clean : Clean steps kept i (address_of s.instr)) where
  abbrev pub instead : Step
  instead = altered (kept i) word g.registers s

  only : (o : Option ℕ) → Clean steps kept i o → SameAt h.registers g.registers (o ∷ [])
  only o clean r (inl e) = read_same steps kept i h g agree r (subst (Clean steps kept i) e clean)
  only o clean r (inr e) = absurd e

  place : address_in h.registers s.instr ≡ address_in g.registers s.instr
  place = address_same h.registers g.registers s.instr (only (address_of s.instr) address_clean)

  pub follows : IsStep n code g instead
  follows = (
    step.0 ∙ agree.at,
    subst (λ k. slice_get code k ≡ Some s.instr) agree.at step.1,
    accesses n h g s (kept i) word is_word agree.paired place s.instr refl step.2,
  )

  -- the states after it agree, where no branch tells them apart
  pub still_agree : (is_conditional s.instr ≡ true → (r : Option ℕ) → IsIn (sources_of s.instr) r → Clean steps kept i r)
      → Agree steps kept (suc i) (after_step h s) (after_step g instead)
  still_agree branch =
      agree_more steps kept i h g s instead agree here refl refl
      (store_kept n h g s (kept i) word is_word agree.paired place s.instr refl step.2)
      (λ k. some_load (kept i) word s.loaded k)
      (ap (λ at. next_after h.registers at s.instr) agree.at
      ∙ next_same h.registers g.registers g.at s.instr (λ c r is_in. read_same steps kept i h g agree r (branch c _ is_in)))

  -- the word that it stores is the same
  pub stores_the_same : kept i ≡ true → is_some s.stored ≡ true → Clean steps kept i (data_of s.instr)
      → instead.stored ≡ s.stored
  stores_the_same k b clean =
      word_kept n h g s (kept i) word is_word agree.paired place s.instr refl step.2 b k
      (stored_same h.registers g.registers s.loaded s.instr (only (data_of s.instr) clean))
