-- An sc.w that is paired with an lr.w stores, to the word that the lr.w loads.
use Rattle.std.proofs.Common.{◌≡◌, ℕ, zero, suc, ◌+◌, ◌-◌, ◌<◌, inl, inr, ◌||◌, true, false, Option, None, Some, is_some, option_map, unwrap_or, List, [], ◌∷◌, length, refl, sym, ◌∙◌, ap, subst, arith}
use Rattle.std.specs.Prelude.{slice_get}
use Rattle.std.proofs.lemmas.Bool.{false≢true, and_parts, or_parts, ltb-true, not-true}
use Rattle.fs_instr.specs.declared.instr.Instr.{Instr}
use Rattle.fs_instr.specs.declared.instr.Instr.TheVariants.{Lr, Sc}
use Rattle.fs_model.specs.declared.test.Test.{Test}
use Rattle.fs_model.specs.declared.hart.Hart.{Hart}
use Rattle.fs_model.specs.declared.step.Step.{Step}
use Rattle.fs_instr.specs.Instructions.{nop}
use Rattle.fs_model.specs.Forms.{is_lr, is_sc}
use Rattle.fs_model.specs.Execute.{stored_in}
use Rattle.fs_model.specs.Trace.{IsWord, Accesses, IsStep, AreSteps, after_step, paired_after, start_with}
use Rattle.fs_model.specs.Operations.{operation, place, steps_of, trace_of, instr_at, are_paired, is_load, is_store, same_word, po, paired}
use Rattle.fs_model.specs.Execution.{pre_execution, code_of, registers_of}
use Rattle.fs_model.proofs.OptionalNumbers.{same_from, some_parts, none_there}
use Rattle.fs_model.proofs.RangeTests.{none_at}
use Rattle.fs_model.proofs.WhichOperation.{of_hart}
use Rattle.fs_model.proofs.ProgramOrder.{in_po}
use Rattle.fs_model.proofs.RunLocations.{AreRuns, same_step, made_at}

lr_loads : (n : ℕ) (h : Hart) (s : Step) (i : Instr) → is_lr i ≡ true → Accesses n h s i → is_some s.loaded ≡ true
lr_loads n h s (Lr ann rd base) e a = word_there s.loaded a.1
  where
    word_there : (o : Option ℕ) → IsWord o → is_some o ≡ true
    word_there None w = absurd w
    word_there (Some a) w = refl
lr_loads n h s _ e a = absurd (false≢true e)

lr_pairs : (h : Hart) (s : Step) (i : Instr) → is_lr i ≡ true → paired_after h s i ≡ s.address
lr_pairs h s (Lr ann rd base) e = refl
lr_pairs h s _ e = absurd (false≢true e)

pair_kept : (h : Hart) (s : Step) (i : Instr) → is_lr i ≡ false → is_sc i ≡ false → paired_after h s i ≡ h.paired
pair_kept h s (Lr ann rd base) e f = absurd (false≢true (sym e))
pair_kept h s (Sc ann rd value base) e f = absurd (false≢true (sym f))
pair_kept h s _ e f = refl

-- an sc.w that accesses memory stores, at the address of its pair
abbrev StoresPaired : Option ℕ → Step → Type 0
StoresPaired address u = (u.address ≡ address) × (is_some u.stored ≡ true)

sc_stores : (n : ℕ) (h : Hart) (u : Step) (i : Instr) → u.instr ≡ i → is_sc i ≡ true → Accesses n h u i → is_some u.address ≡ true → StoresPaired h.paired u
sc_stores n h u (Sc ann rd value base) same e access there = elim access [
  | inl done ↦ (
    done.1,
    ap is_some (done.3 ∙ ap (λ i. stored_in h.registers u.loaded i) same),
  )
  | inr failed ↦ absurd (none_there u.address failed.0 there)
]
sc_stores n h u _ same e access there = absurd (false≢true e)

-- neither an lr.w nor an sc.w stands at step k
abbrev HasNoPair : List Step → ℕ → Type 0
HasNoPair steps k = (is_lr (instr_at steps k) || is_sc (instr_at steps k)) ≡ false

pair_from : (n : ℕ) (code : List Instr) (h : Hart) (steps : List Step) (j : ℕ) (u : Step) (address : Option ℕ) → AreSteps n code h steps → h.paired ≡ address
    → slice_get steps j ≡ Some u → is_sc u.instr ≡ true → is_some u.address ≡ true → ((k : ℕ) → k < j → HasNoPair steps k) → StoresPaired address u
pair_from n code h [] j u address run pair e sc there none = absurd (let f : None ≡ Some u = e in cc)
pair_from n code h (v ∷ vs) zero u address run pair e sc there none =
    let here : IsStep n code h u = subst (IsStep n code h) (same_step v u e) run.0 in
    let stores = sc_stores n h u u.instr refl sc here.2 there in
    (stores.0 ∙ pair, stores.1)
pair_from n code h (v ∷ vs) (suc j) u address run pair e sc there none =
    let parts = or_parts (is_lr v.instr) (is_sc v.instr) (none 0 (omega arith)) in
    pair_from n code (after_step h v) vs j u address run.1 (pair_kept h v v.instr parts.0 parts.1 ∙ pair) e sc there
    (λ k low. none (suc k) (omega (arith, low)))

pair_at : (n : ℕ) (code : List Instr) (h : Hart) (steps : List Step) (i j : ℕ) (s u : Step) → AreSteps n code h steps → i < j
    → slice_get steps i ≡ Some s → is_lr s.instr ≡ true → slice_get steps j ≡ Some u → is_sc u.instr ≡ true → is_some u.address ≡ true
    → ((k : ℕ) → i < k → k < j → HasNoPair steps k) → StoresPaired s.address u
pair_at n code h [] i j s u run low e lr f sc there none = absurd (let g : None ≡ Some s = e in cc)
pair_at n code h (v ∷ vs) i zero s u run low e lr f sc there none = absurd (omega (arith, low))
pair_at n code h (v ∷ vs) zero (suc j) s u run low e lr f sc there none =
    let same = same_step v s e in
    pair_from n code (after_step h v) vs j u s.address run.1
    (lr_pairs h v v.instr (subst (λ (z : Step). is_lr z.instr ≡ true) (sym same) lr) ∙ ap (λ z. z.address) same) f sc there
    (λ k high. none (suc k) (omega arith) (omega (arith, high)))
pair_at n code h (v ∷ vs) (suc i) (suc j) s u run low e lr f sc there none =
    pair_at n code (after_step h v) vs i j s u run.1 (omega (arith, low)) e lr f sc there
    (λ k after before. none (suc k) (omega (arith, after)) (omega (arith, before)))

-- what the test for a pair says
record ArePaired (steps : List Step) (i j : ℕ) : Type 0 where
  low : i < j
  lr : is_lr (instr_at steps i) ≡ true
  sc : is_sc (instr_at steps j) ≡ true
  none : (k : ℕ) → i < k → k < j → HasNoPair steps k

are_pair : (steps : List Step) (i j : ℕ) → are_paired steps i j ≡ true → ArePaired steps i j
are_pair steps i j h =
    let parts = and_parts _ _ h in
    let heads = and_parts _ _ parts.0 in
    let front = and_parts _ _ heads.0 in
    let low = ltb-true i j front.0 in
    record {
      low = low;
      lr = front.1;
      sc = heads.1;
      none = λ k after before. none_at (λ k. is_lr (instr_at steps k) || is_sc (instr_at steps k)) (i + 1) (j - (i + 1)) k (not-true _ parts.1)
          (omega (arith, after)) (omega (arith, before, after));
    }

module _ (t : Test) (traces : List (List Step)) (are : AreRuns t traces) where
  -- of a pair, the first loads and the second stores the same word
  pub pair_accesses : (r w : ℕ) → po (pre_execution t traces) r w ≡ true → paired (pre_execution t traces) r w ≡ true
      → (is_load (pre_execution t traces) r ≡ true) × (is_store (pre_execution t traces) w ≡ true) × (same_word (pre_execution t traces) r w ≡ true)
  pair_accesses r w before pair =
      let x = pre_execution t traces in
      let po = in_po x r w before in
      let first = of_hart x r po.hart po.first in
      let second = of_hart x w po.hart po.second in
      let s = first.step in
      let u = second.step in
      let steps : trace_of x r ≡ steps_of traces po.hart = ap (λ o. unwrap_or (option_map (steps_of traces) o) []) po.first in
      let are_pair' = are_pair (steps_of traces po.hart) (place x r) (place x w) (subst (λ (ss : List Step). are_paired ss (place x r) (place x w) ≡ true) steps pair) in
      let lr : is_lr s.instr ≡ true = subst (λ (o : Option Step). is_lr (unwrap_or (option_map (λ z. z.instr) o) nop) ≡ true) first.there are_pair'.lr in
      let sc : is_sc u.instr ≡ true = subst (λ (o : Option Step). is_sc (unwrap_or (option_map (λ z. z.instr) o) nop) ≡ true) second.there are_pair'.sc in
      let harts = are.harts in
      let low : po.hart < length t.codes = omega (arith, first.traced, harts) in
      let stores = pair_at (length t.locations) (code_of t po.hart) (start_with (registers_of t po.hart)) (steps_of traces po.hart)
      (place x r) (place x w) s u (are.runs po.hart low).0 are_pair'.low first.there lr second.there sc second.accessing are_pair'.none in
      let made = made_at t traces are po.hart (place x r) s first.traced first.there in
      let at = some_parts s.address first.accessing in (
        ap (λ o. is_some o.loaded) first.is ∙ lr_loads (length t.locations) made.0 s s.instr lr made.1.2,
        ap (λ o. is_some o.stored) second.is ∙ stores.1,
        same_from (operation x r).address (operation x w).address at.0 (ap (λ o. o.address) first.is ∙ at.1)
            (ap (λ o. o.address) second.is ∙ stores.0 ∙ at.1),
      )
