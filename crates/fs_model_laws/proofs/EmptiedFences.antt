-- Fences placed before FENCEs that order no memory order what the FENCEs did.
use Rattle.std.proofs.Common.{◌≡◌, ℕ, zero, suc, ◌+◌, ◌-◌, ◌<◌, Bool, true, false, ◌||◌, List, [], length, map, Option, None, Some, refl, ap, sym, ◌∙◌, arith}
use Rattle.std.specs.Prelude.{is_some, option_map, option_and_then, unwrap_or, slice_get}
use Rattle.std.specs.List.{list_any, range_with_len}
use Rattle.std.proofs.lemmas.Bool.{false≢true}
use Rattle.std.proofs.lemmas.List.{length-map}
use Rattle.std.proofs.lemmas.Option.{slice_get-map}
use Rattle.fs_instr.specs.declared.instr.Instr.{Instr}
use Rattle.fs_instr.specs.declared.instr.Instr.TheVariants.{Register, Immediate, Shift, Lui, Li, Lw, Sw, Lr, Sc, Amo, Branch, Jump, Fence, FenceTso, FenceI}
use Rattle.fs_instr.specs.Instructions.{nop}
use Rattle.fs_kinds.specs.declared.kind.Classes.{Classes}
use Rattle.fs_kinds.specs.declared.placement.Entry.{Entry}
use Rattle.fs_kinds.specs.Placement.{kind_at}
use Rattle.fs_model.specs.declared.hart.Hart.{Hart}
use Rattle.fs_model.specs.declared.operation.Operation.{Operation}
use Rattle.fs_model.specs.declared.step.Step.{Step}
use Rattle.fs_model.specs.declared.test.Test.{Test}
use Rattle.fs_model.specs.Slots.{slot_at}
use Rattle.fs_model.specs.Forms.{annotation, is_amo, is_sc}
use Rattle.fs_model.specs.Numbers.{between}
use Rattle.fs_model.specs.Operations.{PreExecution, accesses, operation, place, trace_of, classes, po, are_paired, instr_at, steps_of}
use Rattle.fs_model.specs.Dependencies.{address_depends, data_depends, control_depends}
use Rattle.fs_model.specs.Fences.{instr_orders, kind_orders, placed_before, placed_between, fence_between}
use Rattle.fs_model.specs.Trace.{Accesses}
use Rattle.fs_model.specs.Execution.{code_of, registers_of, IsTrace}
use Rattle.fs_model.specs.Trace.{start_with}
use Rattle.fs_model.proofs.ProgramOrder.{in_po}
use Rattle.fs_model.proofs.WhichOperation.{of_hart}
use Rattle.fs_model_laws.proofs.FencedAlike.{Alike}
use Rattle.fs_model_laws.proofs.FencedDepends.{none_passes}
use Rattle.fs_model_laws.proofs.FencedSpread.{any_same, or_false}
use Rattle.fs_model_laws.specs.InPlace.{memory_kind, as_written}
use Rattle.fs_model_laws.proofs.Emptying.{emptied_step, same_of_emptied, by_kind, emptied_orders}
use Rattle.fs_model_laws.proofs.EmptiedRuns.{IsOfCode, of_code}
use Rattle.fs_model_laws.proofs.EmptiedOperations.{emptied_operation, emptied_pre, accesses_emptied, operation_emptied, place_same, classes_same, hart_same, order_same, run_same}
use Rattle.fs_model_laws.proofs.EmptiedDepends.{instr_there, address_there, data_there, control_there, address_between_there, paired_there}
use Rattle.fs_model_laws.proofs.WrittenPlaces.{written_is}

-- ---- one number more

or_assoc : (a b c : Bool) → (a || (b || c)) ≡ ((a || b) || c)
or_assoc true b c = refl
or_assoc false b c = refl

any_last : (g : ℕ → Bool) (m d n : ℕ) → n ≡ m + d
    → list_any g (range_with_len m (suc d)) ≡ (list_any g (range_with_len m d) || g n)
any_last g m zero n e = let same : m ≡ n = omega (arith, e) in or_false (g m) ∙ ap g same
any_last g m (suc d) n e =
    ap (λ c. g m || c) (any_last g (m + 1) d n (omega (arith, e)))
    ∙ or_assoc (g m) (list_any g (range_with_len (m + 1) d)) (g n)

any_between : (g : ℕ → Bool) (i j : ℕ) → i < j → list_any g (between i (j + 1)) ≡ (list_any g (between i j) || g j)
any_between g i j low =
    let long : j + 1 - (i + 1) ≡ suc (j - (i + 1)) = omega (arith, low) in
    ap (λ d. list_any g (range_with_len (i + 1) d)) long ∙ any_last g (i + 1) (j - (i + 1)) j (omega (arith, low))

-- ---- an access is no FENCE

no_access : {X : Type 0} (s : Step) → s.address ≡ None → is_some s.address ≡ true → X
no_access s e accessing = absurd (false≢true (sym (ap is_some e) ∙ accessing))

access_orders : (first second : Classes) (n : ℕ) (h : Hart) (s : Step) (i : Instr) → Accesses n h s i → is_some s.address ≡ true
    → instr_orders first second i ≡ false
access_orders first second n h s (Register op rd a b) r accessing = refl
access_orders first second n h s (Immediate op rd a immediate) r accessing = refl
access_orders first second n h s (Shift op rd a amount) r accessing = refl
access_orders first second n h s (Lui rd upper) r accessing = refl
access_orders first second n h s (Li rd word) r accessing = refl
access_orders first second n h s (Lw ann rd base offset) r accessing = refl
access_orders first second n h s (Sw ann value base offset) r accessing = refl
access_orders first second n h s (Lr ann rd base) r accessing = refl
access_orders first second n h s (Sc ann rd value base) r accessing = refl
access_orders first second n h s (Amo op ann rd value base) r accessing = refl
access_orders first second n h s (Branch op a b target) r accessing = refl
access_orders first second n h s (Jump target) r accessing = refl
access_orders first second n h s (Fence before after) r accessing = no_access s r.0 accessing
access_orders first second n h s FenceTso r accessing = no_access s r.0 accessing
access_orders first second n h s FenceI r accessing = refl

-- ---- where nothing is placed

nothing_at : (hart : ℕ) (o : Option Step) → option_and_then (λ s. kind_at (slot_at hart s.at) []) o ≡ None
nothing_at hart None = refl
nothing_at hart (Some s) = refl

nothing_before : (h : Option ℕ) (steps : List Step) (k : ℕ)
    → option_and_then (λ hart. option_and_then (λ s. kind_at (slot_at hart s.at) []) (slice_get steps k)) h ≡ None
nothing_before None steps k = refl
nothing_before (Some hart) steps k = nothing_at hart (slice_get steps k)

nothing_placed : (x : PreExecution) (a b : ℕ) → placed_between x [] a b ≡ false
nothing_placed x a b =
    none_passes _ (λ k. ap (kind_orders (classes x a) (classes x b)) (nothing_before (operation x a).hart (trace_of x a) k)) _

-- ---- a fence where a FENCE was

placed_at : (first second : Classes) (hart : ℕ) (p : List Entry) (o : Option Step)
    → ((s : Step) → o ≡ Some s → kind_at (slot_at hart s.at) p ≡ memory_kind s.instr)
    → kind_orders first second (option_and_then (λ s. kind_at (slot_at hart s.at) p) (option_map emptied_step o))
    ≡ instr_orders first second (unwrap_or (option_map (λ s. s.instr) o) nop)
placed_at first second hart p None h = refl
placed_at first second hart p (Some s) h = ap (kind_orders first second) (h s refl) ∙ by_kind first second s.instr

-- runs of a test
abbrev pub AreRuns : Test → List (List Step) → Type 0
AreRuns t traces = (hart : ℕ) → hart < length t.codes → IsTrace t hart (steps_of traces hart)

module _ (t : Test) (x : PreExecution) (harts : length x.traces ≡ length t.codes) (runs : AreRuns t x.traces) where
  abbrev out : PreExecution
  out = emptied_pre x

  abbrev written : List Entry
  written = as_written t

  step_is : (hart : ℕ) → hart < length x.traces → (k : ℕ) (s : Step) → slice_get (steps_of x.traces hart) k ≡ Some s
      → IsOfCode (length t.locations) (code_of t hart) s
  step_is hart low k s e =
      let run = runs hart (omega (arith, low, harts)) in
      of_code (length t.locations) (code_of t hart) (start_with (registers_of t hart)) (steps_of x.traces hart) k s run.0 e

  kind_is : (hart : ℕ) → hart < length x.traces → (k : ℕ) (s : Step) → slice_get (steps_of x.traces hart) k ≡ Some s
      → kind_at (slot_at hart s.at) written ≡ memory_kind s.instr
  kind_is hart low k s e =
      let found = step_is hart low k s e in
      written_is t (slot_at hart s.at) ∙ ap (option_and_then memory_kind) found.there

  module _ (a b hart : ℕ) (first_in : (operation x a).hart ≡ Some hart) (second_in : (operation x b).hart ≡ Some hart)
      (low : place x a < place x b) where
    abbrev steps : List Step
    steps = steps_of x.traces hart

    abbrev first : Classes
    first = classes x a

    abbrev second : Classes
    second = classes x b

    run_is : trace_of x a ≡ steps
    run_is = ap (λ h. unwrap_or (option_map (steps_of x.traces) h) []) first_in

    -- the FENCEs between order this in the run
    abbrev written_orders : ℕ → Bool
    written_orders k = instr_orders first second (instr_at steps k)

    empty_between : list_any (λ k. instr_orders (classes out a) (classes out b) (instr_at (trace_of out a) k))
        (between (place out a) (place out b)) ≡ false
    empty_between =
        none_passes _ (λ k. ap (λ ss. instr_orders (classes out a) (classes out b) (instr_at ss k)) (run_same x a)
        ∙ ap (instr_orders (classes out a) (classes out b)) (instr_there (trace_of x a) k)
        ∙ emptied_orders (classes out a) (classes out b) (instr_at (trace_of x a) k)) _

    placed_is : (k : ℕ) → kind_orders first second (placed_before out written a k) ≡ written_orders k
    placed_is k =
        let traced = (of_hart x a hart first_in).traced in
        ap (λ h. kind_orders first second (option_and_then (λ n. option_and_then (λ s. kind_at (slot_at n s.at) written) (slice_get (trace_of out a) k)) h))
        (hart_same x a ∙ first_in)
        ∙ ap (λ ss. kind_orders first second (option_and_then (λ s. kind_at (slot_at hart s.at) written) (slice_get ss k)))
        (run_same x a ∙ ap (map emptied_step) run_is)
        ∙ ap (λ o. kind_orders first second (option_and_then (λ s. kind_at (slot_at hart s.at) written) o)) (slice_get-map emptied_step steps k)
        ∙ placed_at first second hart written (slice_get steps k) (kind_is hart traced k)

    last_orders : written_orders (place x b) ≡ false
    last_orders =
        let own = of_hart x b hart second_in in
        let found = step_is hart own.traced (place x b) own.step own.there in
        ap (λ o. instr_orders first second (unwrap_or (option_map (λ s. s.instr) o) nop)) own.there
        ∙ access_orders first second (length t.locations) found.before own.step own.step.instr found.access own.accessing

    all_placed : placed_between out written a b ≡ list_any written_orders (between (place x a) (place x b))
    all_placed =
        ap (λ c. list_any (λ k. kind_orders c (classes out b) (placed_before out written a k)) (between (place out a) (place out b + 1)))
        (classes_same x a)
        ∙ ap (λ c. list_any (λ k. kind_orders first c (placed_before out written a k)) (between (place out a) (place out b + 1)))
        (classes_same x b)
        ∙ ap (λ i. list_any (λ k. kind_orders first second (placed_before out written a k)) (between i (place out b + 1))) (place_same x a)
        ∙ ap (λ j. list_any (λ k. kind_orders first second (placed_before out written a k)) (between (place x a) (j + 1))) (place_same x b)
        ∙ any_same (λ k. kind_orders first second (placed_before out written a k)) written_orders placed_is (between (place x a) (place x b + 1))
        ∙ any_between written_orders (place x a) (place x b) low
        ∙ ap (λ c. list_any written_orders (between (place x a) (place x b)) || c) last_orders
        ∙ or_false _

    fences_in_hart : fence_between out written a b ≡ fence_between x [] a b
    fences_in_hart =
        ap (λ c. c || placed_between out written a b) empty_between
        ∙ all_placed
        ∙ ap (λ ss. list_any (λ k. instr_orders first second (instr_at ss k)) (between (place x a) (place x b))) (sym run_is)
        ∙ sym (or_false _)
        ∙ ap (λ c. list_any (λ k. instr_orders first second (instr_at (trace_of x a) k)) (between (place x a) (place x b)) || c)
        (sym (nothing_placed x a b))

  fences_same : (a b : ℕ) → po x a b ≡ true → fence_between out written a b ≡ fence_between x [] a b
  fences_same a b low =
      let found = in_po x a b low in
      fences_in_hart a b found.hart found.first found.second found.forward

  -- what is the same of two steps of a run and of the same steps of the emptied run
  carried : (f : List Step → ℕ → ℕ → Bool) → ((ss : List Step) (i j : ℕ) → f (map emptied_step ss) i j ≡ f ss i j) → (a b : ℕ)
      → f (trace_of out a) (place out a) (place out b) ≡ f (trace_of x a) (place x a) (place x b)
  carried f each a b =
      ap (λ ss. f ss (place out a) (place out b)) (run_same x a)
      ∙ ap (λ i. f (map emptied_step (trace_of x a)) i (place out b)) (place_same x a)
      ∙ ap (λ j. f (map emptied_step (trace_of x a)) (place x a) j) (place_same x b)
      ∙ each (trace_of x a) (place x a) (place x b)

  pub emptied_alike : Alike x [] out written
  emptied_alike =
      record {
        count = ap length (accesses_emptied x) ∙ length-map (accesses x) emptied_operation;
        words = refl;
        hart = hart_same x;
        address = λ a. ap (λ (o : Operation). o.address) (operation_emptied x a);
        loaded = λ a. ap (λ (o : Operation). o.loaded) (operation_emptied x a);
        stored = λ a. ap (λ (o : Operation). o.stored) (operation_emptied x a);
        annotated =
            λ a. ap (λ (o : Operation). annotation o.instr) (operation_emptied x a)
            ∙ same_of_emptied annotation (λ b c. refl) refl (operation x a).instr;
        swaps =
            λ a. ap (λ (o : Operation). is_amo o.instr || is_sc o.instr) (operation_emptied x a)
            ∙ same_of_emptied (λ i. is_amo i || is_sc i) (λ b c. refl) refl (operation x a).instr;
        order = order_same x;
        fences = fences_same;
        pairs = λ a b low. carried are_paired paired_there a b;
        addresses = λ a b low. carried address_depends address_there a b;
        words_stored = λ a b low. carried data_depends data_there a b;
        controls = λ a b low. carried control_depends control_there a b;
        betweens = λ a b low. carried (λ ss i j. list_any (address_depends ss i) (between i j)) address_between_there a b;
      }
