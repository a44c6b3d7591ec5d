-- The fenced runs have the operations of the runs, and their fences order what the placed fences order.
use Rattle.std.proofs.Common.{◌≡◌, ℕ, ◌+◌, ◌<◌, Bool, true, false, ◌&&◌, ◌||◌, nat_lt, List, length, Option, None, Some, refl, ap, sym, ◌∙◌}
use Rattle.std.specs.Prelude.{is_some, option_and_then, slice_get}
use Rattle.std.specs.List.{list_any}
use Rattle.std.proofs.lemmas.Bool.{and_parts, ltb-true}
use Rattle.std.proofs.lemmas.List.{length-map}
use Rattle.fs_kinds.specs.declared.placement.Entry.{Entry}
use Rattle.fs_kinds.specs.declared.slot.Slot.{Slot}
use Rattle.fs_kinds.specs.Placement.{kind_at}
use Rattle.fs_model.specs.Slots.{slot_at}
use Rattle.fs_model.specs.declared.step.Step.{Step}
use Rattle.fs_model.specs.declared.operation.Operation.{Operation}
use Rattle.fs_model.specs.Forms.{annotation, is_amo, is_sc}
use Rattle.fs_model.specs.Numbers.{between, is_same}
use Rattle.fs_model.specs.Operations.{PreExecution, accesses, operation, place, trace_of, classes, same_hart, po, are_paired, instr_at, steps_of, is_load, is_store}
use Rattle.fs_model.specs.Dependencies.{address_depends, data_depends, control_depends}
use Rattle.fs_model.specs.Fences.{instr_orders, kind_orders, placed_before, fence_between}
use Rattle.fs_model_laws.specs.Fenced.{fenced_steps}
use Rattle.fs_model_laws.proofs.FencedSpread.{or_false, any_same, spread_lt}
use Rattle.fs_model_laws.proofs.FencedSteps.{fenced_place, has_before, next_place, kind_before}
use Rattle.fs_model_laws.proofs.FencedInstr.{same_annotation, same_amo, same_sc}
use Rattle.fs_model_laws.proofs.FencedDepends.{and_when, or_same, none_passes, address_there, data_there, control_there, address_between_there, paired_there, fences_there}
use Rattle.fs_model_laws.proofs.FencedOperations.{moved_in, moved_operation, fenced_pre, accesses_moved, operation_moved, place_moved, trace_was, trace_moved, hart_kept, one_hart}
use Rattle.fs_model_laws.proofs.FencedAlike.{Alike}

same_three : {A B C D : Type 0} (f : A → B → C → D) (a b : A) (c d : B) (e g : C) → a ≡ b → c ≡ d → e ≡ g → f a c e ≡ f b d g
same_three f a b c d e g h k l = ap (λ x. f x c e) h ∙ ap (λ x. f b x e) k ∙ ap (λ x. f b d x) l

module _ (p : List Entry) (x : PreExecution) (q : List Entry) (none : (s : Slot) → kind_at s q ≡ None) where
  abbrev out : PreExecution
  out = fenced_pre p x

  -- what is the same of two steps of a run and of the same steps of the fenced run
  abbrev IsCarried : (List Step → ℕ → ℕ → Bool) → Type 0
  IsCarried f =
      (hart : ℕ) (steps : List Step) (i j : ℕ) → i < j → f (fenced_steps p (hart, steps)) (fenced_place p hart steps i)
      (fenced_place p hart steps j) ≡ f steps i j

  carried : (f : List Step → ℕ → ℕ → Bool) → IsCarried f → (a b : ℕ) → po x a b ≡ true
      → f (trace_of out a) (place out a) (place out b) ≡ f (trace_of x a) (place x a) (place x b)
  carried f h a b low =
      let parts = and_parts (same_hart x a b) (nat_lt (place x a) (place x b)) low in
      let found = one_hart x a b parts.0 in
      let steps = steps_of x.traces found.0 in
      same_three f _ _ _ _ _ _ (trace_moved p x a found.0 found.1) (place_moved p x a found.0 found.1)
      (place_moved p x b found.0 found.2)
      ∙ h found.0 steps (place x a) (place x b) (ltb-true (place x a) (place x b) parts.1)
      ∙ ap (λ t. f t (place x a) (place x b)) (sym (trace_was p x a found.0 found.1))

  places_same : (a b hart : ℕ) → (operation x a).hart ≡ Some hart → (operation x b).hart ≡ Some hart
      → nat_lt (place out a) (place out b) ≡ nat_lt (place x a) (place x b)
  places_same a b hart e g =
      let steps = steps_of x.traces hart in
      let to = fenced_place p hart steps in
      ap (λ i. nat_lt i (place out b)) (place_moved p x a hart e)
      ∙ ap (nat_lt (to (place x a))) (place_moved p x b hart g)
      ∙ spread_lt to (has_before p hart steps) (next_place p hart steps) (place x a) (place x b)

  order_same : (a b : ℕ) → po out a b ≡ po x a b
  order_same a b =
      let places = λ (e : same_hart x a b ≡ true). (let found = one_hart x a b e in places_same a b found.0 found.1 found.2) in
      ap (λ o. is_same o (operation out b).hart && nat_lt (place out a) (place out b)) (hart_kept p x a)
      ∙ ap (λ o. is_same (operation x a).hart o && nat_lt (place out a) (place out b)) (hart_kept p x b)
      ∙ and_when (same_hart x a b) (nat_lt (place out a) (place out b)) (nat_lt (place x a) (place x b)) places

  -- ---- fields

  module _ {X : Type 0} (field : Operation → X)
      (same : (hart : Option ℕ) (o : Operation) → field (moved_in p x.traces hart o) ≡ field o) where
    field_same : (a : ℕ) → field (operation out a) ≡ field (operation x a)
    field_same a = ap field (operation_moved p x a) ∙ same (operation x a).hart (operation x a)

  address_stays : (hart : Option ℕ) (o : Operation) → (moved_in p x.traces hart o).address ≡ o.address
  address_stays None o = refl
  address_stays (Some hart) o = refl

  loaded_stays : (hart : Option ℕ) (o : Operation) → (moved_in p x.traces hart o).loaded ≡ o.loaded
  loaded_stays None o = refl
  loaded_stays (Some hart) o = refl

  stored_stays : (hart : Option ℕ) (o : Operation) → (moved_in p x.traces hart o).stored ≡ o.stored
  stored_stays None o = refl
  stored_stays (Some hart) o = refl

  annotation_stays : (hart : Option ℕ) (o : Operation) → annotation (moved_in p x.traces hart o).instr ≡ annotation o.instr
  annotation_stays None o = refl
  annotation_stays (Some hart) o = same_annotation p hart o.instr

  swap_stays : (hart : Option ℕ) (o : Operation)
      → (is_amo (moved_in p x.traces hart o).instr || is_sc (moved_in p x.traces hart o).instr) ≡
      (is_amo o.instr || is_sc o.instr)
  swap_stays None o = refl
  swap_stays (Some hart) o = or_same _ _ _ _ (same_amo p hart o.instr) (same_sc p hart o.instr)

  classes_same : (a : ℕ) → classes out a ≡ classes x a
  classes_same a =
      let loads = ap is_some (field_same (λ o. o.loaded) loaded_stays a) in
      let stores = ap is_some (field_same (λ o. o.stored) stored_stays a) in
      ap (λ c. record { reads = c; writes = is_store out a }) loads ∙ ap (λ c. record { reads = is_load x a; writes = c }) stores

  -- ---- fences

  none_before : (h : Option ℕ) (steps : List Step) (k : ℕ)
      → option_and_then (λ hart. option_and_then (λ s. kind_at (slot_at hart s.at) q) (slice_get steps k)) h ≡ None
  none_before None steps k = refl
  none_before (Some hart) steps k = none_at hart (slice_get steps k)
    where
      none_at : (hart : ℕ) (o : Option Step) → option_and_then (λ s. kind_at (slot_at hart s.at) q) o ≡ None
      none_at hart None = refl
      none_at hart (Some s) = none (slot_at hart s.at)

  none_placed : (a b : ℕ) → list_any (λ k. kind_orders (classes out a) (classes out b) (placed_before out q a k))
      (between (place out a) (place out b + 1)) ≡ false
  none_placed a b =
      none_passes _ (λ k. ap (kind_orders (classes out a) (classes out b))
      (none_before (operation out a).hart (trace_of out a) k)) _

  fences_same : (a b : ℕ) → po x a b ≡ true → fence_between out q a b ≡ fence_between x p a b
  fences_same a b low =
      let parts = and_parts (same_hart x a b) (nat_lt (place x a) (place x b)) low in
      let found = one_hart x a b parts.0 in
      let hart = found.0 in
      let steps = steps_of x.traces hart in
      let first = classes x a in
      let second = classes x b in
      let placed : (k : ℕ) → kind_orders first second (kind_before p hart steps k) ≡ kind_orders first second
      (placed_before x p a k) =
      λ k. ap (kind_orders first second)
      (ap (λ t. option_and_then (λ s. kind_at (slot_at hart s.at) p) (slice_get t k)) (sym (trace_was p x a hart found.1))
      ∙ ap (λ h. option_and_then (λ n. option_and_then (λ s. kind_at (slot_at n s.at) p) (slice_get (trace_of x a) k)) h)
      (sym found.1)) in
      ap (λ c. list_any (λ k. instr_orders (classes out a) (classes out b) (instr_at (trace_of out a) k))
      (between (place out a) (place out b)) || c) (none_placed a b)
      ∙ or_false _
      ∙ ap (λ c. list_any (λ k. instr_orders c (classes out b) (instr_at (trace_of out a) k))
      (between (place out a) (place out b))) (classes_same a)
      ∙ ap (λ c. list_any (λ k. instr_orders first c (instr_at (trace_of out a) k)) (between (place out a) (place out b)))
      (classes_same b)
      ∙ same_three (λ t i j. list_any (λ k. instr_orders first second (instr_at t k)) (between i j)) _ _ _ _ _ _
      (trace_moved p x a hart found.1) (place_moved p x a hart found.1) (place_moved p x b hart found.2)
      ∙ fences_there p hart steps first second (place x a) (place x b) (ltb-true (place x a) (place x b) parts.1)
      ∙ or_same _ _ _ _
      (ap (λ t. list_any (λ k. instr_orders first second (instr_at t k)) (between (place x a) (place x b)))
      (sym (trace_was p x a hart found.1)))
      (any_same _ _ placed (between (place x a) (place x b + 1)))

  pub fenced_alike : Alike x p out q
  fenced_alike =
      record {
        count = ap length (accesses_moved p x) ∙ length-map (accesses x) (moved_operation p x.traces);
        words = refl;
        hart = hart_kept p x;
        address = field_same (λ o. o.address) address_stays;
        loaded = field_same (λ o. o.loaded) loaded_stays;
        stored = field_same (λ o. o.stored) stored_stays;
        annotated = field_same (λ o. annotation o.instr) annotation_stays;
        swaps = field_same (λ o. is_amo o.instr || is_sc o.instr) swap_stays;
        order = order_same;
        fences = fences_same;
        pairs = carried are_paired (λ hart steps i j low. paired_there p hart steps i j low);
        addresses = carried address_depends (λ hart steps i j low. address_there p hart steps i j);
        words_stored = carried data_depends (λ hart steps i j low. data_there p hart steps i j);
        controls = carried control_depends (λ hart steps i j low. control_there p hart steps i j low);
        betweens =
            carried (λ t i j. list_any (address_depends t i) (between i j))
            (λ hart steps i j low. address_between_there p hart steps i j low);
      }
