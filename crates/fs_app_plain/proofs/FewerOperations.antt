-- The runs without a turn, whose steps store nothing but what they load: their operations are those of the whole runs
-- without the turn's, where what steps are to one another in the shorter run they are in the whole one.
use Rattle.std.proofs.Common.{◌≡◌, ℕ, ◌<◌, inl, inr, Bool, true, false, ◌||◌, List, [], length, Option, Some, refl, ap, sym, subst, ◌∙◌}
use Rattle.std.specs.Prelude.{All, is_some, option_map, option_and_then, unwrap_or}
use Rattle.std.proofs.lemmas.Bool.{cases_eq}
use Rattle.std.proofs.lemmas.List.{get_or-set_same, get_or-set_other}
use Rattle.std.proofs.lemmas.Option.{slice_get_within}
use Rattle.fs_instr.specs.Roles.{is_amo}
use Rattle.fs_kinds.specs.declared.kind.Classes.{Classes}
use Rattle.fs_kinds.specs.declared.placement.Entry.{Entry}
use Rattle.fs_kinds.specs.Placement.{kind_at}
use Rattle.fs_model.specs.Slots.{slot_at}
use Rattle.fs_model.specs.Fences.{instr_orders, kind_orders, fence_between}
use Rattle.fs_model.specs.declared.operation.Operation.{Operation}
use Rattle.fs_model.specs.declared.step.Step.{Step}
use Rattle.fs_model.specs.Operations.{PreExecution, operation, place, trace_of, steps_of, classes, po, precedes, are_paired, address_depends, data_depends, control_depends}
use Rattle.fs_model.proofs.ProgramOrder.{in_po}
use Rattle.fs_model.proofs.WhichOperation.{of_hart}
use Rattle.fs_app_plain.specs.Turns.{StoresWhatItLoads}
use Rattle.fs_app_plain.proofs.Cut.{whole, short, place_there}
use Rattle.fs_app_plain.proofs.Shortened.{there, Shortens}
use Rattle.fs_app_plain.proofs.FewerGiven.{IsKept, SameBetween, depends_between, instr_between, step_between}
use Rattle.fs_app_plain.proofs.FewerMoved.{moved, moved_place, own_place, other_place, precedes_moved}
use Rattle.fs_app_plain.proofs.FewerNumbers.{with_turn, shortened_pre, number_from, count_of_turn, operation_there, fewer, from_inside}
use Rattle.fs_app_plain.proofs.FewerGone.{gone_keeps}

same_three : {A B C D : Type 0} (f : A → B → C → D) (a b : A) (c d : B) (e g : C) → a ≡ b → c ≡ d → e ≡ g
    → f a c e ≡ f b d g
same_three f a b c d e g h k l = ap (λ x. f x c e) h ∙ ap (λ x. f b x e) k ∙ ap (λ x. f b d x) l

either_kept : (a b c d : Bool) → (a ≡ true → c ≡ true) → (b ≡ true → d ≡ true) → (a || b) ≡ true → (c || d) ≡ true
either_kept true b c d f g e = ap (λ z. z || d) (f refl)
either_kept false b true d f g e = refl
either_kept false b false d f g e = g e

trace_is : (x : PreExecution) (a h : ℕ) → (operation x a).hart ≡ Some h → trace_of x a ≡ steps_of x.traces h
trace_is x a h e = ap (λ o. unwrap_or (option_map (steps_of x.traces) o) []) e

-- a fence placed before this step of the hart orders these classes
abbrev placed_orders : List Entry → Classes → Classes → Option ℕ → Option Step → Bool
placed_orders p first second h s =
    kind_orders first second (option_and_then (λ hart. option_and_then (λ s. kind_at (slot_at hart s.at) p) s) h)

-- a fence that orders these classes, of the run or a placed one, stands between two steps
abbrev ordered_between : List Entry → Classes → Classes → Option ℕ → List Step → ℕ → ℕ → Bool
ordered_between p first second h steps i j =
    instr_between (instr_orders first second) steps i j
    || step_between (placed_orders p first second h) steps i j

ordered_kept : (p : List Entry) (before turn after : List Step) (first second : Classes) (h : Option ℕ)
    → SameBetween before turn after → IsKept before turn after (ordered_between p first second h)
ordered_kept p before turn after first second h same i j low high =
    either_kept _ _ _ _ (same.fence (instr_orders first second) i j low high)
    (same.placed (placed_orders p first second h) i j low high)

module _ (p : List Entry) (traces : List (List Step)) (words : List ℕ) (hart : ℕ) (before turn after : List Step)
    (low : hart < length traces) (run : steps_of traces hart ≡ whole before turn after) where
  abbrev x : PreExecution
  x = with_turn traces words

  abbrev y : PreExecution
  y = shortened_pre traces words hart before after

  -- the number in x of operation a of y
  abbrev at : ℕ → ℕ
  at a = there (number_from traces hart before) (count_of_turn hart before turn) a

  same_operation : (a : ℕ) → operation x (at a) ≡ moved hart (length before) (length turn) (operation y a)
  same_operation a = operation_there traces words hart before turn after low run a

  same_hart : (a : ℕ) → (operation y a).hart ≡ (operation x (at a)).hart
  same_hart a = ap (λ (o : Operation). o.hart) (sym (same_operation a))

  same_classes : (a : ℕ) → classes y a ≡ classes x (at a)
  same_classes a =
      let made : Operation → Classes = λ o. record { reads = is_some o.loaded; writes = is_some o.stored } in
      ap made (sym (same_operation a))

  same_order : (a b : ℕ) → po y a b ≡ po x (at a) (at b)
  same_order a b =
      precedes_moved hart (length before) (length turn) (operation y a) (operation y b)
      ∙ ap (λ o. precedes o (moved hart (length before) (length turn) (operation y b))) (sym (same_operation a))
      ∙ ap (precedes (operation x (at a))) (sym (same_operation b))

  same_place : (a h : ℕ) → (operation y a).hart ≡ Some h
      → place x (at a) ≡ moved_place hart (length before) (length turn) (Some h) (place y a)
  same_place a h e =
      ap (λ (o : Operation). o.place) (same_operation a)
      ∙ ap (λ o. moved_place hart (length before) (length turn) o (place y a)) e

  -- ---- operations of the hart

  trace_short : steps_of y.traces hart ≡ short before turn after
  trace_short = get_or-set_same traces hart (short before turn after) [] low

  own_bound : (b : ℕ) → (operation y b).hart ≡ Some hart → place y b < length (short before turn after)
  own_bound b e =
      let found = of_hart y b hart e in
      subst (λ (steps : List Step). place y b < length steps) trace_short
      (slice_get_within (steps_of y.traces hart) (place y b) found.step found.there)

  own_there : (a : ℕ) → (operation y a).hart ≡ Some hart → place x (at a) ≡ place_there before turn after (place y a)
  own_there a e = same_place a hart e ∙ own_place hart (length before) (length turn) (place y a)

  own_kept : (f : List Step → ℕ → ℕ → Bool) → IsKept before turn after f → (a b : ℕ) → (operation y a).hart ≡ Some hart
      → (operation y b).hart ≡ Some hart → place y a < place y b → f (trace_of y a) (place y a) (place y b) ≡ true
      → f (trace_of x (at a)) (place x (at a)) (place x (at b)) ≡ true
  own_kept f h a b first second forward e =
      let shorter = trace_is y a hart first ∙ trace_short in
      let longer = trace_is x (at a) hart (sym (same_hart a) ∙ first) ∙ run in
      let was = h (place y a) (place y b) forward (own_bound b second)
      (ap (λ t. f t (place y a) (place y b)) (sym shorter) ∙ e) in
      same_three f _ _ _ _ _ _ longer (own_there a first) (own_there b second) ∙ was

  -- ---- operations of other harts

  others_kept : (f : List Step → ℕ → ℕ → Bool) (a b h : ℕ) → (h ≡ hart → ⊥) → (operation y a).hart ≡ Some h
      → (operation y b).hart ≡ Some h → f (trace_of y a) (place y a) (place y b) ≡ true
      → f (trace_of x (at a)) (place x (at a)) (place x (at b)) ≡ true
  others_kept f a b h apart first second e =
      let shorter = trace_is y a h first ∙ get_or-set_other traces hart h (short before turn after) [] apart in
      let longer = trace_is x (at a) h (sym (same_hart a) ∙ first) in
      same_three f _ _ _ _ _ _ (longer ∙ sym shorter)
      (same_place a h first ∙ other_place hart (length before) (length turn) h (place y a) apart)
      (same_place b h second ∙ other_place hart (length before) (length turn) h (place y b) apart)
      ∙ e

  -- ---- what stays

  kept : (f : List Step → ℕ → ℕ → Bool) → IsKept before turn after f → (a b : ℕ) → po y a b ≡ true
      → f (trace_of y a) (place y a) (place y b) ≡ true → f (trace_of x (at a)) (place x (at a)) (place x (at b)) ≡ true
  kept f h a b ordered e =
      let pair = in_po y a b ordered in
      elim (cases_eq pair.hart hart) [
        | inl mine ↦ own_kept f h a b (pair.first ∙ ap Some mine) (pair.second ∙ ap Some mine) pair.forward e
        | inr other ↦ others_kept f a b pair.hart other pair.first pair.second e
      ]

  fences_kept : SameBetween before turn after → (a b : ℕ) → po y a b ≡ true → fence_between y p a b ≡ true
      → fence_between x p (at a) (at b) ≡ true
  fences_kept same a b ordered e =
      let f = ordered_between p (classes y a) (classes y b) (operation y a).hart in
      let h = ordered_kept p before turn after (classes y a) (classes y b) (operation y a).hart same in
      let there = kept f h a b ordered e in
      same_three (λ c d h. ordered_between p c d h (trace_of x (at a)) (place x (at a)) (place x (at b))) _ _ _ _ _ _
      (sym (same_classes a)) (sym (same_classes b)) (sym (same_hart a))
      ∙ there

  pub shortened : All StoresWhatItLoads turn
      → All (λ s. is_some s.loaded ≡ true → is_some s.stored ≡ true → is_amo s.instr ≡ true) turn
      → SameBetween before turn after
      → Shortens p (with_turn traces words) (shortened_pre traces words hart before after)
      (number_from traces hart before) (count_of_turn hart before turn)
  shortened stores amos same =
      record {
        words = refl;
        long = fewer traces words hart before turn after low run;
        inside = from_inside traces words hart before turn after low run;
        harts = same_hart;
        instrs = λ a. ap (λ (o : Operation). o.instr) (sym (same_operation a));
        addresses = λ a. ap (λ (o : Operation). o.address) (sym (same_operation a));
        loads = λ a. ap (λ (o : Operation). o.loaded) (sym (same_operation a));
        stores = λ a. ap (λ (o : Operation). o.stored) (sym (same_operation a));
        before = same_order;
        gone_stores = λ g gone e. gone_keeps traces words hart before turn after low run stores amos g gone e;
        fences = fences_kept same;
        pairs = kept are_paired same.paired;
        by_address = kept address_depends same.by_address;
        by_data = kept data_depends same.by_data;
        by_control = kept control_depends same.by_control;
        by_address_between = kept depends_between same.by_address_between;
      }
