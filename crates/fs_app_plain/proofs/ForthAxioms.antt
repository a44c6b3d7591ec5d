-- The axioms speak of no words but those that loads return: what obeys them obeys them with all words changed.
use Rattle.std.proofs.Common.{◌≡◌, ℕ, ◌+◌, ◌==◌, Bool, ◌&&◌, ◌||◌, not, List, ◌++◌, filter, length, map, Option, None, Some, refl, ap, sym, ◌∙◌}
use Rattle.std.specs.Prelude.{is_some, option_map, option_and_then, unwrap_or, slice_get}
use Rattle.std.specs.List.{list_any, list_all, last_or, range_with_len}
use Rattle.std.proofs.Math.Path.{fun_ext}
use Rattle.std.proofs.lemmas.List.{length-map}
use Rattle.std.proofs.lemmas.Option.{slice_get-map}
use Rattle.fs_kinds.specs.declared.kind.Classes.{Classes}
use Rattle.fs_kinds.specs.declared.kind.Kind.{Kind}
use Rattle.fs_kinds.specs.declared.placement.Entry.{Entry}
use Rattle.fs_kinds.specs.Placement.{kind_at}
use Rattle.fs_instr.specs.declared.instr.Instr.{Instr}
use Rattle.fs_instr.specs.Roles.{nop, annotation, is_amo, is_sc}
use Rattle.fs_model.specs.declared.operation.Operation.{Operation}
use Rattle.fs_model.specs.declared.step.Step.{Step}
use Rattle.fs_model.specs.Runs.{address_of}
use Rattle.fs_model.specs.Slots.{slot_at}
use Rattle.fs_model.specs.Operations.{PreExecution, accesses, operation, is_load, is_store, is_same, numbers_below, between, same_word, same_hart, classes, place, trace_of, instr_at, po, precedes, any_between, is_acquire, is_release, is_rcsc, is_amo_or_sc, are_paired, paired, address_depends, data_depends, control_depends, address_dependency, data_dependency, control_dependency, address_between}
use Rattle.fs_model.specs.Fences.{instr_orders, kind_orders, placed_before, placed_between, fence_between}
use Rattle.fs_model.specs.Rules as rules
use Rattle.fs_model.specs.Preserved.{Rule, Rule1, Rule2, Rule3, Rule4, Rule5, Rule6, Rule7, Rule8, Rule9, Rule10, Rule11, Rule12, Rule13, case_of, all_rules, ppo}
use Rattle.fs_model.specs.Executions.{has_number, stands_before, gmo, may_return, source_in, is_store_to, last_word}
use Rattle.fs_model.specs.Execution.{ObeysAxioms}
use Rattle.fs_app_plain.proofs.ForthOperations.{changed, changed_step, changed_operation, count_changed, operation_changed, run_changed}
use Rattle.fs_app_plain.proofs.ForthDepends.{address_there, data_there, control_there, address_between_there, paired_there}

and_same : (a b c d : Bool) → a ≡ c → b ≡ d → (a && b) ≡ (c && d)
and_same a b c d e g = ap (λ u. u && b) e ∙ ap (λ u. c && u) g

or_same : (a b c d : Bool) → a ≡ c → b ≡ d → (a || b) ≡ (c || d)
or_same a b c d e g = ap (λ u. u || b) e ∙ ap (λ u. c || u) g

some_same : (f : ℕ → ℕ) (o : Option ℕ) → is_some (option_map f o) ≡ is_some o
some_same f None = refl
some_same f (Some w) = refl

instr_same : (f : ℕ → ℕ) (o : Option Step)
    → unwrap_or (option_map (λ s. s.instr) (option_map (changed_step f) o)) nop
    ≡ unwrap_or (option_map (λ s. s.instr) o) nop
instr_same f None = refl
instr_same f (Some s) = refl

instrs_same : (f : ℕ → ℕ) (steps : List Step) (k : ℕ) → instr_at (map (changed_step f) steps) k ≡ instr_at steps k
instrs_same f steps k =
    ap (λ o. unwrap_or (option_map (λ s. s.instr) o) nop) (slice_get-map (changed_step f) steps k)
    ∙ instr_same f (slice_get steps k)

-- the fence placed before a step of a hart
abbrev kind_before : List Entry → Option ℕ → Option Step → Option Kind
kind_before p h o = option_and_then (λ hart. option_and_then (λ s. kind_at (slot_at hart s.at) p) o) h

placed_same : (f : ℕ → ℕ) (p : List Entry) (h : Option ℕ) (o : Option Step)
    → kind_before p h (option_map (changed_step f) o) ≡ kind_before p h o
placed_same f p None o = refl
placed_same f p (Some hart) None = refl
placed_same f p (Some hart) (Some s) = refl

-- whether the instructions, or the fences placed before them, order one operation before another
abbrev any_instr : Classes → Classes → (ℕ → Instr) → (i j : ℕ) → Bool
any_instr first second g i j = list_any (λ k. instr_orders first second (g k)) (between i j)

abbrev any_placed : Classes → Classes → (ℕ → Option Kind) → (i j : ℕ) → Bool
any_placed first second g i j = list_any (λ k. kind_orders first second (g k)) (between i (j + 1))

map_then : (f : ℕ → ℕ) (g : ℕ → Option ℕ) (o : Option ℕ)
    → option_and_then (λ a. option_map f (g a)) o ≡ option_map f (option_and_then g o)
map_then f g None = refl
map_then f g (Some a) = refl

-- the order lists so many operations, each once
abbrev lists_each : (order : List ℕ) → ℕ → Bool
lists_each order n = (length order == n) && list_all (has_number order) (numbers_below n)

module _ (f : ℕ → ℕ) (x : PreExecution) where
  abbrev y : PreExecution
  y = changed f x

  load_same : (a : ℕ) → is_load y a ≡ is_load x a
  load_same a = ap (λ (o : Operation). is_some o.loaded) (operation_changed f x a) ∙ some_same f (operation x a).loaded

  store_same : (a : ℕ) → is_store y a ≡ is_store x a
  store_same a = ap (λ (o : Operation). is_some o.stored) (operation_changed f x a) ∙ some_same f (operation x a).stored

  place_same : (a : ℕ) → place y a ≡ place x a
  place_same a = ap (λ (o : Operation). o.place) (operation_changed f x a)

  classes_same : (a : ℕ) → classes y a ≡ classes x a
  classes_same a =
      let made : Bool → Bool → Classes = λ r w. record { reads = r; writes = w } in
      ap (λ r. made r (is_store y a)) (load_same a) ∙ ap (made (is_load x a)) (store_same a)

  word_same : (a b : ℕ) → same_word y a b ≡ same_word x a b
  word_same a b =
      ap (λ (o : Operation). is_same o.address (operation y b).address) (operation_changed f x a)
      ∙ ap (λ (o : Operation). is_same (operation x a).address o.address) (operation_changed f x b)

  one_hart_same : (a b : ℕ) → same_hart y a b ≡ same_hart x a b
  one_hart_same a b =
      ap (λ (o : Operation). is_same o.hart (operation y b).hart) (operation_changed f x a)
      ∙ ap (λ (o : Operation). is_same (operation x a).hart o.hart) (operation_changed f x b)

  order_same : (a b : ℕ) → po y a b ≡ po x a b
  order_same a b =
      ap (λ o. precedes o (operation y b)) (operation_changed f x a)
      ∙ ap (precedes (changed_operation f (operation x a))) (operation_changed f x b)

  acquire_same : (a : ℕ) → is_acquire y a ≡ is_acquire x a
  acquire_same a = ap (λ (o : Operation). (annotation o.instr).acquire) (operation_changed f x a)

  release_same : (a : ℕ) → is_release y a ≡ is_release x a
  release_same a = ap (λ (o : Operation). (annotation o.instr).release) (operation_changed f x a)

  rcsc_same : (a : ℕ) → is_rcsc y a ≡ is_rcsc x a
  rcsc_same a = or_same _ _ _ _ (acquire_same a) (release_same a)

  swap_same : (a : ℕ) → is_amo_or_sc y a ≡ is_amo_or_sc x a
  swap_same a = ap (λ (o : Operation). is_amo o.instr || is_sc o.instr) (operation_changed f x a)

  -- what is said of the steps of two operations
  carried : (g : List Step → ℕ → ℕ → Bool) → ((ss : List Step) (i j : ℕ) → g (map (changed_step f) ss) i j ≡ g ss i j)
      → (a b : ℕ) → g (trace_of y a) (place y a) (place y b) ≡ g (trace_of x a) (place x a) (place x b)
  carried g each a b =
      ap (λ ss. g ss (place y a) (place y b)) (run_changed f x a)
      ∙ ap (λ i. g (map (changed_step f) (trace_of x a)) i (place y b)) (place_same a)
      ∙ ap (λ j. g (map (changed_step f) (trace_of x a)) (place x a) j) (place_same b)
      ∙ each (trace_of x a) (place x a) (place x b)

  pair_same : (a b : ℕ) → paired y a b ≡ paired x a b
  pair_same a b = carried are_paired (λ ss. paired_there (map (changed_step f) ss) ss (instrs_same f ss)) a b

  address_same : (a b : ℕ) → address_dependency y a b ≡ address_dependency x a b
  address_same a b = carried address_depends (λ ss. address_there (map (changed_step f) ss) ss (instrs_same f ss)) a b

  data_same : (a b : ℕ) → data_dependency y a b ≡ data_dependency x a b
  data_same a b = carried data_depends (λ ss. data_there (map (changed_step f) ss) ss (instrs_same f ss)) a b

  control_same : (a b : ℕ) → control_dependency y a b ≡ control_dependency x a b
  control_same a b = carried control_depends (λ ss. control_there (map (changed_step f) ss) ss (instrs_same f ss)) a b

  between_same : (a b : ℕ) → address_between y a b ≡ address_between x a b
  between_same a b =
      carried (λ ss i j. list_any (address_depends ss i) (between i j))
      (λ ss. address_between_there (map (changed_step f) ss) ss (instrs_same f ss)) a b

  -- ---- fences

  own_fence_same : (a b : ℕ) → rules.fence_between y a b ≡ rules.fence_between x a b
  own_fence_same a b =
      ap (λ c. any_instr c (classes y b) (instr_at (trace_of y a)) (place y a) (place y b)) (classes_same a)
      ∙ ap (λ c. any_instr (classes x a) c (instr_at (trace_of y a)) (place y a) (place y b)) (classes_same b)
      ∙ carried (λ ss i j. any_instr (classes x a) (classes x b) (instr_at ss) i j)
      (λ ss i j. ap (λ g. any_instr (classes x a) (classes x b) g i j) (fun_ext (instrs_same f ss))) a b

  before_same : (p : List Entry) (a k : ℕ) → placed_before y p a k ≡ placed_before x p a k
  before_same p a k =
      ap (λ ss. kind_before p (operation y a).hart (slice_get ss k)) (run_changed f x a)
      ∙ ap (kind_before p (operation y a).hart) (slice_get-map (changed_step f) (trace_of x a) k)
      ∙ placed_same f p (operation y a).hart (slice_get (trace_of x a) k)
      ∙ ap (λ (o : Operation). kind_before p o.hart (slice_get (trace_of x a) k)) (operation_changed f x a)

  placed_fence_same : (p : List Entry) (a b : ℕ) → placed_between y p a b ≡ placed_between x p a b
  placed_fence_same p a b =
      ap (λ c. any_placed c (classes y b) (placed_before y p a) (place y a) (place y b)) (classes_same a)
      ∙ ap (λ c. any_placed (classes x a) c (placed_before y p a) (place y a) (place y b)) (classes_same b)
      ∙ ap (λ g. any_placed (classes x a) (classes x b) g (place y a) (place y b)) (fun_ext (before_same p a))
      ∙ ap (λ i. any_placed (classes x a) (classes x b) (placed_before x p a) i (place y b)) (place_same a)
      ∙ ap (any_placed (classes x a) (classes x b) (placed_before x p a) (place x a)) (place_same b)

  fence_same : (p : List Entry) (a b : ℕ) → fence_between y p a b ≡ fence_between x p a b
  fence_same p a b = or_same _ _ _ _ (own_fence_same a b) (placed_fence_same p a b)

  -- ---- preserved program order

  any_same : (g h : ℕ → Bool) (a b : ℕ) → ((m : ℕ) → g m ≡ h m) → any_between y g a b ≡ any_between x h a b
  any_same g h a b same =
      ap (λ (test : ℕ → Bool). list_any test (numbers_below (length (accesses y))))
      (fun_ext (λ m. and_same _ _ _ _ (and_same _ _ _ _ (order_same a m) (order_same m b)) (same m)))
      ∙ ap (λ n. list_any (λ m. po x a m && po x m b && h m) (numbers_below n)) (count_changed f x)

  module _ (p : List Entry) (rf : ℕ → Option ℕ) (a b : ℕ) where
    case_same : (r : Rule) → case_of y p rf a b r ≡ case_of x p rf a b r
    case_same Rule1 = and_same _ _ _ _ (store_same b) (word_same a b)
    case_same Rule2 =
        and_same _ _ _ _
        (and_same _ _ _ _
        (and_same _ _ _ _ (and_same _ _ _ _ (load_same a) (load_same b)) (word_same a b))
        (ap not (any_same (λ m. is_store y m && same_word y m a) (λ m. is_store x m && same_word x m a) a b
        (λ m. and_same _ _ _ _ (store_same m) (word_same m a)))))
        refl
    case_same Rule3 = and_same _ _ _ _ (and_same _ _ _ _ (swap_same a) (load_same b)) refl
    case_same Rule4 = fence_same p a b
    case_same Rule5 = acquire_same a
    case_same Rule6 = release_same b
    case_same Rule7 = and_same _ _ _ _ (rcsc_same a) (rcsc_same b)
    case_same Rule8 = pair_same a b
    case_same Rule9 = address_same a b
    case_same Rule10 = data_same a b
    case_same Rule11 = and_same _ _ _ _ (store_same b) (control_same a b)
    case_same Rule12 =
        and_same _ _ _ _ (load_same b)
        (any_same
        (λ m. is_store y m && (address_dependency y a m || data_dependency y a m) && is_same (rf b) (Some m))
        (λ m. is_store x m && (address_dependency x a m || data_dependency x a m) && is_same (rf b) (Some m))
        a b
        (λ m. and_same _ _ _ _
        (and_same _ _ _ _ (store_same m) (or_same _ _ _ _ (address_same a m) (data_same a m))) refl))
    case_same Rule13 = and_same _ _ _ _ (store_same b) (between_same a b)

    ppo_same : ppo y p rf a b ≡ ppo x p rf a b
    ppo_same =
        ap (λ (test : Rule → Bool). list_any test all_rules)
        (fun_ext (λ r. and_same _ _ _ _ (order_same a b) (case_same r)))

  -- ---- the global memory order, and what loads return

  module _ (order : List ℕ) where
    gmo_same : gmo y order ≡ gmo x order
    gmo_same =
        ap (λ n. range_with_len n (length (map f x.words)) ++ order) (count_changed f x)
        ∙ ap (λ n. range_with_len (length (accesses x)) n ++ order) (length-map x.words f)

    earlier_same : (a b : ℕ) → stands_before (gmo y order) a b ≡ stands_before (gmo x order) a b
    earlier_same a b = ap (λ ns. stands_before ns a b) gmo_same

    may_return_same : (load s : ℕ) → may_return y order load s ≡ may_return x order load s
    may_return_same load s =
        and_same _ _ _ _
        (and_same _ _ _ _ (store_same s) (word_same s load))
        (or_same _ _ _ _ (earlier_same s load) (order_same s load))

    source_same : (load : ℕ) → source_in y order load ≡ source_in x order load
    source_same load =
        ap (λ (test : ℕ → Bool). last_or None (filter test (gmo y order))) (fun_ext (may_return_same load))
        ∙ ap (λ ns. last_or None (filter (may_return x order load) ns)) gmo_same

    -- the word of one of the operations
    word_changed : (o : Option ℕ) → option_and_then (λ s. (operation y s).stored) o
        ≡ option_map f (option_and_then (λ s. (operation x s).stored) o)
    word_changed o =
        ap (λ (g : ℕ → Option ℕ). option_and_then g o)
        (fun_ext (λ s. ap (λ (u : Operation). u.stored) (operation_changed f x s)))
        ∙ map_then f (λ s. (operation x s).stored) o

    loaded_changed : (a : ℕ) → (operation y a).loaded ≡ option_map f (operation x a).loaded
    loaded_changed a = ap (λ (o : Operation). o.loaded) (operation_changed f x a)

    returned_changed : (a : ℕ) → option_and_then (λ s. (operation y s).stored) (source_in y order a)
        ≡ option_map f (option_and_then (λ s. (operation x s).stored) (source_in x order a))
    returned_changed a =
        ap (option_and_then (λ s. (operation y s).stored)) (source_same a) ∙ word_changed (source_in x order a)

    ppo_in_order : (p : List Entry) (a b : ℕ) → ppo y p (source_in y order) a b ≡ ppo x p (source_in x order) a b
    ppo_in_order p a b =
        ap (λ rf. ppo y p rf a b) (fun_ext source_same) ∙ ppo_same p (source_in x order) a b

    -- ---- the axioms, and back where different words stay different

    pub axioms_there : (p : List Entry) → ObeysAxioms x p order → ObeysAxioms y p order
    axioms_there p obeys =
        record {
          once = ap (lists_each order) (count_changed f x) ∙ obeys.once;
          preserved = λ a b e. earlier_same a b ∙ obeys.preserved a b (sym (ppo_in_order p a b) ∙ e);
          values = λ a e.
              loaded_changed a
              ∙ ap (option_map f) (obeys.values a (sym (load_same a) ∙ e))
              ∙ sym (returned_changed a);
          atomic = λ r w s e g h.
              let was =
              obeys.atomic r w s (sym (order_same r w) ∙ e) (sym (pair_same r w) ∙ g) (sym (source_same r) ∙ h) in (
                earlier_same s w ∙ was.0,
                λ m store word other first last. was.1 m (sym (store_same m) ∙ store) (sym (word_same m w) ∙ word)
                    (sym (one_hart_same m w) ∙ other) (sym (earlier_same s m) ∙ first) (sym (earlier_same m w) ∙ last),
              );
        }

    -- loads return the same words where f of them are the same
    abbrev pub ReadsBack : Type 0
    ReadsBack =
        (a : ℕ) → option_map f (operation x a).loaded
        ≡ option_map f (option_and_then (λ s. (operation x s).stored) (source_in x order a))
        → (operation x a).loaded ≡ option_and_then (λ s. (operation x s).stored) (source_in x order a)

    pub axioms_from : (p : List Entry) → ReadsBack → ObeysAxioms y p order → ObeysAxioms x p order
    axioms_from p reads obeys =
        record {
          once = ap (lists_each order) (sym (count_changed f x)) ∙ obeys.once;
          preserved = λ a b e. sym (earlier_same a b) ∙ obeys.preserved a b (ppo_in_order p a b ∙ e);
          values = λ a e. reads a (sym (loaded_changed a) ∙ obeys.values a (load_same a ∙ e) ∙ returned_changed a);
          atomic = λ r w s e g h.
              let was = obeys.atomic r w s (order_same r w ∙ e) (pair_same r w ∙ g) (source_same r ∙ h) in (
                sym (earlier_same s w) ∙ was.0,
                λ m store word other first last. was.1 m (store_same m ∙ store) (word_same m w ∙ word)
                    (one_hart_same m w ∙ other) (earlier_same s m ∙ first) (earlier_same m w ∙ last),
              );
        }

    -- ---- the last word of a location

    store_to_same : (location a : ℕ) → is_store_to y location a ≡ is_store_to x location a
    store_to_same location a =
        and_same _ _ _ _ (store_same a)
        (ap (λ (o : Operation). is_same o.address (Some (address_of location))) (operation_changed f x a))

    -- the word of the last of these that passes
    abbrev word_of_last : (ℕ → Bool) → List ℕ → ℕ
    word_of_last test ns = unwrap_or (option_and_then (λ a. (operation y a).stored) (last_or None (filter test ns))) 0

    pub last_changed : f 0 ≡ 0 → (location : ℕ) → last_word y order location ≡ f (last_word x order location)
    last_changed none location =
        let last = last_or None (filter (is_store_to x location) (gmo x order)) in
        ap (λ test. word_of_last test (gmo y order)) (fun_ext (store_to_same location))
        ∙ ap (word_of_last (is_store_to x location)) gmo_same
        ∙ ap (λ o. unwrap_or o 0) (word_changed last)
        ∙ either_zero (option_and_then (λ a. (operation x a).stored) last)
      where
        either_zero : (o : Option ℕ) → unwrap_or (option_map f o) 0 ≡ f (unwrap_or o 0)
        either_zero None = sym none
        either_zero (Some w) = refl
