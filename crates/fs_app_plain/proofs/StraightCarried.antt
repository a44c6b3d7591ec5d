-- Such runs are alike in all that the axioms ask of their operations.
use Rattle.std.proofs.Common.{◌≡◌, ℕ, ◌+◌, ◌<◌, Bool, true, ◌||◌, List, [], length, Option, None, Some, refl, ap, sym, ◌∙◌, arith}
use Rattle.std.specs.Prelude.{is_some, option_map, option_and_then, unwrap_or, slice_get}
use Rattle.std.specs.List.{list_any}
use Rattle.std.proofs.lemmas.Option.{slice_get_within}
use Rattle.fs_kinds.specs.declared.kind.Classes.{Classes}
use Rattle.fs_kinds.specs.declared.kind.Kind.{Kind}
use Rattle.fs_kinds.specs.declared.placement.Entry.{Entry}
use Rattle.fs_kinds.specs.Placement.{kind_at}
use Rattle.fs_instr.specs.Roles.{annotation, is_amo, is_sc}
use Rattle.fs_model.specs.declared.operation.Operation.{Operation}
use Rattle.fs_model.specs.declared.step.Step.{Step}
use Rattle.fs_model.specs.Slots.{slot_at}
use Rattle.fs_model.specs.Operations.{PreExecution, operation, place, trace_of, classes, po, precedes, between, are_paired, paired, instr_at, steps_of, address_depends, data_depends, control_depends, address_dependency, data_dependency, control_dependency, address_between}
use Rattle.fs_model.specs.Fences.{instr_orders, kind_orders, placed_between, fence_between}
use Rattle.fs_model.specs.Rules as rules
use Rattle.fs_model.proofs.ProgramOrder.{InPo, in_po}
use Rattle.fs_model.proofs.WhichOperation.{of_hart}
use Rattle.fs_app_plain.proofs.StraightSteps.{bare, bare_step, same_of_both}
use Rattle.fs_app_plain.proofs.StraightRuns.{Tails}
use Rattle.fs_app_plain.proofs.StraightOperations.{bare_operation, step_same, instr_same, count_same, operation_same}
use Rattle.fs_app_plain.proofs.StraightDepends.{or_same, any_between_same, address_there, data_there, control_there, address_between_there, paired_there}
use Rattle.fs_model_laws.proofs.FencedAlike.{Alike}

-- the fence placed before a step of a hart
abbrev kind_before : List Entry → Option ℕ → Option Step → Option Kind
kind_before p h o = option_and_then (λ hart. option_and_then (λ s. kind_at (slot_at hart s.at) p) o) h

kind_of_bare : (p : List Entry) (h : Option ℕ) (o : Option Step) → kind_before p h (option_map bare_step o) ≡ kind_before p h o
kind_of_bare p None o = refl
kind_of_bare p (Some hart) None = refl
kind_of_bare p (Some hart) (Some s) = refl

kind_same : (p : List Entry) (h : Option ℕ) (o u : Option Step) → option_map bare_step o ≡ option_map bare_step u
    → kind_before p h o ≡ kind_before p h u
kind_same p h o u e = sym (kind_of_bare p h o) ∙ ap (kind_before p h) e ∙ kind_of_bare p h u

module _ (p : List Entry) (x y : PreExecution) (words : y.words ≡ x.words) (long : length x.traces ≡ length y.traces)
    (tails : (k : ℕ) → Tails (steps_of x.traces k) (steps_of y.traces k)) where
  same : (a : ℕ) → bare_operation (operation y a) ≡ bare_operation (operation x a)
  same a = operation_same x y words long tails a

  hart_same : (a : ℕ) → (operation y a).hart ≡ (operation x a).hart
  hart_same a = ap (λ (o : Operation). o.hart) (same a)

  place_same : (a : ℕ) → place y a ≡ place x a
  place_same a = ap (λ (o : Operation). o.place) (same a)

  classes_same : (a : ℕ) → classes y a ≡ classes x a
  classes_same a =
      let made : Operation → Classes = λ o. record { reads = is_some o.loaded; writes = is_some o.stored } in
      ap made (same a)

  order_same : (a b : ℕ) → po y a b ≡ po x a b
  order_same a b =
      ap (λ o. precedes o (operation y b)) (same a) ∙ ap (precedes (bare_operation (operation x a))) (same b)

  module _ (a b : ℕ) (low : po x a b ≡ true) where
    found : InPo x a b
    found = in_po x a b low

    abbrev ss : List Step
    ss = steps_of x.traces found.hart

    abbrev us : List Step
    us = steps_of y.traces found.hart

    abbrev i : ℕ
    i = place x a

    abbrev j : ℕ
    j = place x b

    first_run : trace_of x a ≡ ss
    first_run = ap (λ h. unwrap_or (option_map (steps_of x.traces) h) []) found.first

    second_run : trace_of y a ≡ us
    second_run = ap (λ h. unwrap_or (option_map (steps_of y.traces) h) []) (hart_same a ∙ found.first)

    last : j < length ss
    last = slice_get_within ss j _ (of_hart x b found.hart found.second).there

    first : i < length ss
    first = let before = found.forward in let after = last in omega (arith, before, after)

    instrs : (k : ℕ) → k < length ss → bare (instr_at us k) ≡ bare (instr_at ss k)
    instrs k less = instr_same ss us k less (tails found.hart)

    -- what is said of the steps of both operations
    carried : (f : List Step → ℕ → ℕ → Bool) → f us i j ≡ f ss i j
        → f (trace_of y a) (place y a) (place y b) ≡ f (trace_of x a) (place x a) (place x b)
    carried f each =
        ap (λ steps. f steps (place y a) (place y b)) second_run
        ∙ ap (λ k. f us k (place y b)) (place_same a)
        ∙ ap (f us i) (place_same b)
        ∙ each
        ∙ ap (λ steps. f steps i j) (sym first_run)

    own_fence_same : rules.fence_between y a b ≡ rules.fence_between x a b
    own_fence_same =
        let any : Classes → Classes → List Step → ℕ → ℕ → Bool =
        λ c d steps m n. list_any (λ k. instr_orders c d (instr_at steps k)) (between m n) in
        let orders : List Step → ℕ → Bool = λ steps k. instr_orders (classes x a) (classes x b) (instr_at steps k) in
        ap (λ c. any c (classes y b) (trace_of y a) (place y a) (place y b)) (classes_same a)
        ∙ ap (λ d. any (classes x a) d (trace_of y a) (place y a) (place y b)) (classes_same b)
        ∙ carried (any (classes x a) (classes x b))
        (any_between_same (length ss) (orders us) (orders ss) i j first (let end = last in omega (arith, end))
        (λ k less. same_of_both (instr_orders (classes x a) (classes x b)) (λ o c d t. refl) (λ t. refl) (instr_at us k)
        (instr_at ss k) (instrs k less)))

    placed_fence_same : placed_between y p a b ≡ placed_between x p a b
    placed_fence_same =
        let any : Classes → Classes → Option ℕ → List Step → ℕ → ℕ → Bool =
        λ c d h steps m n. list_any (λ k. kind_orders c d (kind_before p h (slice_get steps k))) (between m (n + 1)) in
        let hart = (operation x a).hart in
        let orders : List Step → ℕ → Bool =
        λ steps k. kind_orders (classes x a) (classes x b) (kind_before p hart (slice_get steps k)) in
        ap (λ c. any c (classes y b) (operation y a).hart (trace_of y a) (place y a) (place y b)) (classes_same a)
        ∙ ap (λ d. any (classes x a) d (operation y a).hart (trace_of y a) (place y a) (place y b)) (classes_same b)
        ∙ ap (λ h. any (classes x a) (classes x b) h (trace_of y a) (place y a) (place y b)) (hart_same a)
        ∙ carried (any (classes x a) (classes x b) hart)
        (any_between_same (length ss) (orders us) (orders ss) i (j + 1) first (let end = last in omega (arith, end))
        (λ k less. ap (kind_orders (classes x a) (classes x b))
        (kind_same p hart (slice_get us k) (slice_get ss k) (step_same ss us k less (tails found.hart)))))

    fence_same : fence_between y p a b ≡ fence_between x p a b
    fence_same = or_same _ _ _ _ own_fence_same placed_fence_same

    pair_same : paired y a b ≡ paired x a b
    pair_same = carried are_paired (paired_there us ss (length ss) instrs i j first last)

    address_same : address_dependency y a b ≡ address_dependency x a b
    address_same = carried address_depends (address_there us ss (length ss) instrs i j first last)

    data_same : data_dependency y a b ≡ data_dependency x a b
    data_same = carried data_depends (data_there us ss (length ss) instrs i j first last)

    control_same : control_dependency y a b ≡ control_dependency x a b
    control_same = carried control_depends (control_there us ss (length ss) instrs i j first last)

    between_same : address_between y a b ≡ address_between x a b
    between_same =
        carried (λ steps m n. list_any (address_depends steps m) (between m n))
        (address_between_there us ss (length ss) instrs i j first last)

  pub alike : Alike x p y p
  alike =
      record {
        count = count_same x y words long tails;
        words = words;
        hart = hart_same;
        address = λ a. ap (λ (o : Operation). o.address) (same a);
        loaded = λ a. ap (λ (o : Operation). o.loaded) (same a);
        stored = λ a. ap (λ (o : Operation). o.stored) (same a);
        annotated = λ a.
            same_of_both annotation (λ o b c t. refl) (λ t. refl) (operation y a).instr (operation x a).instr
            (ap (λ (o : Operation). o.instr) (same a));
        swaps = λ a.
            same_of_both (λ i. is_amo i || is_sc i) (λ o b c t. refl) (λ t. refl) (operation y a).instr (operation x a).instr
            (ap (λ (o : Operation). o.instr) (same a));
        order = order_same;
        fences = fence_same;
        pairs = pair_same;
        addresses = address_same;
        words_stored = data_same;
        controls = control_same;
        betweens = between_same;
      }
