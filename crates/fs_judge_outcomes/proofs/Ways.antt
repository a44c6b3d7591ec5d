-- The search finds a way to the outcome exactly where there is one.
use Rattle.std.proofs.Common.{◌≡◌, ℕ, suc, ◌+◌, ◌<◌, ◌≤◌, ◌==◌, Bool, true, false, not, Option, None, Some, List, [], ◌∷◌, ◌++◌, length, inl, inr, refl, sym, ◌∙◌, ap, subst, arith}
use Rattle.std.proofs.Math.Path.{fun_ext}
use Rattle.std.specs.Prelude.{slice_get, if◌then◌else◌}
use Rattle.std.specs.List.{Contains, slice_index_or}
use Rattle.std.proofs.lemmas.Bool.{cases_lt, false≢true}
use Rattle.std.proofs.lemmas.List.{get_or_past, length-map}
use Rattle.std.proofs.lemmas.List.Elements.{All-contains}
use Rattle.std.proofs.lemmas.Option.{slice_get-get_or, slice_get_within, get_or_from_slice_get}
use Rattle.fs_model.specs.declared.test.Test.{Test}
use Rattle.fs_model.specs.declared.test.Quantifier.{Quantifier}
use Rattle.fs_model.specs.declared.test.Quantifier.TheVariants.{Exists, NotExists, Forall}
use Rattle.fs_model.specs.declared.step.Step.{Step}
use Rattle.fs_model.specs.Condition.{Condition, condition_of}
use Rattle.fs_model.specs.Test.{IsBounded}
use Rattle.fs_model.specs.Execute.{read}
use Rattle.fs_model.specs.Trace.{start_with, hart_after}
use Rattle.fs_model.specs.Operations.{steps_of}
use Rattle.fs_model.specs.Execution.{initial_words, registers_of}
use Rattle.fs_model.specs.Shows.{final_register, holds, is_outcome}
use Rattle.fs_model.specs.Values.{StoresWord}
use Rattle.fs_cert_evidence.specs.Trees.{AreItsRuns}
use Rattle.fs_region_refutation.specs.Alone.{RunOf}
use Rattle.fs_region_refutation.specs.Runs.{runs_over, AreOfEach}
use Rattle.fs_verdict_laws.proofs.Alone.{own_steps}
use Rattle.fs_values.proofs.Contained.{in_map, from_map}
use Rattle.fs_judge_outcomes.specs.declared.end.End.{End}
use Rattle.fs_judge_outcomes.specs.declared.end.Stored.{Stored}
use Rattle.fs_judge_outcomes.specs.Vacuous.{MayEnd, IsWay, IsVacuous}
use Rattle.fs_judge_outcomes.specs.inner.Settled.{truth_of, settled}
use Rattle.fs_judge_outcomes.specs.inner.Ends.{word_in, by_hart, no_location, with_hart, words_for, CanShow}
use Rattle.fs_judge_outcomes.specs.inner.Runs.{final, end_of, registers_in, AreAllEnds}
use Rattle.fs_judge_outcomes.proofs.Settling.{truth_holds, settled_holds}
use Rattle.fs_judge_outcomes.proofs.Numbered.{Each, Pairs, each_from, first, same_length}
use Rattle.fs_judge_outcomes.proofs.Chosen.{Agrees, Shown, hart_known, nothing_known, none_below, below_low, in_from, out_from, stored_of, stored_from, words_below, harts_below, shown, show_by}
use Rattle.fs_judge_outcomes.proofs.Registers.{named_right, named_is, all_known}
use Rattle.fs_judge_outcomes.proofs.Words.{at_word, stored_there, stored_back, stored_word, first_word, word_from, stored_by_one, stored_in_all}

outcome_is : (q : Quantifier) (b : Bool) → is_outcome q b ≡ true → b ≡ is_outcome q true
outcome_is Exists b e = e
outcome_is NotExists b e = e
outcome_is Forall true e = absurd (false≢true e)
outcome_is Forall false e = refl

outcome_from : (q : Quantifier) (b : Bool) → b ≡ is_outcome q true → is_outcome q b ≡ true
outcome_from Exists b e = e
outcome_from NotExists b e = e
outcome_from Forall b e = ap not e

not_itself : (b : Bool) → b ≡ not b → ⊥
not_itself true e = false≢true (sym e)
not_itself false e = false≢true e

zero_more : (n : ℕ) → 0 + n ≡ n
zero_more n = omega arith

-- where nothing is known of a hart
nothing_by : (h g : ℕ) → by_hart 0 [] h g ≡ None
nothing_by h g = go (h == 0)
  where
    go : (b : Bool) → (if b then word_in [] g else None) ≡ None
    go true = refl
    go false = refl

module _ (t : Test) (bounded : IsBounded t) (runs : List (List RunOf)) (all : AreItsRuns t (runs_over runs)) (of : AreOfEach t runs) where
  abbrev whole : Condition
  whole = condition_of t.condition

  abbrev wanted : Bool
  wanted = is_outcome t.quantifier true

  abbrev run : ℕ → List Step → RunOf
  run hart steps = record { test = t; hart = hart; steps = steps }

  final_is : (traces : List (List Step)) (h g : ℕ) → h < length t.codes → final (run h (steps_of traces h)) g ≡ final_register t traces h g
  final_is traces h g low =
      ap (λ (steps : List Step). read (hart_after (start_with (registers_of t h)) steps).registers g) (own_steps t h (steps_of traces h) low)

  -- ---- runs, with what they are of

  run_is : (ρ : RunOf) (h : ℕ) → (ρ.test ≡ t) × (ρ.hart ≡ h) → ρ ≡ run h ρ.steps
  run_is ρ h is = λ i. record { test = is.0 i; hart = is.1 i; steps = ρ.steps }

  run_in : (h : ℕ) (steps : List Step) → Contains (runs_over runs h) steps → Contains (slice_index_or runs h []) (run h steps)
  run_in h steps has =
      let found = from_map (λ (ρ : RunOf). ρ.steps) (slice_index_or runs h []) steps has in
      let low = found.1.1 in
      let its = All-contains (λ (ρ : RunOf). (ρ.test ≡ t) × (ρ.hart ≡ h)) (slice_index_or runs h []) found.0 (of h) found.1 in
      let same : found.0 ≡ run h found.0.steps = run_is found.0 h its in
      subst (Contains (slice_index_or runs h [])) (same ∙ ap (run h) found.2) found.1

  -- what counts of a run is right
  agrees : (traces : List (List Step)) (h : ℕ) → h < length t.codes → Agrees (final_register t traces) h (end_of whole (run h (steps_of traces h)))
  agrees traces h low g y e =
      sym (final_is traces h g low) ∙ named_right (final (run h (steps_of traces h))) (registers_in h whole []) g y e

  -- ---- with nothing known

  nothing_holds : (r : ℕ → ℕ → ℕ) (w : ℕ → ℕ) → holds r w (with_hart 0 [] whole) ≡ holds r w whole
  nothing_holds r w =
      settled_holds r w (by_hart 0 []) no_location
      (λ h g y e. absurd (let none : None ≡ Some y = sym (nothing_by h g) ∙ e in cc)) (nothing_known w) whole

  module _ (lists : List (List End)) (ends : AreAllEnds wanted whole (length t.codes) runs lists) where
    -- ---- where there is a way, it is found

    module _ (traces : List (List Step)) (last : ℕ → ℕ) (way : IsWay t traces last) where
      abbrev r : ℕ → ℕ → ℕ
      r = final_register t traces

      abbrev E : ℕ → End
      E h = end_of whole (run h (steps_of traces h))

      holding : holds r last whole ≡ wanted
      holding = outcome_is t.quantifier (holds r last whole) way.outcome

      alive : (h : ℕ) → h < length t.codes → with_hart h (E h).registers whole ≡ truth_of (not wanted) → ⊥
      alive h low dead = not_itself wanted (
          sym holding
          ∙ sym (settled_holds r last (by_hart h (E h).registers) no_location (hart_known r h (E h) (agrees traces h low)) (nothing_known last) whole)
          ∙ ap (holds r last) dead ∙ truth_holds r last (not wanted)
          )

      its_run : (h : ℕ) → h < length t.codes → Contains (slice_index_or runs h []) (run h (steps_of traces h))
      its_run h low = run_in h (steps_of traces h) (((all.all h low).exact (steps_of traces h)).1 (way.runs.runs h low, way.runs.values h low))

      in_lists : Each (λ h list. Contains list (E h)) 0 lists
      in_lists = each_from (λ h list. Contains list (E h)) 0 lists (λ i list at.
          let few = slice_get_within lists i list at in
          let size = ends.size in
          let low : i < length t.codes = omega (arith, few, size) in
          let one : slice_index_or lists i [] ≡ list = get_or_from_slice_get lists i list [] at in
          subst (λ k. Contains list (E k)) (sym (zero_more i))
          (subst (λ (l : List End). Contains l (E i)) one ((ends.each i low).complete (run i (steps_of traces i)) (its_run i low) (alive i low))))

      abbrev all_stored : List Stored
      all_stored = stored_from r last E whole 0 lists

      idle : (h : ℕ) → length t.codes ≤ h → steps_of traces h ≡ []
      idle h high = let size = way.runs.harts in get_or_past traces h [] (omega (arith, high, size))

      stored_in : (h k word : ℕ) → StoresWord (steps_of traces h) k word → Contains all_stored (at_word k word)
      stored_in h k word stores = elim (cases_lt h (length t.codes)) [
        | inl low ↦ (
            let size = ends.size in
            in_from r last E whole 0 lists h (omega (arith, low, size)) (at_word k word)
            (subst (λ j. Contains (E j).stored (at_word k word)) (sym (zero_more h)) (stored_there (steps_of traces h) k word stores)))
        | inr high ↦ absurd (subst (λ ss. StoresWord ss k word) (idle h high) stores)
      ]

      stored_out : (k word : ℕ) → Contains all_stored (at_word k word) → (h : ℕ) × StoresWord (steps_of traces h) k word
      stored_out k word has =
          let found = out_from r last E whole 0 lists (at_word k word) has in
          (0 + found.0, stored_back (steps_of traces (0 + found.0)) k word found.1)

      words : Each (λ k first. Contains (words_for k first ([] ++ all_stored)) (last k)) 0 (initial_words t)
      words = each_from (λ k first. Contains (words_for k first all_stored) (last k)) 0 (initial_words t) (λ k first at.
          let few = slice_get_within (initial_words t) k first at in
          let size = length-map t.locations (λ location. location.word) in
          subst (λ j. Contains (words_for j first all_stored) (last j)) (sym (zero_more k))
          (elim (way.ends k (omega (arith, few, size))) [
            | inl stores ↦ stored_word k first all_stored (last k) (stored_in stores.0 k (last k) stores.1)
            | inr begins ↦ (
                let both : Some first ≡ Some (last k) = sym at ∙ begins.0 in
                let same : first ≡ last k = cc in
                subst (Contains (words_for k first all_stored)) same
                (first_word k first all_stored (λ other has. let out = stored_out k other has in begins.1 out.0 other out.1)))
          ]))

      pub found_by : CanShow 0 lists (initial_words t) [] wanted (with_hart 0 [] whole)
      found_by =
          show_by r last E whole 0 lists (initial_words t) [] wanted (with_hart 0 [] whole) (length t.codes) (length t.locations) in_lists words
          (ap (λ (K : ℕ → ℕ → Option ℕ). settled K no_location whole)
          (fun_ext (λ h. fun_ext (λ g. nothing_by h g ∙ sym (none_below (λ k. word_in (E k).registers g) h)))))
          (all_known r last (harts_below r last E whole (length t.codes)) (words_below r last E whole (length t.locations)) (length t.codes) (length t.locations) whole bounded.atoms
          (λ h g low names. below_low (λ k. word_in (E k).registers g) (length t.codes) h low
          ∙ named_is (final (run h (steps_of traces h))) h whole g names ∙ ap Some (final_is traces h g low))
          (λ k low. below_low (λ j. Some (last j)) (length t.locations) k low))
          (zero_more (length lists) ∙ ends.size) (length-map t.locations (λ location. location.word)) holding

    -- ---- where a way is found, there is one

    abbrev IsEndOf : ℕ → End → List Step → Type 0
    IsEndOf h end steps = Contains (runs_over runs h) steps × (end ≡ end_of whole (run h steps))

    run_for : (h : ℕ) → h < length t.codes → (end : End) → Contains (slice_index_or lists h []) end → (steps : List Step) × IsEndOf h end steps
    run_for h low end has =
        let found = (ends.each h low).sound end has in
        let its = All-contains (λ (ρ : RunOf). (ρ.test ≡ t) × (ρ.hart ≡ h)) (slice_index_or runs h []) found.0 (of h) found.1 in (
          found.0.steps,
          (in_map (λ (ρ : RunOf). ρ.steps) (slice_index_or runs h []) found.0 found.1, found.2 ∙ ap (end_of whole) (run_is found.0 h its)),
        )

    chosen : (n : ℕ) (ls : List (List End)) (es : List End) → Pairs (λ h list end. Contains list end) n ls es
        → ((i : ℕ) (list : List End) → slice_get ls i ≡ Some list → (end : End) → Contains list end → (steps : List Step) × IsEndOf (n + i) end steps)
        → (traces : List (List Step)) × Pairs IsEndOf n es traces
    chosen n [] [] pairs each = ([], tt)
    chosen n [] (e ∷ es) pairs each = absurd pairs
    chosen n (l ∷ ls) [] pairs each = absurd pairs
    chosen n (l ∷ ls) (e ∷ es) pairs each =
        let here = each 0 l refl e pairs.0 in
        let zero_here : n + 0 ≡ n = omega arith in
        let rest = chosen (n + 1) ls es pairs.1 (λ i list at end has.
        let next : n + suc i ≡ n + 1 + i = omega arith in
        let found = each (suc i) list at end has in
        (found.0, subst (λ k. IsEndOf k end found.0) next found.1)) in
        (here.0 ∷ rest.0, (subst (λ k. IsEndOf k e here.0) zero_here here.1, rest.1))

    module _ (found : Shown 0 lists (initial_words t) [] wanted (with_hart 0 [] whole)) where
      of_lists : Pairs (λ h list end. Contains list end) 0 lists found.ends
      of_lists = found.of

      each_run : (i : ℕ) (list : List End) → slice_get lists i ≡ Some list → (end : End) → Contains list end → (steps : List Step) × IsEndOf (0 + i) end steps
      each_run i list at end has =
          let few = slice_get_within lists i list at in
          let size = ends.size in
          let one : slice_index_or lists i [] ≡ list = get_or_from_slice_get lists i list [] at in
          let its = run_for i (omega (arith, few, size)) end (subst (λ (l : List End). Contains l end) (sym one) has) in
          (its.0, subst (λ k. IsEndOf k end its.0) (sym (zero_more i)) its.1)

      abbrev choice : (traces : List (List Step)) × Pairs IsEndOf 0 found.ends traces
      choice = chosen 0 lists found.ends of_lists each_run

      abbrev traces : List (List Step)
      traces = choice.0

      long : length traces ≡ length t.codes
      long =
          same_length IsEndOf 0 found.ends traces choice.1
          ∙ same_length (λ h list end. Contains list end) 0 lists found.ends of_lists ∙ ends.size

      -- the run that was taken of a hart, and its end
      record Taken (h : ℕ) : Type 0 where
        end : End
        at : slice_get found.ends h ≡ Some end
        is : IsEndOf h end (steps_of traces h)

      taken : (h : ℕ) → h < length t.codes → Taken h
      taken h low =
          let size = long in
          let there = slice_get-get_or traces h [] (omega (arith, low, size)) in
          let its = first IsEndOf 0 found.ends traces choice.1 h (steps_of traces h) there in
          record { end = its.item; at = its.at; is = subst (λ k. IsEndOf k its.item (steps_of traces h)) (zero_more h) its.so }

      low_end : (h : ℕ) (end : End) → slice_get found.ends h ≡ Some end → h < length t.codes
      low_end h end at =
          let few = slice_get_within found.ends h end at in
          let size = same_length (λ k list e. Contains list e) 0 lists found.ends of_lists in
          let harts = ends.size in
          omega (arith, few, size, harts)

      -- which is the end of that hart in the list
      end_at : (h : ℕ) (end : End) → slice_get found.ends h ≡ Some end → end ≡ end_of whole (run h (steps_of traces h))
      end_at h end at =
          let its = taken h (low_end h end at) in
          let both : Some end ≡ Some its.end = sym at ∙ its.at in
          let same : end ≡ its.end = cc in
          same ∙ its.is.1

      abbrev last : ℕ → ℕ
      last k = slice_index_or found.last k 0

      abbrev chosen_register : ℕ → ℕ → ℕ
      chosen_register = final_register t traces

      all_agree : Each (Agrees chosen_register) 0 found.ends
      all_agree = each_from (Agrees chosen_register) 0 found.ends (λ h end at.
          subst (λ k. Agrees chosen_register k end) (sym (zero_more h))
          (subst (Agrees chosen_register h) (sym (end_at h end at)) (agrees traces h (low_end h end at))))

      all_last : Each (λ k word. last k ≡ word) 0 found.last
      all_last = each_from (λ k word. last k ≡ word) 0 found.last (λ k word at.
          subst (λ j. last j ≡ word) (sym (zero_more k)) (get_or_from_slice_get found.last k word 0 at))

      stores_back : (k word : ℕ) → Contains (stored_of found.ends) (at_word k word) → (h : ℕ) × StoresWord (steps_of traces h) k word
      stores_back k word has =
          let its = stored_by_one found.ends (at_word k word) has in
          let there = subst (λ (e : End). Contains e.stored (at_word k word)) (end_at its.hart its.end its.at) its.has in
          (its.hart, stored_back (steps_of traces its.hart) k word there)

      stores_in : (h k word : ℕ) → StoresWord (steps_of traces h) k word → Contains (stored_of found.ends) (at_word k word)
      stores_in h k word stores = elim (cases_lt h (length t.codes)) [
        | inl low ↦ (
            let its = taken h low in
            stored_in_all found.ends h its.end (at_word k word) its.at
            (subst (λ (e : End). Contains e.stored (at_word k word)) (sym its.is.1) (stored_there (steps_of traces h) k word stores)))
        | inr high ↦ (
            let size = long in
            let idle_run : steps_of traces h ≡ [] = get_or_past traces h [] (omega (arith, high, size)) in
            absurd (subst (λ ss. StoresWord ss k word) idle_run stores))
      ]

      may_end : (k : ℕ) → k < length t.locations → MayEnd t traces k (last k)
      may_end k low =
          let words_long = same_length (λ j first word. Contains (words_for j first ([] ++ stored_of found.ends)) word) 0 (initial_words t) found.last found.words in
          let places = length-map t.locations (λ location. location.word) in
          let there = slice_get-get_or found.last k 0 (omega (arith, low, words_long, places)) in
          let its = first (λ j first word. Contains (words_for j first ([] ++ stored_of found.ends)) word) 0 (initial_words t) found.last found.words k (last k) there in
          let here = subst (λ j. Contains (words_for j its.item (stored_of found.ends)) (last k)) (zero_more k) its.so in
          elim (word_from k its.item (stored_of found.ends) (last k) here) [
            | inl stored ↦ inl (stores_back k (last k) stored)
            | inr begins ↦ inr (
              its.at ∙ ap Some begins.0,
              λ hart other stores. begins.1 other (stores_in hart k other stores),
            )
          ]

      way_of : IsWay t traces last
      way_of = record {
        runs = record {
          harts = long;
          runs = λ h low. (((all.all h low).exact (steps_of traces h)).0 (taken h low).is.0).0;
          values = λ h low. (((all.all h low).exact (steps_of traces h)).0 (taken h low).is.0).1;
        };
        ends = may_end;
        outcome = outcome_from t.quantifier (holds chosen_register last whole)
            (sym (nothing_holds chosen_register last) ∙ found.shows chosen_register last all_agree all_last);
      }

    -- ---- both

    pub is_way : CanShow 0 lists (initial_words t) [] wanted (with_hart 0 [] whole) → IsVacuous t → ⊥
    is_way can vacuous =
        let found = shown 0 lists (initial_words t) [] wanted (with_hart 0 [] whole) can in
        vacuous (traces found) (last found) (way_of found)

    pub is_vacuous : (CanShow 0 lists (initial_words t) [] wanted (with_hart 0 [] whole) → ⊥) → IsVacuous t
    is_vacuous none found_traces found_last way = none (found_by found_traces found_last way)

-- ---- as the search is asked

-- what the code has, and what it is
pub record Asked (t s : Test) (runs : List (List RunOf)) (ls : List (List End)) (firsts : List ℕ) (told : Bool) (c : Condition) : Type 0 where
  pub same : t ≡ s
  pub bounded : IsBounded s
  pub all : AreItsRuns s (runs_over runs)
  pub of : AreOfEach s runs
  pub lists : List (List End)
  pub truth : Bool
  pub harts : ℕ
  pub truth_is : truth ≡ is_outcome t.quantifier true
  pub harts_is : harts ≡ length t.codes
  pub ends : AreAllEnds truth (condition_of t.condition) harts runs lists
  pub lists_is : ls ≡ lists
  pub firsts_is : firsts ≡ initial_words t
  pub told_is : told ≡ truth
  pub left_is : c ≡ with_hart 0 [] (condition_of t.condition)

module _ (t s : Test) (runs : List (List RunOf)) (ls : List (List End)) (firsts : List ℕ) (told : Bool) (c : Condition) (asked : Asked t s runs ls firsts told c) where
  bounded_here : IsBounded t
  bounded_here = subst IsBounded (sym asked.same) asked.bounded

  all_here : AreItsRuns t (runs_over runs)
  all_here = subst (λ u. AreItsRuns u (runs_over runs)) (sym asked.same) asked.all

  of_here : AreOfEach t runs
  of_here = subst (λ u. AreOfEach u runs) (sym asked.same) asked.of

  ends_here : AreAllEnds (is_outcome t.quantifier true) (condition_of t.condition) (length t.codes) runs asked.lists
  ends_here =
      subst (λ n. AreAllEnds (is_outcome t.quantifier true) (condition_of t.condition) n runs asked.lists) asked.harts_is
      (subst (λ (b : Bool). AreAllEnds b (condition_of t.condition) asked.harts runs asked.lists) asked.truth_is asked.ends)

  abbrev left : Condition
  left = with_hart 0 [] (condition_of t.condition)

  told_here : told ≡ is_outcome t.quantifier true
  told_here = asked.told_is ∙ asked.truth_is

  shown_here : CanShow 0 ls firsts [] told c → CanShow 0 asked.lists (initial_words t) [] (is_outcome t.quantifier true) left
  shown_here show =
      subst (λ d. CanShow 0 asked.lists (initial_words t) [] (is_outcome t.quantifier true) d) asked.left_is
      (subst (λ (b : Bool). CanShow 0 asked.lists (initial_words t) [] b c) told_here
      (subst (λ fs. CanShow 0 asked.lists fs [] told c) asked.firsts_is
      (subst (λ l. CanShow 0 l firsts [] told c) asked.lists_is show)))

  shown_there : CanShow 0 asked.lists (initial_words t) [] (is_outcome t.quantifier true) left → CanShow 0 ls firsts [] told c
  shown_there show =
      subst (λ l. CanShow 0 l firsts [] told c) (sym asked.lists_is)
      (subst (λ fs. CanShow 0 asked.lists fs [] told c) (sym asked.firsts_is)
      (subst (λ (b : Bool). CanShow 0 asked.lists (initial_words t) [] b c) (sym told_here)
      (subst (λ d. CanShow 0 asked.lists (initial_words t) [] (is_outcome t.quantifier true) d) (sym asked.left_is) show)))

  pub has_way : CanShow 0 ls firsts [] told c → IsVacuous s → ⊥
  has_way show =
      subst (λ u. IsVacuous u → ⊥) asked.same (is_way t bounded_here runs all_here of_here asked.lists ends_here (shown_here show))

  pub has_none : (CanShow 0 ls firsts [] told c → ⊥) → IsVacuous s
  has_none none =
      subst IsVacuous asked.same (is_vacuous t bounded_here runs all_here of_here asked.lists ends_here (λ show. none (shown_there show)))
