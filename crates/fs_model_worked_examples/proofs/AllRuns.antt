-- All runs of store buffering, and of a pair and a store: so what refutes these by their runs refutes them.
use Rattle.std.proofs.Common.{◌≡◌, ◌⊎◌, ℕ, zero, suc, ◌<◌, ◌≤◌, None, Some, List, [], ◌∷◌, All, length, inl, inr, refl, sym, ◌∙◌, ap, subst, arith, lit<, lit≤, pos}
use Rattle.std.specs.Prelude.{slice_get}
use Rattle.std.specs.List.{AllPairs, Contains}
use Rattle.std.proofs.lemmas.List.Kept.{AllPairs-cons}
use Rattle.std.proofs.lemmas.List.Elements.{All-nil, All-cons}
use Rattle.fs_instr.specs.declared.instr.Instr.TheVariants.{Lw, Sw, Lr, Sc}
use Rattle.fs_kinds.specs.declared.kind.Kind.TheVariants.{WR}
use Rattle.fs_model.specs.declared.test.Test.{Test}
use Rattle.fs_model.specs.declared.step.Step.{Step}
use Rattle.fs_model.specs.Test.{address_of}
use Rattle.fs_model.specs.Choices.{choices_of, ComesBefore}
use Rattle.fs_model.specs.Trace.{start_with, after_step}
use Rattle.fs_model.specs.Execution.{IsTrace, code_of, registers_of, initial_words}
use Rattle.fs_model.specs.Values.{IsValue, IsValueAfter, LoadsFrom, LoadsOne, StoresWord, rounds}
use Rattle.fs_model_worked_examples.proofs.Inversion.{step_of, idle_step, stores_next, loads_next, reserves_next, succeeds_or_fails, at_end, followed}
use Rattle.fs_model.specs.Values.{HasAllRuns}
use Rattle.fs_cert_evidence.specs.Trees.{IsRefuted}
use Rattle.fs_model_worked_examples.specs.Small.{Place, x, y, lw, sw, plain, sb, sb_runs, parted, pair_runs, reserve, success, failure, succeeds, fails}
use Rattle.fs_model_worked_examples.specs.Refutations.{fences, sb_tree, parted_tree}

-- ---- choice order

abbrev Precedes : List Step → List Step → Type 0
Precedes a b = ComesBefore (choices_of a) (choices_of b)

two_rise : {A : Type 0} (R : A → A → Type 0) (x y : A) → R x y → AllPairs R (x ∷ y ∷ [])
two_rise R x y holds zero zero d below within = absurd (omega (arith, below))
two_rise R x y holds zero (suc zero) d below within = holds
two_rise R x y holds zero (suc (suc j)) d below within = absurd (omega (arith, within))
two_rise R x y holds (suc i) j d below within = absurd (omega (arith, below, within))

one_rises : {A : Type 0} (R : A → A → Type 0) (x : A) → AllPairs R (x ∷ [])
one_rises R x i j d below within = absurd (omega (arith, below, within))

-- ---- what locations hold

-- the word that a location holds at first, or one that a run stores there
pub first_or_stored : (t : Test) (n k word : ℕ) → IsValueAfter t n k word
    → (slice_get (initial_words t) k ≡ Some word)
    ⊎ ((hart : ℕ) × (steps : List Step) × (hart < length t.codes) × IsTrace t hart steps × StoresWord steps k word)
first_or_stored t zero k word first = inl first
first_or_stored t (suc n) k word (inl before) = first_or_stored t n k word before
first_or_stored t (suc n) k word (inr (hart, steps, low, run, loads, stores)) = inr (hart, steps, low, run, stores)

same_word : {a b : ℕ} → Some a ≡ Some b → a ≡ b
same_word e = cc

none_some : {A : Type 0} (w : ℕ) → None ≡ Some w → A
none_some w e = absurd cc

-- two locations that begin with 0
pub first_word : (k word : ℕ) → slice_get (0 ∷ 0 ∷ []) k ≡ Some word → word ≡ 0
first_word zero word e = sym (same_word e)
first_word (suc zero) word e = sym (same_word e)
first_word (suc (suc k)) word e = none_some word e

-- ---- what steps load

one_place : (j k : ℕ) → Some (address_of j) ≡ Some (address_of k) → j ≡ k
one_place j k e = let same = same_word e in omega (arith, same)

loads_word : (V : ℕ → ℕ → Type 0) (s : Step) (j l : ℕ) → s.address ≡ Some (address_of j) → s.loaded ≡ Some l → V j l → LoadsOne V s
loads_word V s j l at is v k word e f =
    subst (λ i. V i word) (one_place j k (sym at ∙ e)) (subst (V j) (same_word (sym is ∙ f)) v)

loads_none : (V : ℕ → ℕ → Type 0) (s : Step) → s.loaded ≡ None → LoadsOne V s
loads_none V s none k word e f = none_some word (sym none ∙ f)

two_steps : (V : ℕ → ℕ → Type 0) (s u : Step) → LoadsOne V s → LoadsOne V u → LoadsFrom V (s ∷ u ∷ [])
two_steps V s u first second =
    All-cons (LoadsOne V) s (u ∷ []) first (All-cons (LoadsOne V) u [] second (All-nil (LoadsOne V)))

one_step : (V : ℕ → ℕ → Type 0) (s : Step) → LoadsOne V s → LoadsFrom V (s ∷ [])
one_step V s first = All-cons (LoadsOne V) s [] first (All-nil (LoadsOne V))

-- ---- store buffering

module _ (b : Place) where
  abbrev t : Test
  t = sb b

  abbrev pub first : ℕ → List Step
  first l = sw 0 5 x ∷ lw 1 7 y l ∷ []

  abbrev pub second : ℕ → List Step
  second l = sw 0 5 y ∷ lw 1 7 x l ∷ []

  pub first_is : (ss : List Step) → IsTrace t 0 ss → (l : ℕ) × (ss ≡ first l)
  first_is ss run =
      let h = start_with (registers_of t 0) in
      let a = stores_next 2 (code_of t 0) h ss 5 6 (pos 0) refl run in
      let k = after_step h (step_of h (Sw plain 5 6 (pos 0)) None) in
      let c = loads_next 2 (code_of t 0) k a.rest 7 8 (pos 0) refl a.ends in
      let done = at_end 2 (code_of t 0) (after_step k (step_of k (Lw plain 7 8 (pos 0)) (Some c.0))) c.1.rest (lit≤ tt) c.1.ends in
      (c.0, followed a _ (followed c.1 _ done))

  pub second_is : (ss : List Step) → IsTrace t 1 ss → (l : ℕ) × (ss ≡ second l)
  second_is ss run =
      let h = start_with (registers_of t 1) in
      let a = stores_next 2 (code_of t 1) h ss 5 8 (pos 0) refl run in
      let k = after_step h (step_of h (Sw plain 5 8 (pos 0)) None) in
      let c = loads_next 2 (code_of t 1) k a.rest 7 6 (pos 0) refl a.ends in
      let done = at_end 2 (code_of t 1) (after_step k (step_of k (Lw plain 7 6 (pos 0)) (Some c.0))) c.1.rest (lit≤ tt) c.1.ends in
      (c.0, followed a _ (followed c.1 _ done))

  first_run : (l : ℕ) → l < 2 → IsTrace t 0 (first l)
  first_run l low = (
    (
      (refl, refl, ((refl, (0, lit< tt, refl)), refl, refl)),
      ((refl, refl, ((refl, (1, lit< tt, refl)), omega (arith, low), refl)), tt),
    ),
    lit≤ tt,
  )

  second_run : (l : ℕ) → l < 2 → IsTrace t 1 (second l)
  second_run l low = (
    (
      (refl, refl, ((refl, (1, lit< tt, refl)), refl, refl)),
      ((refl, refl, ((refl, (0, lit< tt, refl)), omega (arith, low), refl)), tt),
    ),
    lit≤ tt,
  )

  -- the values are 0 and 1
  stores_one : (s u : Step) (k word : ℕ) → s.stored ≡ Some 1 → u.stored ≡ None → StoresWord (s ∷ u ∷ []) k word → word ≡ 1
  stores_one s u k word one none (inl here) = same_word (sym here.1 ∙ one)
  stores_one s u k word one none (inr (inl there)) = none_some word (sym none ∙ there.1)
  stores_one s u k word one none (inr (inr nothing)) = absurd nothing

  pub stored_one : (hart : ℕ) (ss : List Step) (k word : ℕ) → hart < 2 → IsTrace t hart ss → StoresWord ss k word → word ≡ 1
  stored_one zero ss k word low run stores =
      let is = first_is ss run in
      stores_one (sw 0 5 x) (lw 1 7 y is.0) k word refl refl (subst (λ us. StoresWord us k word) is.1 stores)
  stored_one (suc zero) ss k word low run stores =
      let is = second_is ss run in
      stores_one (sw 0 5 y) (lw 1 7 x is.0) k word refl refl (subst (λ us. StoresWord us k word) is.1 stores)
  stored_one (suc (suc hart)) ss k word low run stores = absurd (omega (arith, low))

  pub value_is : (n k word : ℕ) → IsValueAfter t n k word → (word ≡ 0) ⊎ (word ≡ 1)
  value_is n k word v = elim (first_or_stored t n k word v) [
    | inl at_first ↦ inl (first_word k word at_first)
    | inr stored ↦ inr (stored_one stored.0 stored.1 k word stored.2 stored.3 stored.4)
  ]

  x_0 : IsValue t 0 0
  x_0 = inl (inl refl)

  y_0 : IsValue t 1 0
  y_0 = inl (inl refl)

  abbrev At_first : ℕ → ℕ → Type 0
  At_first = IsValueAfter t 0

  x_1 : IsValue t 0 1
  x_1 =
      inl (inr (
        0,
        first 0,
        lit< tt,
        first_run 0 (lit< tt),
        two_steps At_first (sw 0 5 x) (lw 1 7 y 0) (loads_none At_first (sw 0 5 x) refl) (loads_word At_first (lw 1 7 y 0) 1 0 refl refl refl),
        inl (refl, refl),
      ))

  y_1 : IsValue t 1 1
  y_1 =
      inl (inr (
        1,
        second 0,
        lit< tt,
        second_run 0 (lit< tt),
        two_steps At_first (sw 0 5 y) (lw 1 7 x 0) (loads_none At_first (sw 0 5 y) refl) (loads_word At_first (lw 1 7 x 0) 0 0 refl refl refl),
        inl (refl, refl),
      ))

  -- each run is one of the two
  abbrev Is_run : ℕ → List Step → Type 0
  Is_run hart ss = IsTrace t hart ss × LoadsFrom (IsValue t) ss

  first_loads : (l : ℕ) → l < 2 → IsValue t 1 l → Is_run 0 (first l)
  first_loads l low v = (
    first_run l low,
    two_steps (IsValue t) (sw 0 5 x) (lw 1 7 y l) (loads_none (IsValue t) (sw 0 5 x) refl) (loads_word (IsValue t) (lw 1 7 y l) 1 l refl refl v),
  )

  second_loads : (l : ℕ) → l < 2 → IsValue t 0 l → Is_run 1 (second l)
  second_loads l low v = (
    second_run l low,
    two_steps (IsValue t) (sw 0 5 y) (lw 1 7 x l) (loads_none (IsValue t) (sw 0 5 y) refl) (loads_word (IsValue t) (lw 1 7 x l) 0 l refl refl v),
  )

  -- what is one of two lists is in both
  in_two : (f : ℕ → List Step) (ss : List Step) (l : ℕ) → (l ≡ 0) ⊎ (l ≡ 1) → ss ≡ f l → Contains (f 0 ∷ f 1 ∷ []) ss
  in_two f ss l (inl none) is = (0, lit< tt, sym (is ∙ ap f none))
  in_two f ss l (inr one) is = (1, lit< tt, sym (is ∙ ap f one))

  first_there : (ss : List Step) → Contains (sb_runs 0) ss → Is_run 0 ss
  first_there ss (zero, low, same) = subst (Is_run 0) same (first_loads 0 (lit< tt) y_0)
  first_there ss (suc zero, low, same) = subst (Is_run 0) same (first_loads 1 (lit< tt) y_1)
  first_there ss (suc (suc k), low, same) = absurd (omega (arith, low))

  second_there : (ss : List Step) → Contains (sb_runs 1) ss → Is_run 1 ss
  second_there ss (zero, low, same) = subst (Is_run 1) same (second_loads 0 (lit< tt) x_0)
  second_there ss (suc zero, low, same) = subst (Is_run 1) same (second_loads 1 (lit< tt) x_1)
  second_there ss (suc (suc k), low, same) = absurd (omega (arith, low))

  first_in_list : (ss : List Step) → Is_run 0 ss → Contains (sb_runs 0) ss
  first_in_list ss run =
      let is = first_is ss run.0 in
      let loads = subst (LoadsFrom (IsValue t)) is.1 run.1 in
      in_two first ss is.0 (value_is (rounds t) 1 is.0 (loads 1 (lw 1 7 y is.0) (lit< tt) 1 is.0 refl refl)) is.1

  second_in_list : (ss : List Step) → Is_run 1 ss → Contains (sb_runs 1) ss
  second_in_list ss run =
      let is = second_is ss run.0 in
      let loads = subst (LoadsFrom (IsValue t)) is.1 run.1 in
      in_two second ss is.0 (value_is (rounds t) 0 is.0 (loads 1 (lw 1 7 x is.0) (lit< tt) 0 is.0 refl refl)) is.1

  sb_all : HasAllRuns t sb_runs
  sb_all zero low = record { rising = two_rise Precedes (first 0) (first 1) (inl (lit< tt)); exact = λ ss. (first_there ss, first_in_list ss) }
  sb_all (suc zero) low = record { rising = two_rise Precedes (second 0) (second 1) (inl (lit< tt)); exact = λ ss. (second_there ss, second_in_list ss) }
  sb_all (suc (suc hart)) low = absurd (omega (arith, low))

  sb_others : (hart : ℕ) → length t.codes ≤ hart → sb_runs hart ≡ []
  sb_others zero high = absurd (omega (arith, high))
  sb_others (suc zero) high = absurd (omega (arith, high))
  sb_others (suc (suc hart)) high = refl

  pub sb_refuted : IsRefuted (sb b) (fences WR WR) sb_tree
  sb_refuted = record { runs = sb_runs; all = record { all = sb_all; others = sb_others }; refuted = refl }

-- ---- a pair and a store

module _ (b : Place) where
  abbrev pair : Test
  pair = parted b

  abbrev behind : List Step
  behind = sw 0 10 x ∷ []

  abbrev pub Is_pair : ℕ → List Step → Type 0
  Is_pair l ss = (ss ≡ succeeds l) ⊎ (ss ≡ fails l)

  pub pair_is : (ss : List Step) → IsTrace pair 0 ss → (l : ℕ) × Is_pair l ss
  pair_is ss run =
      let h = start_with (registers_of pair 0) in
      let a = reserves_next 2 (code_of pair 0) h ss plain 7 6 refl run in
      let k = after_step h (step_of h (Lr plain 7 6) (Some a.0)) in
      elim (succeeds_or_fails 2 (code_of pair 0) k a.1.rest plain 9 5 6 refl a.1.ends) [
        | inl done ↦ (
            let end = at_end 2 (code_of pair 0) (after_step k (step_of k (Sc plain 9 5 6) None)) done.rest (lit≤ tt) done.ends in
            (a.0, inl (followed a.1 _ (followed done _ end))))
        | inr failed ↦ (
            let end = at_end 2 (code_of pair 0) (after_step k (idle_step k (Sc plain 9 5 6))) failed.rest (lit≤ tt) failed.ends in
            (a.0, inr (followed a.1 _ (followed failed _ end))))
      ]

  pub behind_is : (ss : List Step) → IsTrace pair 1 ss → ss ≡ behind
  behind_is ss run =
      let h = start_with (registers_of pair 1) in
      let a = stores_next 2 (code_of pair 1) h ss 10 6 (pos 0) refl run in
      let done = at_end 2 (code_of pair 1) (after_step h (step_of h (Sw plain 10 6 (pos 0)) None)) a.rest (lit≤ tt) a.ends in
      followed a _ done

  succeeds_run : (l : ℕ) → l < 3 → IsTrace pair 0 (succeeds l)
  succeeds_run l low = (
    ((refl, refl, ((refl, (0, lit< tt, refl)), omega (arith, low), refl)), ((refl, refl, inl (refl, refl, refl, refl)), tt)),
    lit≤ tt,
  )

  fails_run : (l : ℕ) → l < 3 → IsTrace pair 0 (fails l)
  fails_run l low = (
    ((refl, refl, ((refl, (0, lit< tt, refl)), omega (arith, low), refl)), ((refl, refl, inr (refl, refl, refl)), tt)),
    lit≤ tt,
  )

  behind_run : IsTrace pair 1 behind
  behind_run = (((refl, refl, ((refl, (0, lit< tt, refl)), refl, refl)), tt), lit≤ tt)

  -- the values are 0, 1 and 2
  abbrev pub Is_small : ℕ → Type 0
  Is_small word = (word ≡ 0) ⊎ (word ≡ 1) ⊎ (word ≡ 2)

  pair_stores : (l k word : ℕ) → StoresWord (succeeds l) k word → word ≡ 1
  pair_stores l k word (inl here) = none_some word here.1
  pair_stores l k word (inr (inl there)) = sym (same_word there.1)
  pair_stores l k word (inr (inr nothing)) = absurd nothing

  failed_stores : (l k word : ℕ) → StoresWord (fails l) k word → ⊥
  failed_stores l k word (inl here) = none_some word here.1
  failed_stores l k word (inr (inl there)) = none_some word there.1
  failed_stores l k word (inr (inr nothing)) = nothing

  behind_stores : (k word : ℕ) → StoresWord behind k word → word ≡ 2
  behind_stores k word (inl here) = sym (same_word here.1)
  behind_stores k word (inr nothing) = absurd nothing

  pub stored_small : (hart : ℕ) (ss : List Step) (k word : ℕ) → hart < 2 → IsTrace pair hart ss → StoresWord ss k word → Is_small word
  stored_small zero ss k word low run stores =
      let is = pair_is ss run in
      elim is.1 [
        | inl done ↦ inr (inl (pair_stores is.0 k word (subst (λ us. StoresWord us k word) done stores)))
        | inr failed ↦ absurd (failed_stores is.0 k word (subst (λ us. StoresWord us k word) failed stores))
      ]
  stored_small (suc zero) ss k word low run stores =
      inr (inr (behind_stores k word (subst (λ us. StoresWord us k word) (behind_is ss run) stores)))
  stored_small (suc (suc hart)) ss k word low run stores = absurd (omega (arith, low))

  pub small_is : (n k word : ℕ) → IsValueAfter pair n k word → Is_small word
  small_is n k word v = elim (first_or_stored pair n k word v) [
    | inl at_first ↦ inl (first_word k word at_first)
    | inr stored ↦ stored_small stored.0 stored.1 k word stored.2 stored.3 stored.4
  ]

  abbrev Begins_so : ℕ → ℕ → Type 0
  Begins_so = IsValueAfter pair 0

  pair_0 : IsValue pair 0 0
  pair_0 = inl (inl refl)

  pair_1 : IsValue pair 0 1
  pair_1 =
      inl (inr (
        0,
        succeeds 0,
        lit< tt,
        succeeds_run 0 (lit< tt),
        two_steps Begins_so (reserve 0) success (loads_word Begins_so (reserve 0) 0 0 refl refl refl) (loads_none Begins_so success refl),
        inr (inl (refl, refl)),
      ))

  pair_2 : IsValue pair 0 2
  pair_2 = inl (inr (1, behind, lit< tt, behind_run, one_step Begins_so (sw 0 10 x) (loads_none Begins_so (sw 0 10 x) refl), inl (refl, refl)))

  -- each run of the pair is one of the six
  abbrev Runs_so : ℕ → List Step → Type 0
  Runs_so hart ss = IsTrace pair hart ss × LoadsFrom (IsValue pair) ss

  succeeds_loads : (l : ℕ) → l < 3 → IsValue pair 0 l → Runs_so 0 (succeeds l)
  succeeds_loads l low v = (
    succeeds_run l low,
    two_steps (IsValue pair) (reserve l) success (loads_word (IsValue pair) (reserve l) 0 l refl refl v) (loads_none (IsValue pair) success refl),
  )

  fails_loads : (l : ℕ) → l < 3 → IsValue pair 0 l → Runs_so 0 (fails l)
  fails_loads l low v = (
    fails_run l low,
    two_steps (IsValue pair) (reserve l) failure (loads_word (IsValue pair) (reserve l) 0 l refl refl v) (loads_none (IsValue pair) failure refl),
  )

  pair_there : (ss : List Step) → Contains (pair_runs 0) ss → Runs_so 0 ss
  pair_there ss (zero, low, same) = subst (Runs_so 0) same (succeeds_loads 0 (lit< tt) pair_0)
  pair_there ss (suc zero, low, same) = subst (Runs_so 0) same (fails_loads 0 (lit< tt) pair_0)
  pair_there ss (suc (suc zero), low, same) = subst (Runs_so 0) same (succeeds_loads 1 (lit< tt) pair_1)
  pair_there ss (suc (suc (suc zero)), low, same) = subst (Runs_so 0) same (fails_loads 1 (lit< tt) pair_1)
  pair_there ss (suc (suc (suc (suc zero))), low, same) = subst (Runs_so 0) same (succeeds_loads 2 (lit< tt) pair_2)
  pair_there ss (suc (suc (suc (suc (suc zero)))), low, same) = subst (Runs_so 0) same (fails_loads 2 (lit< tt) pair_2)
  pair_there ss (suc (suc (suc (suc (suc (suc k))))), low, same) = absurd (omega (arith, low))

  in_six : (ss : List Step) (l : ℕ) → Is_small l → Is_pair l ss → Contains (pair_runs 0) ss
  in_six ss l (inl e) (inl is) = (0, lit< tt, sym (is ∙ ap succeeds e))
  in_six ss l (inl e) (inr is) = (1, lit< tt, sym (is ∙ ap fails e))
  in_six ss l (inr (inl e)) (inl is) = (2, lit< tt, sym (is ∙ ap succeeds e))
  in_six ss l (inr (inl e)) (inr is) = (3, lit< tt, sym (is ∙ ap fails e))
  in_six ss l (inr (inr e)) (inl is) = (4, lit< tt, sym (is ∙ ap succeeds e))
  in_six ss l (inr (inr e)) (inr is) = (5, lit< tt, sym (is ∙ ap fails e))

  -- what the pair loads, whether it succeeds or fails
  pub loaded_small : (n : ℕ) (ss : List Step) (l : ℕ) → Is_pair l ss → LoadsFrom (IsValueAfter pair n) ss → Is_small l
  loaded_small n ss l (inl is) loads =
      small_is n 0 l (subst (LoadsFrom (IsValueAfter pair n)) is loads 0 (sw 0 10 x) (lit< tt) 0 l refl refl)
  loaded_small n ss l (inr is) loads =
      small_is n 0 l (subst (LoadsFrom (IsValueAfter pair n)) is loads 0 (sw 0 10 x) (lit< tt) 0 l refl refl)

  pair_in_list : (ss : List Step) → Runs_so 0 ss → Contains (pair_runs 0) ss
  pair_in_list ss run = let is = pair_is ss run.0 in in_six ss is.0 (loaded_small (rounds pair) ss is.0 is.1 run.1) is.1

  behind_there : (ss : List Step) → Contains (pair_runs 1) ss → Runs_so 1 ss
  behind_there ss (zero, low, same) =
      subst (Runs_so 1) same (behind_run, one_step (IsValue pair) (sw 0 10 x) (loads_none (IsValue pair) (sw 0 10 x) refl))
  behind_there ss (suc k, low, same) = absurd (omega (arith, low))

  behind_in_list : (ss : List Step) → Runs_so 1 ss → Contains (pair_runs 1) ss
  behind_in_list ss run = (0, lit< tt, sym (behind_is ss run.0))

  -- one run is before others
  abbrev IsFirst : List Step → List (List Step) → Type 0
  IsFirst run = All (Precedes run)

  before : (run other : List Step) (others : List (List Step)) → Precedes run other → IsFirst run others → IsFirst run (other ∷ others)
  before run other others = All-cons (Precedes run) other others

  -- the runs from the second, third, fourth and fifth one on
  abbrev seconds : List (List Step)
  seconds = fails 0 ∷ succeeds 1 ∷ fails 1 ∷ succeeds 2 ∷ fails 2 ∷ []

  abbrev thirds : List (List Step)
  thirds = succeeds 1 ∷ fails 1 ∷ succeeds 2 ∷ fails 2 ∷ []

  abbrev fourths : List (List Step)
  fourths = fails 1 ∷ succeeds 2 ∷ fails 2 ∷ []

  abbrev fifths : List (List Step)
  fifths = succeeds 2 ∷ fails 2 ∷ []

  -- a run that loads less is before the last two
  before_last : (run : List Step) → Precedes run (succeeds 2) → Precedes run (fails 2) → IsFirst run fifths
  before_last run one two = before run (succeeds 2) (fails 2 ∷ []) one (before run (fails 2) [] two (All-nil (Precedes run)))

  pair_rises : AllPairs Precedes (pair_runs 0)
  pair_rises =
      AllPairs-cons Precedes (succeeds 0) seconds
      (before (succeeds 0) (fails 0) thirds (inr (refl, inl tt))
      (before (succeeds 0) (succeeds 1) fourths (inl (lit< tt))
      (before (succeeds 0) (fails 1) fifths (inl (lit< tt)) (before_last (succeeds 0) (inl (lit< tt)) (inl (lit< tt))))))
      (AllPairs-cons Precedes (fails 0) thirds
      (before (fails 0) (succeeds 1) fourths (inl (lit< tt))
      (before (fails 0) (fails 1) fifths (inl (lit< tt)) (before_last (fails 0) (inl (lit< tt)) (inl (lit< tt)))))
      (AllPairs-cons Precedes (succeeds 1) fourths
      (before (succeeds 1) (fails 1) fifths (inr (refl, inl tt)) (before_last (succeeds 1) (inl (lit< tt)) (inl (lit< tt))))
      (AllPairs-cons Precedes (fails 1) fifths
      (before_last (fails 1) (inl (lit< tt)) (inl (lit< tt)))
      (two_rise Precedes (succeeds 2) (fails 2) (inr (refl, inl tt))))))

  pair_all : HasAllRuns pair pair_runs
  pair_all zero low = record { rising = pair_rises; exact = λ ss. (pair_there ss, pair_in_list ss) }
  pair_all (suc zero) low =
      record { rising = one_rises Precedes behind; exact = λ ss. (behind_there ss, behind_in_list ss) }
  pair_all (suc (suc hart)) low = absurd (omega (arith, low))

  pair_others : (hart : ℕ) → length pair.codes ≤ hart → pair_runs hart ≡ []
  pair_others zero high = absurd (omega (arith, high))
  pair_others (suc zero) high = absurd (omega (arith, high))
  pair_others (suc (suc hart)) high = refl

  pub parted_refuted : IsRefuted (parted b) [] parted_tree
  parted_refuted = record { runs = pair_runs; all = record { all = pair_all; others = pair_others }; refuted = refl }
