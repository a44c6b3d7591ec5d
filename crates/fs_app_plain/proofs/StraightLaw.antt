-- What `--unroll 1` makes of a test means its executions in which no step goes back.
use Rattle.std.proofs.Common.{◌≡◌, ℕ, zero, suc, ◌<◌, ◌≤◌, List, [], ◌∷◌, map, length, refl, ap, sym, subst, ◌∙◌, inl, inr, arith}
use Rattle.std.specs.List.{slice_index_or}
use Rattle.std.proofs.Math.ListN.{get_or-map}
use Rattle.std.proofs.lemmas.Bool.{cases_lt}
use Rattle.std.proofs.lemmas.List.{length-map}
use Rattle.fs_instr.specs.declared.instr.Instr.{Instr}
use Rattle.fs_kinds.specs.declared.placement.Entry.{Entry}
use Rattle.fs_model.specs.declared.step.Step.{Step}
use Rattle.fs_model.specs.declared.test.Test.{Test}
use Rattle.fs_model.specs.declared.test.Location.{Location}
use Rattle.fs_model.specs.Instructions.{read}
use Rattle.fs_model.specs.Runs as runs
use Rattle.fs_model.specs.Runs.{Program, Runs, start_with, hart_after}
use Rattle.fs_model.specs.Operations.{PreExecution, steps_of}
use Rattle.fs_model.specs.OfTests.{program_of}
use Rattle.fs_model.specs.Execution.{Execution, IsExecution, IsTrace, ObeysAxioms, code_of, registers_of, pre_execution}
use Rattle.fs_app_plain.specs.Turns.{IsInOneTurn}
use Rattle.fs_app_plain.specs.OneTurn.{straight, IsMark, IsStraightened, ReachesMarks, EndsAsIn}
use Rattle.fs_model_laws.proofs.FencedAlike.{Alike, alike_back, axioms_there, final_word_same}
use Rattle.fs_app_plain.proofs.StraightCarried.{alike}
use Rattle.fs_app_plain.proofs.StraightRuns.{Tails, AreRuns, run_forth, run_back}

-- ---- a run of each hart

at_each : (m : ℕ) (P : ℕ → List Step → Type 0) (ss : List Step) (ts : List (List Step)) → P 0 ss
    → ((k : ℕ) → k < m → P (suc k) (slice_index_or ts k [])) → (k : ℕ) → k < suc m → P k (slice_index_or (ss ∷ ts) k [])
at_each m P ss ts first rest zero low = first
at_each m P ss ts first rest (suc k) low = rest k (omega (arith, low))

abbrev AreMade : (m : ℕ) → (ℕ → List Step → Type 0) → List (List Step) → Type 0
AreMade m P ts = (length ts ≡ m) × ((k : ℕ) → k < m → P k (slice_index_or ts k []))

made : (m : ℕ) (P : ℕ → List Step → Type 0) → ((k : ℕ) → k < m → (ss : List Step) × P k ss)
    → (ts : List (List Step)) × AreMade m P ts
made zero P h = ([], (refl, λ k low. absurd (omega (arith, low))))
made (suc m) P h =
    let first = h 0 (omega arith) in
    let rest = made m (λ k. P (suc k)) (λ k low. h (suc k) (omega (arith, low))) in
    (first.0 ∷ rest.0, (ap suc rest.1.0, at_each m P first.0 rest.0 first.1 rest.1.1))

no_run : (ts : List (List Step)) (k : ℕ) → length ts ≤ k → slice_index_or ts k [] ≡ []
no_run [] k high = refl
no_run (t ∷ ts) zero high = absurd (omega (arith, high))
no_run (t ∷ ts) (suc k) high = no_run ts k (omega (arith, high))

-- ---- the straightened test

abbrev program : List (List Instr) → List (List ℕ) → List Location → Program
program codes starts locations = record { codes = codes; starts = starts; locations = locations }

module _ (mark : ℕ) (t u : Test) (s : IsStraightened mark t u) where
  abbrev straightened : Program
  straightened = program (map (straight mark) t.codes) t.starts t.locations

  program_is : program_of u ≡ straightened
  program_is =
      ap (λ codes. program codes u.starts u.locations) s.codes
      ∙ ap (λ starts. program (map (straight mark) t.codes) starts u.locations) s.starts
      ∙ ap (program (map (straight mark) t.codes) t.starts) s.locations

  registers_are : (hart : ℕ) → registers_of u hart ≡ registers_of t hart
  registers_are hart = ap (λ starts. slice_index_or starts hart []) s.starts

  code_is : (hart : ℕ) → runs.code_of straightened hart ≡ straight mark (code_of t hart)
  code_is hart = get_or-map (straight mark) t.codes hart []

  abbrev IsStraightRun : ℕ → List Step → Type 0
  IsStraightRun hart us = Runs (length t.locations) (straight mark (code_of t hart)) (registers_of t hart) us

  trace_there : (hart : ℕ) (us : List Step) → IsStraightRun hart us → IsTrace u hart us
  trace_there hart us run =
      let own : runs.IsTrace straightened hart us =
      subst (λ code. Runs (length t.locations) code (registers_of t hart) us) (sym (code_is hart)) run in
      subst (λ q. runs.IsTrace q hart us) (sym program_is) own

  trace_back : (hart : ℕ) (us : List Step) → IsTrace u hart us → IsStraightRun hart us
  trace_back hart us run =
      let own : runs.IsTrace straightened hart us = subst (λ q. runs.IsTrace q hart us) program_is run in
      subst (λ code. Runs (length t.locations) code (registers_of t hart) us) (code_is hart) own

  abbrev AreBoth : ℕ → List Step → List Step → Type 0
  AreBoth hart ss us = AreRuns (length t.locations) mark (code_of t hart) (registers_of t hart) ss us

  -- ---- runs of both

  module _ (p : List Entry) (xs ys : List (List Step)) (order : List ℕ) (first : length xs ≡ length t.codes)
      (second : length ys ≡ length t.codes)
      (both : (hart : ℕ) → hart < length t.codes → AreBoth hart (steps_of xs hart) (steps_of ys hart)) where
    abbrev x : PreExecution
    x = pre_execution t xs

    abbrev y : PreExecution
    y = pre_execution u ys

    abbrev here : Execution
    here = record { traces = xs; order = order }

    abbrev there : Execution
    there = record { traces = ys; order = order }

    none_there : (ss us : List Step) → ss ≡ [] → us ≡ [] → Tails ss us
    none_there ss us e g = subst (λ vs. Tails vs us) (sym e) (subst (Tails []) (sym g) tt)

    tails : (k : ℕ) → Tails (steps_of xs k) (steps_of ys k)
    tails k = elim (cases_lt k (length t.codes)) [
      | inl low ↦ (both k low).tails
      | inr high ↦ none_there (steps_of xs k) (steps_of ys k) (no_run xs k (omega (arith, high, first)))
          (no_run ys k (omega (arith, high, second)))
    ]

    same : Alike x p y p
    same = alike p x y (ap (map (λ location. location.word)) s.locations) (first ∙ sym second) tails

    is_there : ObeysAxioms x p order → IsExecution u p there
    is_there obeys =
        let codes = ap length s.codes ∙ length-map t.codes (straight mark) in
        record {
          harts = second ∙ sym codes;
          runs = λ hart low. trace_there hart (steps_of ys hart) (both hart (omega (arith, low, codes))).there;
          axioms = axioms_there x p y p same order obeys;
        }

    is_here : ObeysAxioms y p order → IsExecution t p here
    is_here obeys =
        record {
          harts = first;
          runs = λ hart low. (both hart low).here;
          axioms = axioms_there y p x p (alike_back x p y p same) order obeys;
        }

    one_turn : IsInOneTurn t here
    one_turn hart low = (both hart low).forward

    registers_end : (hart r : ℕ) → read (hart_after (start_with (registers_of u hart)) (steps_of ys hart)).registers r
        ≡ read (hart_after (start_with (registers_of t hart)) (steps_of ys hart)).registers r
    registers_end hart r =
        ap (λ words. read (hart_after (start_with words) (steps_of ys hart)).registers r) (registers_are hart)

    reaches : ReachesMarks mark t u there
    reaches hart low some = registers_end hart mark ∙ (both hart low).marked some

    ends : EndsAsIn mark t u here there
    ends = record {
      words = final_word_same x p y p same order;
      registers = λ hart r low ne. registers_end hart r ∙ (both hart low).others r ne;
    }

  -- ---- the law

  module _ (is_mark : IsMark mark t) (p : List Entry) where
    pub forth : (f : Execution) → IsExecution t p f → IsInOneTurn t f
        → (e : Execution) × IsExecution u p e × ReachesMarks mark t u e × EndsAsIn mark t u f e
    forth f is once =
        let found = made (length t.codes) (λ hart us. AreBoth hart (steps_of f.traces hart) us)
        (λ hart low. run_forth (length t.locations) mark (code_of t hart) (registers_of t hart) is_mark.not_x0 is_mark.register
        (is_mark.unnamed hart low) (is_mark.inside hart low) (is_mark.sizes hart low) (is_mark.begins hart low)
        (steps_of f.traces hart) (is.runs hart low) (once hart low)) in
        let ys = found.0 in
        let second = found.1.0 in
        let both = found.1.1 in (
          record { traces = ys; order = f.order },
          is_there p f.traces ys f.order is.harts second both is.axioms,
          reaches p f.traces ys f.order is.harts second both,
          ends p f.traces ys f.order is.harts second both,
        )

    pub back : (e : Execution) → IsExecution u p e → ReachesMarks mark t u e
        → (f : Execution) × IsExecution t p f × IsInOneTurn t f × EndsAsIn mark t u f e
    back e is marks =
        let codes = ap length s.codes ∙ length-map t.codes (straight mark) in
        let found = made (length t.codes) (λ hart ss. AreBoth hart ss (steps_of e.traces hart))
        (λ hart low. run_back (length t.locations) mark (code_of t hart) (registers_of t hart) is_mark.not_x0 is_mark.register
        (is_mark.unnamed hart low) (is_mark.inside hart low) (is_mark.sizes hart low) (is_mark.begins hart low)
        (steps_of e.traces hart) (trace_back hart (steps_of e.traces hart) (is.runs hart (omega (arith, low, codes))))
        (λ some. ap (λ words. read (hart_after (start_with words) (steps_of e.traces hart)).registers mark) (sym (registers_are hart))
        ∙ marks hart low some)) in
        let xs = found.0 in
        let first = found.1.0 in
        let both = found.1.1 in
        let second = is.harts ∙ codes in (
          record { traces = xs; order = e.order },
          is_here p xs e.traces e.order first second both is.axioms,
          one_turn p xs e.traces e.order first second both,
          ends p xs e.traces e.order first second both,
        )
