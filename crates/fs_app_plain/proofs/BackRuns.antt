-- Where each step over a set of words is exact, a run of 64 bits whose loads take extended words of the set is a run of
-- 32 bits over the set, extended.
use Rattle.std.proofs.Common.{◌≡◌, ℕ, zero, suc, ◌<◌, ◌≤◌, ◌^◌, List, [], ◌∷◌, ◌++◌, length, map, All, Some, None, refl, sym, ap, subst, ◌∙◌, inl, inr, arith}
use Rattle.std.specs.Prelude.{slice_get, unwrap_or}
use Rattle.std.proofs.lemmas.List.{append-nil}
use Rattle.std.proofs.lemmas.List.Elements.{All-nil, All-cons, All-head, All-tail, All-append, All-get_or, All-weaker}
use Rattle.fs_kinds.specs.Limits.{most_locations}
use Rattle.fs_instr.specs.OfTable.{IsOfTable}
use Rattle.fs_instr.specs.declared.instr.Instr.{Instr}
use Rattle.fs_instr.specs.declared.instr.Instr.TheVariants.{Sw, Sc, Amo}
use Rattle.fs_model.specs.Test.{IsTest, IsBounded, IsStart}
use Rattle.fs_model.specs.declared.test.Test.{Test}
use Rattle.fs_model.specs.declared.test.Location.{Location}
use Rattle.fs_model.specs.declared.hart.Hart.{Hart}
use Rattle.fs_model.specs.declared.step.Step.{Step}
use Rattle.fs_model.specs.declared.step.Stop.TheVariants.{Astray}
use Rattle.fs_model.specs.Choices.{StopsIn, choices_of}
use Rattle.fs_model.specs.Trace.{StoresItsWord, Accesses, IsStep, AreSteps, after_step, hart_after, start_with}
use Rattle.fs_model.specs.Execution.{IsTrace, code_of, registers_of, initial_words}
use Rattle.fs_model.specs.Values.{LoadsOne, LoadsFrom, StoresWord, IsValueAfter, IsValue}
use Rattle.fs_model.proofs.RunLocations.{HasDeclaredPair}
use Rattle.fs_hart.proofs.Along.{code_forward}
use Rattle.fs_values.specs.ThinAir.{BeginsWithWords, NoneAstray}
use Rattle.fs_values.proofs.Finish.{AreInitial, finish}
use Rattle.fs_app_plain.specs.Wide as wide
use Rattle.fs_app_plain.specs.Wide.{extended_step, AreExact, IsExactTest}
use Rattle.fs_app_plain.proofs.Given.{AreWords, FitsIfThere, WordLaws}
use Rattle.fs_app_plain.proofs.BackKept.{ExtendedFrom, loads_declared}
use Rattle.fs_app_plain.proofs.BackNarrow.{load_fits, of_table_at, words_after, pair_after, wide_hart, narrowed, accesses, same_step, same_after, load}

-- each step that a hart may make over V, from this state on, is exact
abbrev pub EachExact : ℕ → List Instr → (ℕ → ℕ → Type 0) → Hart → Type 0
EachExact n code V g = (us : List Step) → AreSteps n code g us → LoadsFrom V us → AreExact g us

module _ (laws : WordLaws) (n : ℕ) (few : n ≤ most_locations) (code : List Instr) (of_table : All IsOfTable code)
    (V : ℕ → ℕ → Type 0) (small : (k w : ℕ) → V k w → w < 2 ^ 32) where
  -- the step of 32 bits that this one of 64 is, in this state
  record One (g : Hart) (s : Step) : Type 0 where
    step : Step
    made : IsStep n code g step
    takes : LoadsOne V step
    same : extended_step step ≡ s
    after : wide.after_step (wide_hart g) s ≡ wide_hart (after_step g step)
    words : AreWords (after_step g step).registers
    pair : HasDeclaredPair n (after_step g step)
    exact : EachExact n code V (after_step g step)

  one_step : (g : Hart) (s : Step) → AreWords g.registers → HasDeclaredPair n g → EachExact n code V g
      → wide.IsStep n code (wide_hart g) s
      → LoadsOne (ExtendedFrom V) s → One g s
  one_step g s words pair exact r loads =
      let row = of_table_at code of_table g.at s.instr r.1 in
      let l = load V small n s (λ w q. loads_declared n (wide_hart g) s w s.instr q r.2) loads in
      let u = narrowed laws n few g s l.word words pair row l.fits l.extends in
      let access = accesses laws n few g s l.word words pair row l.fits l.extends s.instr refl r.2 in
      let step : IsStep n code g u = (r.0, r.1, access) in
      let here = (exact (u ∷ []) (step, tt) (All-cons (LoadsOne V) u [] l.value (All-nil (LoadsOne V)))).0 in
      record {
        step = u;
        made = step;
        takes = l.value;
        same = same_step laws n few g s l.word words pair row l.fits l.extends r.2 here;
        after = same_after laws n few g s l.word words pair row l.fits l.extends r.2 here;
        words = words_after laws n g u row access words;
        pair = pair_after n g u u.instr access pair;
        exact = λ us made takes. (exact (u ∷ us) (step, made) (All-cons (LoadsOne V) u us l.value takes)).1;
      }

  -- the steps of 32 bits that these of 64 are, from this state on
  pub record Narrow (g : Hart) (ss : List Step) : Type 0 where
    pub run : List Step
    pub made : AreSteps n code g run
    pub takes : LoadsFrom V run
    pub same : map extended_step run ≡ ss
    pub ends : wide.hart_after (wide_hart g) ss ≡ wide_hart (hart_after g run)

  one_more : (g : Hart) (s : Step) (ss : List Step) (one : One g s) → Narrow (after_step g one.step) ss
      → Narrow g (s ∷ ss)
  one_more g s ss one rest = record {
    run = one.step ∷ rest.run;
    made = (one.made, rest.made);
    takes = All-cons (LoadsOne V) one.step rest.run one.takes rest.takes;
    same = ap (λ x. x ∷ map extended_step rest.run) one.same ∙ ap (λ xs. s ∷ xs) rest.same;
    ends = ap (λ h. wide.hart_after h ss) one.after ∙ rest.ends;
  }

  pub narrow_from : (g : Hart) (ss : List Step) → AreWords g.registers → HasDeclaredPair n g → EachExact n code V g
      → wide.AreSteps n code (wide_hart g) ss → LoadsFrom (ExtendedFrom V) ss → Narrow g ss
  narrow_from g [] words pair exact r loads =
      record { run = []; made = tt; takes = All-nil (LoadsOne V); same = refl; ends = refl }
  narrow_from g (s ∷ ss) words pair exact r loads =
      let one = one_step g s words pair exact r.0 (All-head (LoadsOne (ExtendedFrom V)) s ss loads) in
      one_more g s ss one (narrow_from (after_step g one.step) ss one.words one.pair one.exact
      (subst (λ h. wide.AreSteps n code h ss) one.after r.1) (All-tail (LoadsOne (ExtendedFrom V)) s ss loads))

-- ---- a beginning of a run, completed

steps_joined : (n : ℕ) (code : List Instr) (h : Hart) (xs ys : List Step) → AreSteps n code h xs
    → AreSteps n code (hart_after h xs) ys
    → AreSteps n code h (xs ++ ys)
steps_joined n code h [] ys r q = q
steps_joined n code h (x ∷ xs) ys r q = (r.0, steps_joined n code (after_step h x) xs ys r.1 q)

after_joined : (h : Hart) (xs ys : List Step) → hart_after h (xs ++ ys) ≡ hart_after (hart_after h xs) ys
after_joined h [] ys = refl
after_joined h (x ∷ xs) ys = after_joined (after_step h x) xs ys

exact_first : (h : Hart) (xs ys : List Step) → AreExact h (xs ++ ys) → AreExact h xs
exact_first h [] ys e = tt
exact_first h (x ∷ xs) ys e = (e.0, exact_first (after_step h x) xs ys e.1)

pub stores_first : (xs ys : List Step) (k w : ℕ) → StoresWord xs k w → StoresWord (xs ++ ys) k w
stores_first [] ys k w s = absurd s
stores_first (x ∷ xs) ys k w (inl here) = inl here
stores_first (x ∷ xs) ys k w (inr later) = inr (stores_first xs ys k w later)

module _ (t : Test) (bounded : IsBounded t) (V : ℕ → ℕ → Type 0) (initial : AreInitial (length t.locations) (initial_words t) V)
    (hart : ℕ) (of_test : hart < length t.codes) (never : NoneAstray t V hart) where
  abbrev start : Hart
  start = start_with (registers_of t hart)

  -- a run over V that begins with these steps
  pub record Completed (first : List Step) : Type 0 where
    pub more : List Step
    pub whole : IsTrace t hart (first ++ more)
    pub takes : LoadsFrom V (first ++ more)

  pub completed : (first : List Step) → AreSteps (length t.locations) (code_of t hart) start first → LoadsFrom V first
      → Completed first
  completed first made takes =
      let forward = code_forward t hart bounded.forward of_test in
      let more = finish (length t.locations) (code_of t hart) (initial_words t) V forward initial
      (hart_after start first) in
      let steps = steps_joined (length t.locations) (code_of t hart) start first more.0 made more.1.runs in
      let all = All-append (LoadsOne V) first more.0 takes more.1.loads in
      let after = after_joined start first more.0 in
      elim more.1.ends [
        | inl past ↦ record {
          more = more.0;
          whole = (steps, subst (λ (h : Hart). length (code_of t hart) ≤ h.at) (sym after) past);
          takes = all;
        }
        | inr astray ↦ absurd (never (choices_of (first ++ more.0)) astray.0 (record {
          steps = first ++ more.0;
          astray = (
            steps,
            (
              [],
              sym (append-nil (choices_of (first ++ more.0))),
              subst (λ h. StopsIn (length t.locations) (code_of t hart) h [] (Astray astray.0)) (sym after) astray.1,
            ),
          );
          all_taken = refl;
          loads = all;
        }))
      ]

  -- of an exact test each step of such a beginning is exact
  pub each_exact : IsExactTest t → ((k w : ℕ) → V k w → IsValue t k w)
      → EachExact (length t.locations) (code_of t hart) V start
  each_exact exact values us made takes =
      let all = completed us made takes in
      exact_first start us all.more (exact hart (us ++ all.more) of_test all.whole
      (All-weaker (LoadsOne V) (LoadsOne (IsValue t)) (λ s f k w a l. values k w (f k w a l)) (us ++ all.more) all.takes))

-- ---- words of a test

first_words : (ls : List Location) → All (λ (l : Location). l.word < 2 ^ 32) ls → (k : ℕ)
    → unwrap_or (slice_get (map (λ (l : Location). l.word) ls) k) 0 < 2 ^ 32
first_words [] all k = omega arith
first_words (l ∷ ls) all zero = All-head (λ (l : Location). l.word < 2 ^ 32) l ls all
first_words (l ∷ ls) all (suc k) = first_words ls (All-tail (λ (l : Location). l.word < 2 ^ 32) l ls all) k

first_there : (ls : List Location) (k : ℕ) → k < length ls
    → slice_get (map (λ (l : Location). l.word) ls) k ≡ Some (unwrap_or (slice_get (map (λ (l : Location). l.word) ls) k) 0)
first_there [] k low = absurd (omega (arith, low))
first_there (l ∷ ls) zero low = refl
first_there (l ∷ ls) (suc k) low = first_there ls k (omega (arith, low))

pub initial_of : (t : Test) → BeginsWithWords t → (V : ℕ → ℕ → Type 0) → ((k w : ℕ) → IsValueAfter t 0 k w → V k w)
    → AreInitial (length t.locations) (initial_words t) V
initial_of t words V has = record {
  small = first_words t.locations words;
  values = λ k low. has k _ (first_there t.locations k low);
}

pub first_small : (t : Test) → BeginsWithWords t → (k w : ℕ) → IsValueAfter t 0 k w → w < 2 ^ 32
first_small t words k w e = subst (λ o. unwrap_or o 0 < 2 ^ 32) e (first_words t.locations words k)

pub start_words : (t : Test) → IsTest t → (hart : ℕ) → hart < length t.codes → AreWords (registers_of t hart)
start_words t is_test hart of_test =
    let same = is_test.bounded.starts in
    (All-get_or IsStart t.starts hart [] (omega (arith, of_test, same)) is_test.registers).fit

pub code_of_table : (t : Test) → IsTest t → (hart : ℕ) → hart < length t.codes → All IsOfTable (code_of t hart)
code_of_table t is_test hart of_test = All-get_or (All IsOfTable) t.codes hart [] of_test is_test.instructions

-- values are words
module _ (laws : WordLaws) (n : ℕ) (code : List Instr) (of_table : All IsOfTable code) where
  stored_small : (h : Hart) (s : Step) (i : Instr) → AreWords h.registers → Accesses n h s i → s.instr ≡ i
      → FitsIfThere s.stored
  stored_small h s i words access e = by_form i access
    where
      fits : StoresItsWord h s → FitsIfThere s.stored
      fits q = subst FitsIfThere (sym q) (laws.stored h.registers s.loaded s.instr words (load_fits n h s i access))

      gone : s.stored ≡ None → FitsIfThere s.stored
      gone q = subst FitsIfThere (sym q) tt

      by_form : (i : Instr) → Accesses n h s i → FitsIfThere s.stored
      by_form (Sw ann value base offset) a = fits a.2
      by_form (Sc ann rd value base) a = elim a [ inl b ↦ fits b.3 | inr b ↦ gone b.2 ]
      by_form (Amo op ann rd value base) a = fits a.2
      by_form _ a = gone a.2

  pub steps_small : (h : Hart) (ss : List Step) (k w : ℕ) → AreWords h.registers → AreSteps n code h ss
      → StoresWord ss k w → w < 2 ^ 32
  steps_small h [] k w words r none = absurd none
  steps_small h (s ∷ ss) k w words r (inl here) = subst FitsIfThere here.1 (stored_small h s s.instr words r.0.2 refl)
  steps_small h (s ∷ ss) k w words r (inr later) =
      steps_small (after_step h s) ss k w (words_after laws n h s (of_table_at code of_table h.at s.instr r.0.1) r.0.2 words) r.1 later

pub value_small : WordLaws → (t : Test) → IsTest t → (m k w : ℕ) → IsValueAfter t m k w → w < 2 ^ 32
value_small laws t is_test zero k w v = first_small t is_test.words k w v
value_small laws t is_test (suc m) k w (inl v) = value_small laws t is_test m k w v
value_small laws t is_test (suc m) k w (inr (hart, steps, of_test, run, takes, stores)) =
    steps_small laws (length t.locations) (code_of t hart) (code_of_table t is_test hart of_test) (start_with (registers_of t hart)) steps k w
    (start_words t is_test hart of_test) run.0 stores
