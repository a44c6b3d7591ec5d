-- The way through a run, step by step.
use Rattle.std.proofs.Common.{◌≡◌, ◌≢◌, ℕ, zero, suc, ◌+◌, ◌<◌, ◌≤◌, Bool, true, false, if◌then◌else◌, Option, None, Some, is_some, List, [], ◌∷◌, ◌++◌, length, drop, refl, ap, subst, sym, ◌∙◌, arith, All, append_assoc, option_map, add-one, drop-cons, length-drop}
use Rattle.std.specs.Prelude.{slice_get}
use Rattle.std.specs.Option.{option_to_list}
use Rattle.std.proofs.lemmas.Bool.{or_right}
use Rattle.std.proofs.lemmas.List.{append-nil}
use Rattle.std.proofs.lemmas.List.Elements.{All-get_or}
use Rattle.std.proofs.lemmas.Option.{slice_get_within, get_or_from_slice_get}
use Rattle.fs_instr.specs.declared.instr.Instr.{Instr}
use Rattle.fs_model.specs.Test.{GoesForward, IsBounded}
use Rattle.fs_model.specs.declared.hart.Hart.{Hart}
use Rattle.fs_model.specs.declared.step.Step.{Step}
use Rattle.fs_model.specs.declared.step.Choice.{Choice}
use Rattle.fs_model.specs.declared.step.Stop.{Stop}
use Rattle.fs_model.specs.declared.step.Stop.TheVariants.{Short, Long, BadChoice, BadSc, Astray}
use Rattle.fs_model.specs.Forms.{is_loading, is_sc}
use Rattle.fs_model.specs.Trace.{AreSteps, IsStep, Accesses, after_step, hart_after, start_with}
use Rattle.fs_model.specs.Choices.{Makes, IsStopped, IsWhole, StopsAt, StopsIn, fits, is_choosing, choice_by, choices_of}
use Rattle.fs_model.specs.Execution.{code_of, registers_of}
use Rattle.fs_model.specs.declared.test.Test.{Test}
use Rattle.fs_model.specs.declared.test.Location.{Location}
use Rattle.fs_hart.specs.Runs.{Stops, IsRunOf, run_of}
use Rattle.fs_hart.proofs.Forward.{IsLater, goes_on}

-- one step more
pub steps_more : (n : ℕ) (code : List Instr) (h : Hart) (ss : List Step) (s : Step) → AreSteps n code h ss → IsStep n code (hart_after h ss) s → AreSteps n code h (ss ++ s ∷ [])
steps_more n code h [] s r q = (q, tt)
steps_more n code h (x ∷ ss) s r q = (r.0, steps_more n code (after_step h x) ss s r.1 q)

pub after_more : (h : Hart) (ss : List Step) (s : Step) → hart_after h (ss ++ s ∷ []) ≡ after_step (hart_after h ss) s
after_more h [] s = refl
after_more h (x ∷ ss) s = after_more (after_step h x) ss s

pub after_all : (h : Hart) (ss us : List Step) → hart_after h (ss ++ us) ≡ hart_after (hart_after h ss) us
after_all h [] us = refl
after_all h (x ∷ ss) us = after_all (after_step h x) ss us

pub choices_more : (ss : List Step) (s : Step) → choices_of (ss ++ s ∷ []) ≡ choices_of ss ++ option_to_list (choice_by s.instr s)
choices_more [] s = append-nil (option_to_list (choice_by s.instr s))
choices_more (x ∷ ss) s = ap (λ r. option_to_list (choice_by x.instr x) ++ r) (choices_more ss s) ∙ sym (append_assoc (option_to_list (choice_by x.instr x)) (choices_of ss) _)

pub is_step : (n : ℕ) (code : List Instr) (h : Hart) (i : Instr) (c : Option Choice) (s : Step) → slice_get code h.at ≡ Some i → Makes n h i c s → IsStep n code h s
is_step n code h i c s e m = (m.at, e ∙ ap (λ j. Some j) (sym m.instr), subst (λ j. Accesses n h s j) (sym m.instr) m.access)

-- where a hart is after some of the choices
pub record Along (n : ℕ) (code : List Instr) (registers : List ℕ) (choices : List Choice) (used : ℕ) (h : Hart) (steps : List Step) : Type 0 where
  pub runs : AreSteps n code (start_with registers) steps
  pub state : h ≡ hart_after (start_with registers) steps
  pub made : choices ≡ choices_of steps ++ drop used choices
  pub within : used ≤ length choices
  pub inside : h.at ≤ length code

drop_at : (xs : List Choice) (k : ℕ) (x : Choice) → slice_get xs k ≡ Some x → drop k xs ≡ x ∷ drop (k + 1) xs
drop_at xs k x e =
    let l = slice_get_within xs k x e in
    let at = get_or_from_slice_get xs k x x e in
    drop-cons xs k x l ∙ (rw (at, add-one) refl)

chosen_is : (b : Bool) (c d o : Option Choice) → c ≡ (if b then o else None) → d ≡ (if b then c else None) → d ≡ c
chosen_is true c d o e f = f
chosen_is false c d o e f = f ∙ sym e

abbrev count_of : Option Choice → ℕ
count_of c = if is_some c then 1 else 0

-- the choice that a step uses up is the next one
used_up : (b : Bool) (choices : List Choice) (used : ℕ) (c : Option Choice) → used ≤ length choices → c ≡ (if b then slice_get choices used else None)
    → (drop used choices ≡ option_to_list c ++ drop (used + count_of c) choices) × (used + count_of c ≤ length choices)
used_up b choices used None l e = (let same : used ≡ used + 0 = omega arith in ap (λ k. drop k choices) same, omega arith)
used_up false choices used (Some x) l e = absurd (cc)
used_up true choices used (Some x) l e =
    let inside = slice_get_within choices used x (sym e) in
    (drop_at choices used x (sym e), omega arith)

pub along_start : (n : ℕ) (code : List Instr) (registers : List ℕ) (choices : List Choice) → Along n code registers choices 0 (start_with registers) []
along_start n code registers choices = record { runs = tt; state = refl; made = refl; within = omega arith; inside = omega arith }

-- a step more
pub along_more : (n : ℕ) (code : List Instr) (registers : List ℕ) (choices : List Choice) (used : ℕ) (h : Hart) (ss : List Step) (i : Instr) (c : Option Choice) (s : Step)
    → GoesForward code → Along n code registers choices used h ss → h.at < length code → slice_get code h.at ≡ Some i
    → c ≡ (if is_choosing i then slice_get choices used else None) → Makes n h i c s
    → Along n code registers choices (used + count_of c) (after_step h s) (ss ++ s ∷ [])
along_more n code registers choices used h ss i c s forward a l e f m =
    let made : choice_by s.instr s ≡ c = ap (λ j. choice_by j s) m.instr ∙ chosen_is (is_choosing i) c (choice_by i s) (slice_get choices used) f m.chosen in
    let parts = used_up (is_choosing i) choices used c a.within f in
    let here : choices_of (ss ++ s ∷ []) ≡ choices_of ss ++ option_to_list c = choices_more ss s ∙ ap (λ o. choices_of ss ++ option_to_list o) made in
    let step = is_step n code h i c s e m in
    let later = goes_on code h.at h.registers s.instr forward l step.1 in
    record {
      runs = steps_more n code (start_with registers) ss s a.runs (subst (λ g. IsStep n code g s) a.state step);
      state = ap (λ g. after_step g s) a.state ∙ sym (after_more (start_with registers) ss s);
      made = a.made ∙ ap (λ r. choices_of ss ++ r) parts.0 ∙ sym (append_assoc (choices_of ss) (option_to_list c) _) ∙ ap (λ r. r ++ drop (used + count_of c) choices) (sym here);
      within = parts.1;
      inside = later.1;
    }

-- ---- where it stops

first_of_option : (c : Option Choice) → slice_get (option_to_list c) 0 ≡ c
first_of_option None = refl
first_of_option (Some x) = refl

same_next : (i : Instr) (rest : List Choice) (c : Option Choice) → c ≡ (if is_choosing i then slice_get rest 0 else None) → is_choosing i ≡ true → slice_get rest 0 ≡ slice_get (option_to_list c) 0
same_next i rest c e b = let f : c ≡ slice_get rest 0 = rw b at e in sym f ∙ sym (first_of_option c)

sc_chooses : (i : Instr) → is_sc i ≡ true → is_choosing i ≡ true
sc_chooses i e = or_right (is_loading i) (is_sc i) e

none_at_first : (rest : List Choice) → None ≡ slice_get rest 0 → rest ≡ []
none_at_first [] e = refl
none_at_first (x ∷ rest) e = absurd (cc)

none_left : (i : Instr) (rest : List Choice) (c : Option Choice) → c ≡ (if is_choosing i then slice_get rest 0 else None) → is_choosing i ≡ true → option_to_list c ≡ [] → rest ≡ []
none_left i rest None e b f = none_at_first rest (rw b at e)
none_left i rest (Some x) e b f = absurd (cc)

stops_more : (n : ℕ) (h : Hart) (i : Instr) (rest : List Choice) (c : Option Choice) (stop : Stop) → c ≡ (if is_choosing i then slice_get rest 0 else None)
    → StopsAt n h i (option_to_list c) stop → StopsAt n h i rest stop
stops_more n h i rest c (Astray at) e b = b
stops_more n h i rest c BadSc e b = (b.0, same_next i rest c e (sc_chooses i b.0) ∙ b.1, b.2)
stops_more n h i rest c BadChoice e b = (b.0, b.1, ap (option_map (fits i)) (same_next i rest c e b.1) ∙ b.2)
stops_more n h i rest c Short e b = (b.0, b.1, none_left i rest c e b.1 b.2)
stops_more n h i rest c Long e b = b

pub stops_in : (n : ℕ) (code : List Instr) (h : Hart) (i : Instr) (rest : List Choice) (stop : Stop) → slice_get code h.at ≡ Some i → StopsAt n h i rest stop → StopsIn n code h rest stop
stops_in n code h i rest (Astray at) e b = (i, e, b)
stops_in n code h i rest BadSc e b = (i, e, b)
stops_in n code h i rest BadChoice e b = (i, e, b)
stops_in n code h i rest Short e b = (i, e, b)
stops_in n code h i rest Long e b = absurd b

first_dropped : (xs : List Choice) (k : ℕ) → slice_get (drop k xs) 0 ≡ slice_get xs k
first_dropped xs zero = refl
first_dropped [] (suc k) = refl
first_dropped (x ∷ xs) (suc k) = first_dropped xs k

-- no step more
pub along_stop : (n : ℕ) (code : List Instr) (registers : List ℕ) (choices : List Choice) (used : ℕ) (h : Hart) (ss : List Step) (i : Instr) (c : Option Choice) (stop : Stop)
    → Along n code registers choices used h ss → slice_get code h.at ≡ Some i
    → c ≡ (if is_choosing i then slice_get choices used else None) → StopsAt n h i (option_to_list c) stop
    → IsStopped n code registers choices ss stop
along_stop n code registers choices used h ss i c stop a e f b =
    let next : c ≡ (if is_choosing i then slice_get (drop used choices) 0 else None) = rw first_dropped f in
    let here = stops_in n code h i (drop used choices) stop e (stops_more n h i (drop used choices) c stop next b) in
    (a.runs, (drop used choices, a.made, subst (λ g. StopsIn n code g (drop used choices) stop) a.state here))

pub along_long : (n : ℕ) (code : List Instr) (registers : List ℕ) (choices : List Choice) (used : ℕ) (h : Hart) (ss : List Step)
    → Along n code registers choices used h ss → length code ≤ h.at → used < length choices → IsStopped n code registers choices ss Long
along_long n code registers choices used h ss a past l =
    let left : drop used choices ≢ [] = λ none. let e : length (drop used choices) ≡ 0 = ap length none in omega (arith, length-drop used choices) in
    (a.runs, (drop used choices, a.made, subst (λ g. StopsIn n code g (drop used choices) Long) a.state (past, left)))

nothing_past : (xs : List Choice) (k : ℕ) → length xs ≤ k → drop k xs ≡ []
nothing_past [] zero l = refl
nothing_past [] (suc k) l = refl
nothing_past (x ∷ xs) zero l = absurd (omega arith)
nothing_past (x ∷ xs) (suc k) l = nothing_past xs k (omega arith)

pub along_whole : (n : ℕ) (code : List Instr) (registers : List ℕ) (choices : List Choice) (used : ℕ) (h : Hart) (ss : List Step)
    → Along n code registers choices used h ss → length code ≤ h.at → length choices ≤ used → IsWhole n code registers choices ss
along_whole n code registers choices used h ss a past l =
    let none : drop used choices ≡ [] = nothing_past choices used l in
    ((a.runs, subst (λ g. length code ≤ g.at) a.state past), a.made ∙ ap (λ r. choices_of ss ++ r) none ∙ append-nil (choices_of ss))

pub makes_later : (n : ℕ) (code : List Instr) (h : Hart) (i : Instr) (c : Option Choice) (s : Step) → GoesForward code → h.at < length code → slice_get code h.at ≡ Some i → Makes n h i c s → IsLater code h.at (after_step h s).at
makes_later n code h i c s forward l e m = goes_on code h.at h.registers s.instr forward l (is_step n code h i c s e m).1

pub code_forward : (t : Test) (hart : ℕ) → All GoesForward t.codes → hart < length t.codes → GoesForward (code_of t hart)
code_forward t hart forward l = All-get_or GoesForward t.codes hart [] l forward

pub code_short : (t : Test) (hart : ℕ) → IsBounded t → hart < length t.codes → length (code_of t hart) ≤ 32
code_short t hart bounded l = All-get_or (λ code. length code ≤ 32) t.codes hart [] l bounded.lengths

pub run_stops : (t : Test) (hart : ℕ) (choices : List Choice) (stop : Stop) → Stops t hart choices stop → IsRunOf t hart choices (run_of stop)
run_stops t hart choices Short s = s
run_stops t hart choices Long s = s
run_stops t hart choices BadChoice s = s
run_stops t hart choices BadSc s = s
run_stops t hart choices (Astray at) s = s

-- the same of the locations and the code that the program reads
pub stops_by : (t : Test) (hart : ℕ) (choices : List Choice) (locations : List Location) (code : List Instr) (ss : List Step) (stop : Stop)
    → locations ≡ t.locations → code ≡ code_of t hart → IsStopped (length locations) code (registers_of t hart) choices ss stop → IsRunOf t hart choices (run_of stop)
stops_by t hart choices locations code ss stop e f s =
    let here : IsStopped (length t.locations) code (registers_of t hart) choices ss stop = subst (λ ls. IsStopped (length ls) code (registers_of t hart) choices ss stop) e s in
    run_stops t hart choices stop (ss, subst (λ code'. IsStopped (length t.locations) code' (registers_of t hart) choices ss stop) f here)
