-- The states that `states` lists are those of the fenced program.
use Rattle.std.proofs.Common.{◌≡◌, ℕ, ◌==◌, ◌++◌, cond, Bool, true, false, ◌&&◌, ◌||◌, not, Option, None, Some, List, [], ◌∷◌, map, flat_map, length, take, zero, suc, All, Contains, refl, ap, ap₂, sym, subst, ◌∙◌, append-nil, append_assoc, arith, inl, inr}
use Rattle.std.specs.Prelude.{◌↔◌, codes, slice_get}
use Rattle.std.specs.Fmt.{decimal, digits}
use Rattle.std.specs.List.{filter, list_any, slice_index_or}
use Rattle.std.specs.Option.{option_or}
use Rattle.std.specs.Str.{bytes_eq}
use Rattle.std.proofs.lemmas.Bool.{and_parts, eqb-true, false≢true, or_cases, or_parts}
use Rattle.std.proofs.lemmas.List.{length-map}
use Rattle.std.proofs.lemmas.List.Elements.{All-map}
use Rattle.fs_instr.specs.Registers.{register_of, low_x, middle_x, high_x, first_names, arguments, last_names}
use Rattle.fs_instr.specs.Rows.{look_up}
use Rattle.fs_kinds.specs.declared.placement.Entry.{Entry}
use Rattle.fs_kinds.proofs.Names.{same_bytes}
use Rattle.fs_model.specs.declared.test.Location.{Location as Named}
use Rattle.fs_model.specs.declared.test.Quantifier.{Quantifier}
use Rattle.fs_model.specs.declared.test.Quantifier.TheVariants.{Exists, NotExists, Forall}
use Rattle.fs_model.specs.declared.test.Test.{Test}
use Rattle.fs_model.specs.Execute.{read}
use Rattle.fs_model.specs.Execution.{Execution, registers_of}
use Rattle.fs_model.specs.Executions.{IsExecution, final_register, final_word, pre_execution}
use Rattle.fs_model.specs.Fenced.{fenced}
use Rattle.fs_model.specs.Numbers.{is_same}
use Rattle.fs_model.specs.Operations.{steps_of}
use Rattle.fs_model.specs.OfTests.{program_of}
use Rattle.fs_model.specs.Trace.{hart_after, start_with}
use Rattle.fs_model_laws.specs.Fenced.{fenced_execution, fenced_traces}
use Rattle.fs_model_laws.proofs.FencedAlike.{final_word_same}
use Rattle.fs_model_laws.proofs.FencedExecutions.{execution_back}
use Rattle.fs_model_laws.proofs.FencedFences.{fenced_alike}
use Rattle.fs_model_laws.proofs.FencedLaw as no_fence
use Rattle.fs_model_laws.proofs.FencedOperations.{trace_fenced}
use Rattle.fs_model_laws.proofs.FencedOutcome.{registers_same}
use Rattle.fs_model_laws.proofs.NoPlacement as no_placement
use Rattle.fs_app_error_messages.specs.Messages.{name_text, most_name}
use Rattle.fs_app_error_messages.specs.Places.{shown_byte, shown, goes_on}
use Rattle.fs_judge_outcomes.specs.declared.place.Place.{Place}
use Rattle.fs_judge_outcomes.specs.declared.place.Place.TheVariants.{Register, Location}
use Rattle.fs_judge_outcomes.specs.declared.state.State.{State}
use Rattle.fs_judge_outcomes.specs.States.{AreStates, word_at, word_of, words_of}
use Rattle.fs_litmus_tokens.specs.Numbers.{number_of}
use Rattle.fs_litmus_tokens.specs.Tokens.{Lined, Tok, Word, Sign}
use Rattle.fs_litmus_tokens.specs.declared.token.Mark.TheVariants.{Colon}
use Rattle.fs_app_states.specs.declared.columns.Column.{Column}
use Rattle.fs_app_states.specs.Listed.{first_name, named_at, named_first, named_so, register_text}
use Rattle.fs_app_states.specs.Names.{state_line}
use Rattle.fs_app_states.specs.Places.{AreColumns, column_of, place_text, shown_places}
use Rattle.fs_app_states.specs.Report.{quantifier_word, state_lines, states_text, verdict_lines}
use Rattle.fs_app_states.specs.Shown.{places_of}
use Rattle.fs_app_guarantees.specs.Meanings.{Calls, ListsStates}
use Rattle.fs_app_guarantees.proofs.FullFences.{fenced_there}
use Rattle.fs_app_guarantees.proofs.Placing.{if_some}

-- ---- the states

module _ (t : Test) (p : List Entry) where
  -- the word at a place in the fenced execution
  word_there : (e : Execution) (place : Place)
      → word_of (final_register (program_of (fenced t p)) (fenced_execution p e)) (final_word (program_of (fenced t p)) (fenced_execution p e)) place
      ≡ word_at t e place
  word_there e (Register hart reg) =
      let h = start_with (registers_of t hart) in
      ap (λ ss. read (hart_after h ss).registers reg) (trace_fenced p e.traces hart)
      ∙ ap (λ x. read x reg) (registers_same p hart (steps_of e.traces hart) h h refl)
  word_there e (Location location) =
      let x = pre_execution (program_of t) e.traces in
      final_word_same x p (pre_execution (program_of (fenced t p)) (fenced_traces p e.traces)) [] (fenced_alike p x [] (λ s. refl)) e.order location

  abbrev words : List Column → Execution → List ℕ
  words columns e = map (λ column. word_of (final_register (program_of (fenced t p)) e) (final_word (program_of (fenced t p)) e) column.place) columns

  words_there : (e : Execution) (columns : List Column) → words columns (fenced_execution p e) ≡ map (word_at t e) (places_of columns)
  words_there e [] = refl
  words_there e (c ∷ columns) = ap₂ (λ w ws. w ∷ ws) (word_there e c.place) (words_there e columns)

  exact : (columns : List Column) (states : List (List ℕ)) → AreStates t p (places_of columns) states → (s : List ℕ)
      → Contains states s ↔ ((e : Execution) × IsExecution (program_of (fenced t p)) e × (words columns e ≡ s))
  exact columns states are s = (
    λ has.
        let is = (are.exact s).0 has in
        (fenced_execution p is.0, fenced_there t p is.0 is.1, words_there is.0 columns ∙ is.2),
    λ found.
        let u = fenced t p in
        let e = found.0 in
        let was = execution_back t p e ((no_fence.same_executions u e).0 ((no_placement.same_executions u e).0 found.1)) in
        (are.exact s).1 (was.0, was.1, sym (words_there was.0 columns) ∙ ap (words columns) was.2 ∙ found.2),
  )

-- ---- the names of places

-- a name that begins with x is x and this number
abbrev HasNumber : List ℕ → ℕ → Type 0
HasNumber name reg = slice_get name 0 ≡ Some 120 → name ≡ codes "x" ++ decimal reg

abbrev begins_with_x : List ℕ → Bool
begins_with_x [] = false
begins_with_x (c ∷ cs) = c == 120

abbrev is_numbered : List ℕ × ℕ → Bool
is_numbered row = bytes_eq row.0 (codes "x" ++ decimal row.1) || not (begins_with_x row.0)

abbrev are_numbered : List (List ℕ × ℕ) → Bool
are_numbered [] = true
are_numbered (row ∷ rows) = is_numbered row && are_numbered rows

none_some : (n : ℕ) → None ≡ Some n → ⊥
none_some n e = cc

not_x : (name : List ℕ) → slice_get name 0 ≡ Some 120 → not (begins_with_x name) ≡ true → ⊥
not_x [] begins other = none_some 120 begins
not_x (c ∷ cs) begins other =
    let some : Some c ≡ Some 120 = begins in
    let same : c ≡ 120 = cc in
    false≢true (subst (λ n. not (n == 120) ≡ true) same other)

numbered : (name : List ℕ) (reg : ℕ) → is_numbered (name, reg) ≡ true → HasNumber name reg
numbered name reg is begins = elim (or_cases _ _ is) [
  | inl same ↦ same_bytes name (codes "x" ++ decimal reg) same
  | inr other ↦ absurd (not_x name begins other)
]

row_found : (c : Bool) (row : List ℕ × ℕ) (later : Option ℕ) (name : List ℕ) (reg : ℕ) → (c ≡ true → name ≡ row.0) → is_numbered row ≡ true
    → (later ≡ Some reg → HasNumber name reg) → cond c (Some row.1) later ≡ Some reg → HasNumber name reg
row_found true row later name reg same is more e =
    let one : Some row.1 ≡ Some reg = e in
    let number : row.1 ≡ reg = cc in
    subst (λ n. HasNumber n reg) (sym (same refl)) (subst (λ n. HasNumber row.0 n) number (numbered row.0 row.1 is))
row_found false row later name reg same is more e = more e

looked_up : (rows : List (List ℕ × ℕ)) (name : List ℕ) (reg : ℕ) → are_numbered rows ≡ true → look_up rows name ≡ Some reg → HasNumber name reg
looked_up [] name reg all e = absurd (let none : None ≡ Some reg = e in cc)
looked_up (row ∷ rows) name reg all e =
    let both = and_parts (is_numbered row) (are_numbered rows) all in
    row_found (bytes_eq name row.0) row (look_up rows name) name reg (same_bytes name row.0) both.0 (looked_up rows name reg both.1) e

either : (a b : Option ℕ) (name : List ℕ) (reg : ℕ) → (a ≡ Some reg → HasNumber name reg) → (b ≡ Some reg → HasNumber name reg)
    → option_or a b ≡ Some reg → HasNumber name reg
either None b name reg one two e = two e
either (Some n) b name reg one two e = one e

has_number : (name : List ℕ) (reg : ℕ) → register_of name ≡ Some reg → HasNumber name reg
unfolding register_of low_x middle_x high_x first_names arguments last_names digits
has_number name reg e =
    either (look_up low_x name) _ name reg (looked_up low_x name reg refl)
    (either (look_up middle_x name) _ name reg (looked_up middle_x name reg refl)
    (either (look_up high_x name) _ name reg (looked_up high_x name reg refl)
    (either (look_up first_names name) _ name reg (looked_up first_names name reg refl)
    (either (look_up arguments name) _ name reg (looked_up arguments name reg refl)
    (looked_up last_names name reg refl))))) e

same_number : (o : Option ℕ) (n : ℕ) → is_same o (Some n) ≡ true → o ≡ Some n
same_number None n e = absurd (cc)
same_number (Some m) n e = ap Some (eqb-true m n e)

is_register : (hart reg : ℕ) (word name other : List ℕ) → named_so hart reg word name ≡ Some other → register_of other ≡ Some reg
is_register hart reg word name other e =
    let found = if_some (is_same (number_of word) (Some hart) && is_same (register_of name) (Some reg)) (Some name) other e in
    let both : Some name ≡ Some other = found.1 in
    let same : name ≡ other = cc in
    let parts = and_parts (is_same (number_of word) (Some hart)) (is_same (register_of name) (Some reg)) found.0 in
    subst (λ n. register_of n ≡ Some reg) same (same_number (register_of name) reg parts.1)

at_says : (hart reg : ℕ) (a b c : Tok) (name : List ℕ) → named_at hart reg a b c ≡ Some name → register_of name ≡ Some reg
at_says hart reg (Word class word) (Sign Colon) (Word kind other) name e = is_register hart reg word other name e
at_says hart reg _ _ _ name e = absurd (let none : None ≡ Some name = e in cc)

first_says : (hart reg : ℕ) (first : Tok) (ts : List Lined) (name : List ℕ) → named_first hart reg first ts ≡ Some name → register_of name ≡ Some reg
first_says hart reg first (middle ∷ last ∷ ts) name e = at_says hart reg first middle.0 last.0 name e
first_says hart reg first [] name e = absurd (let none : None ≡ Some name = e in cc)
first_says hart reg first (middle ∷ []) name e = absurd (let none : None ≡ Some name = e in cc)

or_says : (a b : Option (List ℕ)) (reg : ℕ) (name : List ℕ) → (a ≡ Some name → register_of name ≡ Some reg)
    → (b ≡ Some name → register_of name ≡ Some reg) → option_or a b ≡ Some name → register_of name ≡ Some reg
or_says None b reg name one two e = two e
or_says (Some n) b reg name one two e = one e

name_says : (hart reg : ℕ) (ts : List Lined) (name : List ℕ) → first_name hart reg ts ≡ Some name → register_of name ≡ Some reg
name_says hart reg [] name e = absurd (let none : None ≡ Some name = e in cc)
name_says hart reg (t ∷ ts) name e =
    or_says (named_first hart reg t.0 ts) (first_name hart reg ts) reg name (first_says hart reg t.0 ts name) (name_says hart reg ts name) e

register_called : (locations : List Named) (hart reg : ℕ) (o : Option (List ℕ)) → ((name : List ℕ) → o ≡ Some name → register_of name ≡ Some reg)
    → Calls locations (register_text hart reg o) (Register hart reg)
register_called locations hart reg None is = (codes "x" ++ decimal reg, sym (append_assoc (decimal hart) (codes ":") (codes "x" ++ decimal reg)), λ begins. refl)
register_called locations hart reg (Some name) is =
    (name, sym (append_assoc (decimal hart) (codes ":") name), has_number name reg (is name refl))

place_called : (t : Test) (tokens : List Lined) (place : Place) → Calls t.locations (place_text t tokens place) place
place_called t tokens (Register hart reg) = register_called t.locations hart reg (first_name hart reg tokens) (name_says hart reg tokens)
place_called t tokens (Location location) = refl

called : (bytes : List ℕ) (t : Test) (all : Bool) (columns : List Column) → AreColumns bytes t all columns
    → All (λ column. Calls t.locations column.name column.place) columns
called bytes t all columns are =
    let tokens = are.0 in
    let places : List Place = shown_places t are.3.listed all in
    subst (λ (cs : List Column). All (λ (column : Column). Calls t.locations column.name column.place) cs) (sym are.3.are_columns)
    (All-map (λ (column : Column). Calls t.locations column.name column.place) (column_of t tokens) places
    (λ k d low. place_called t tokens (slice_index_or places k d)))

-- ---- the title is one line

abbrev is_end : ℕ → Bool
is_end c = c == 10

none_in : (xs ys : List ℕ) → list_any is_end xs ≡ false → list_any is_end ys ≡ false → list_any is_end (xs ++ ys) ≡ false
none_in [] ys one two = two
none_in (x ∷ xs) ys one two = let parts = or_parts (is_end x) (list_any is_end xs) one in rw (parts.0, none_in xs ys parts.1 two) refl

none_taken : (n : ℕ) (xs : List ℕ) → list_any is_end xs ≡ false → list_any is_end (take n xs) ≡ false
none_taken zero xs none = refl
none_taken (suc n) [] none = refl
none_taken (suc n) (x ∷ xs) none = let parts = or_parts (is_end x) (list_any is_end xs) none in rw (parts.0, none_taken n xs parts.1) refl

no_end : (b : ℕ) → is_end (shown_byte b) ≡ false
no_end b = grind arith

none_shown : (bs : List ℕ) → list_any is_end (map shown_byte bs) ≡ false
none_shown [] = refl
none_shown (b ∷ bs) = rw (no_end b, none_shown bs) refl

no_end_in_word : (q : Quantifier) → list_any is_end (quantifier_word q) ≡ false
no_end_in_word Exists = refl
no_end_in_word NotExists = refl
no_end_in_word Forall = refl

abbrev title : Test → List ℕ
title t = codes "Test " ++ (name_text t.name ++ (codes " " ++ quantifier_word t.quantifier))

one_line : (t : Test) → list_any is_end (title t) ≡ false
one_line t =
    none_in (codes "Test ") (name_text t.name ++ (codes " " ++ quantifier_word t.quantifier)) refl
    (none_in (name_text t.name) (codes " " ++ quantifier_word t.quantifier) (none_taken most_name (shown t.name) (none_shown (filter (λ b. not (goes_on b)) t.name)))
    (none_in (codes " ") (quantifier_word t.quantifier) refl (no_end_in_word t.quantifier)))

-- ---- the lines

regroup : (a n b q s d l f v : List ℕ) → ((a ++ (n ++ (b ++ (q ++ (s ++ (d ++ l)))))) ++ f) ++ v ≡ (a ++ (n ++ (b ++ q))) ++ s ++ d ++ l ++ f ++ v
regroup a n b q s d l f v = simp append_assoc

lines_alike : (locations : List Named) (columns : List Column) (states : List State)
    → flat_map (state_lines locations columns false) states ≡ flat_map (state_line locations columns) (words_of states)
lines_alike locations columns [] = refl
lines_alike locations columns (s ∷ states) =
    ap₂ (λ (x y : List ℕ). x ++ y) (append-nil (state_line locations columns s.words)) (lines_alike locations columns states)

lined : (t : Test) (p : List Entry) (columns : List Column) (states : List State)
    → states_text t p columns false states
    ≡ title t ++ codes "\nStates " ++ decimal (length (words_of states)) ++ codes "\n" ++ flat_map (state_line t.locations columns) (words_of states)
    ++ verdict_lines t p columns states
lined t p columns states =
    regroup (codes "Test ") (name_text t.name) (codes " ") (quantifier_word t.quantifier) (codes "\nStates ") (decimal (length states)) (codes "\n")
    (flat_map (state_lines t.locations columns false) states) (verdict_lines t p columns states)
    ∙ ap₂ (λ (n : ℕ) (lines : List ℕ). title t ++ codes "\nStates " ++ decimal n ++ codes "\n" ++ lines ++ verdict_lines t p columns states)
    (sym (length-map states (λ (s : State). s.words))) (lines_alike t.locations columns states)

pub lists : (bytes : List ℕ) (t : Test) (p : List Entry) (all : Bool) (columns : List Column) (states : List State) (text : List ℕ)
    → AreColumns bytes t all columns → AreStates t p (places_of columns) (words_of states) → text ≡ states_text t p columns false states
    → ListsStates (program_of (fenced t p)) text
lists bytes t p all columns states text are_columns are_states is_text = record {
  columns = columns;
  called = called bytes t all columns are_columns;
  states = words_of states;
  rising = are_states.rising;
  exact = exact t p columns (words_of states) are_states;
  title = title t;
  one_line = one_line t;
  rest = verdict_lines t p columns states;
  shown = is_text ∙ lined t p columns states;
}
