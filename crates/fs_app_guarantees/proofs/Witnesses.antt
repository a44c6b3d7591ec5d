-- Each execution is that of a witness, and the text of each witness of an execution is a file that says it.
use Rattle.std.proofs.Common.{◌≡◌, ℕ, suc, ◌<◌, ◌++◌, Bool, true, false, nat_lt, ◌&&◌, Option, None, Some, is_some, option_map, List, [], ◌∷◌, map, length, refl, sym, subst, ◌∙◌, arith, if◌then◌else◌}
use Rattle.std.specs.List.{slice_index_or}
use Rattle.std.specs.Option.{option_to_list}
use Rattle.std.proofs.lemmas.Bool.{and_parts, or_right, ltb-true}
use Rattle.std.proofs.lemmas.List.{get_or-map, length-map}
use Rattle.fs_instr.specs.declared.instr.Instr.{Instr}
use Rattle.fs_instr.specs.declared.instr.Instr.TheVariants.{Lw, Lr, Sc, Amo}
use Rattle.fs_kinds.specs.declared.placement.Entry.{Entry}
use Rattle.fs_kinds.specs.declared.reason.OperationName.{OperationName as Name}
use Rattle.fs_model.specs.declared.test.Test.{Test}
use Rattle.fs_model.specs.Test.{IsBounded}
use Rattle.fs_model.specs.declared.hart.Hart.{Hart}
use Rattle.fs_model.specs.declared.step.Step.{Step}
use Rattle.fs_model.specs.declared.step.Choice.{Choice}
use Rattle.fs_model.specs.declared.step.Choice.TheVariants.{Word, Success, Failure}
use Rattle.fs_model.specs.Choices.{choice_by, choices_of}
use Rattle.fs_model.specs.Execution.{Execution, IsExecution, pre_execution, code_of}
use Rattle.fs_model.specs.Numbers.{has_number}
use Rattle.fs_model.specs.Operations.{PreExecution, accesses, steps_of}
use Rattle.fs_model.specs.Reasons.{AreRuns}
use Rattle.fs_model.specs.Trace.{Accesses, AreSteps, IsWord, after_step}
use Rattle.fs_model.specs.Witness.{Witness, IsOfWitness, name_of}
use Rattle.fs_model.proofs.HartOperations.{has_name}
use Rattle.fs_model.proofs.ListedNumbers.{has-here}
use Rattle.fs_model.proofs.OnceListed.{order_below}
use Rattle.fs_cert_evidence.specs.Texts.{witness_text}
use Rattle.fs_cert_evidence.specs.WitnessFile.{IsWitnessFile, in_range}
use Rattle.fs_cand.proofs.NamedOrder.{NamesInRange}
use Rattle.fs_cand.proofs.RunNames.{ranged}
use Rattle.fs_app_guarantees.proofs.WitnessTexts.{Each, IsSmallChoice, IsSmallName, text_says}

-- ---- choices

loaded_small : (o : Option ℕ) → IsWord o → Each IsSmallChoice (option_to_list (option_map Word o))
loaded_small None is = absurd is
loaded_small (Some w) is = (is, tt)

outcome_small : (b : Bool) → IsSmallChoice (if b then Success else Failure)
outcome_small true = tt
outcome_small false = tt

step_small : (n : ℕ) (h : Hart) (s : Step) (i : Instr) → Accesses n h s i → Each IsSmallChoice (option_to_list (choice_by i s))
step_small n h s (Lw ann rd base offset) a = loaded_small s.loaded a.1
step_small n h s (Lr ann rd base) a = loaded_small s.loaded a.1
step_small n h s (Amo op ann rd value base) a = loaded_small s.loaded a.1
step_small n h s (Sc ann rd value base) a = (outcome_small (is_some s.stored), tt)
step_small n h s _ a = tt

each-append : {A : Type 0} (Q : A → Type 0) (xs ys : List A) → Each Q xs → Each Q ys → Each Q (xs ++ ys)
each-append Q [] ys h k = k
each-append Q (x ∷ xs) ys h k = (h.0, each-append Q xs ys h.1 k)

run_small : (n : ℕ) (code : List Instr) (h : Hart) (ss : List Step) → AreSteps n code h ss → Each IsSmallChoice (choices_of ss)
run_small n code h [] run = tt
run_small n code h (s ∷ ss) run =
    each-append IsSmallChoice (option_to_list (choice_by s.instr s)) (choices_of ss) (step_small n h s s.instr run.0.2) (run_small n code (after_step h s) ss run.1)

each_at : {A : Type 0} (Q : A → Type 0) (d : A) (xs : List A) → ((k : ℕ) → k < length xs → Q (slice_index_or xs k d)) → Each Q xs
each_at Q d [] each = tt
each_at Q d (x ∷ xs) each = (each 0 (omega arith), each_at Q d xs (λ k low. each (suc k) (omega (arith, low))))

-- ---- names

abbrev ranged_if : Bool → Name → Option Name
ranged_if b n = if b then Some n else None

small_if : (b : Bool) (n : Name) → ranged_if b n ≡ Some n → b ≡ true
small_if true n e = refl
small_if false n e = absurd (let none : None ≡ Some n = e in cc)

small_name : (n : Name) → in_range n ≡ Some n → IsSmallName n
small_name n e =
    let both = and_parts (nat_lt n.hart 256) (nat_lt n.at 256) (small_if (nat_lt n.hart 256 && nat_lt n.at 256) n e) in
    (ltb-true _ _ both.0, ltb-true _ _ both.1)

-- small names of these operations
record AreNamed (x : PreExecution) (order : List ℕ) : Type 0 where
  names : List Name
  are : map (name_of x) order ≡ map (λ name. Some name) names
  small : Each IsSmallName names

cons_same : {A : Type 0} {a b : A} {xs ys : List A} → a ≡ b → xs ≡ ys → a ∷ xs ≡ b ∷ ys
cons_same e k = cc

named : (x : PreExecution) (order : List ℕ) → NamesInRange x → ((a : ℕ) → has_number order a ≡ true → a < length (accesses x)) → AreNamed x order
named x [] small below = record { names = []; are = refl; small = tt }
named x (a ∷ order) small below =
    let found = has_name x a (below a (has-here a order a refl)) in
    let rest = named x order small (λ b there. below b (or_right _ _ there)) in
    record {
      names = found.0 ∷ rest.names;
      are = cons_same found.1 rest.are;
      small = (small_name found.0 (small a found.0 found.1), rest.small);
    }

some_same : (names others : List Name) → map (λ name. Some name) names ≡ map (λ name. Some name) others → names ≡ others
some_same [] [] e = refl
some_same [] (o ∷ others) e = absurd (cc)
some_same (n ∷ names) [] e = absurd (cc)
some_same (n ∷ names) (o ∷ others) e =
    let first : n ≡ o = cc in
    let rest : map (λ name. Some name) names ≡ map (λ name. Some name) others = cc in
    cons_same first (some_same names others rest)

-- ---- the witnesses of an execution

module _ (t : Test) (p : List Entry) (e : Execution) (bounded : IsBounded t) (is : IsExecution t p e) where
  abbrev x : PreExecution
  x = pre_execution t e.traces

  abbrev choices : List (List Choice)
  choices = map choices_of e.traces

  choices_at : (hart : ℕ) → hart < length t.codes → slice_index_or choices hart [] ≡ choices_of (steps_of e.traces hart)
  choices_at hart low = get_or-map choices_of e.traces hart [] [] (omega (arith, low, is.harts))

  runs : AreRuns t (record { choices = choices; order = [] }) e.traces
  runs = record { harts = is.harts; whole = λ hart low. (is.runs hart low, choices_at hart low) }

  are_named : AreNamed x e.order
  are_named = named x e.order (ranged t (record { choices = choices; order = [] }) e.traces runs bounded) (order_below x e.order is.axioms.once)

  abbrev witness : Witness
  witness = record { choices = choices; order = are_named.names }

  of : IsOfWitness t witness e
  of = record {
    lists = length-map e.traces choices_of ∙ is.harts;
    harts = is.harts;
    runs = λ hart low. (is.runs hart low, choices_at hart low);
    order = are_named.are;
  }

  module _ (w : Witness) (given : IsOfWitness t w e) where
    small_choices : Each (Each IsSmallChoice) w.choices
    small_choices = each_at (Each IsSmallChoice) [] w.choices
        (λ hart low.
        let here : hart < length t.codes = omega (arith, low, given.lists) in
        subst (Each IsSmallChoice) (sym (given.runs hart here).1)
        (run_small (length t.locations) (code_of t hart) _ (steps_of e.traces hart) (is.runs hart here).0))

    small_names : Each IsSmallName w.order
    small_names = subst (Each IsSmallName) (some_same are_named.names w.order (sym are_named.are ∙ given.order)) are_named.small

    pub given_file : IsWitnessFile (length t.codes) (witness_text w) w
    given_file =
        subst (λ (harts : ℕ). IsWitnessFile harts (witness_text w) w) given.lists
        (text_says w (record { choices = small_choices; names = small_names }))

  pub witness_file : (w : Witness) × IsOfWitness t w e × IsWitnessFile (length t.codes) (witness_text w) w
  witness_file = (witness, of, given_file witness of)
