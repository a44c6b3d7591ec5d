-- Steps that take no choice: the ends behind them are those of the state that they lead to.
use Rattle.std.proofs.Common.{◌≡◌, ℕ, ◌<◌, ◌≤◌, Bool, true, false, if◌then◌else◌, ◌||◌, Option, None, Some, List, [], ◌∷◌, ◌++◌, map, take, length, refl, ap, sym, subst, ◌∙◌, arith, append_assoc, inl, inr}
use Rattle.std.specs.Prelude.{slice_get}
use Rattle.std.specs.Option.{option_or}
use Rattle.std.specs.List.{Contains}
use Rattle.std.proofs.lemmas.List.{append-nil, length-map}
use Rattle.std.proofs.Math.Seq.{take-append_seam}
use Rattle.fs_kinds.specs.declared.fault.Fault.{Fault}
use Rattle.fs_kinds.specs.declared.fault.Fault.TheVariants.{TooManyTraces, Memory}
use Rattle.fs_instr.specs.declared.instr.Instr.{Instr}
use Rattle.fs_model.specs.declared.test.Test.{Test}
use Rattle.fs_model.specs.declared.hart.Hart.{Hart}
use Rattle.fs_model.specs.declared.step.Step.{Step}
use Rattle.fs_model.specs.declared.step.Choice.{Choice}
use Rattle.fs_model.specs.declared.step.Choice.TheVariants.{Success}
use Rattle.fs_model.specs.declared.step.Stop.{Stop}
use Rattle.fs_model.specs.declared.step.Stop.TheVariants.{Short, Long, BadChoice, BadSc, Astray}
use Rattle.fs_model.specs.Forms.{is_loading, is_sc}
use Rattle.fs_model.specs.Test.{GoesForward}
use Rattle.fs_model.specs.Trace.{IsStep, hart_after, after_step}
use Rattle.fs_model.specs.Choices.{Makes, StopsAt, GoesAstray, choice_by, is_choosing}
use Rattle.fs_model.specs.Execution.{code_of}
use Rattle.fs_model.specs.Values.{LoadsOne}
use Rattle.fs_model.proofs.Runs.{same_instr}
use Rattle.std.proofs.lemmas.Bool.{false≢true}
use Rattle.std.proofs.lemmas.Option.{slice_get_past}
use Rattle.fs_hart.specs.declared.walk.Walk.{Walk}
use Rattle.fs_hart.specs.Listing.{End, IsOffered}
use Rattle.fs_hart.specs.inner.Walking.{Explores, IsCut, AreEndsFrom, ListsFrom, IsQuiet, AreQuiet, Leads, Halts, after, first_astray, options, whole_traces}
use Rattle.fs_hart.proofs.Along.{is_step, makes_later, after_all, after_more}
use Rattle.fs_hart.proofs.Options.{OptionBefore, first_in, option_loads}
use Rattle.fs_hart.proofs.Ends.{Tried, tried_none, tried_more, tried_all, ends_more, no_step_astray}
use Rattle.fs_hart.proofs.Adding.{after_after, first_after}

-- ---- one step

by_neither : {X : Type 0} (a b : Bool) (x y z : X) → (a || b) ≡ false → (if a then x else (if b then y else z)) ≡ z
by_neither true b x y z e = absurd (cc)
by_neither false true x y z e = absurd (cc)
by_neither false false x y z e = refl

module _ (n : ℕ) (code : List Instr) (sets : List (List ℕ)) where
  one_option : (h : Hart) (s : Step) (q : IsQuiet n code h s) → options sets h q.instr ≡ None ∷ []
  one_option h s q = by_neither (is_loading q.instr) (is_sc q.instr) _ _ _ q.quiet

  quiet_step : (h : Hart) (s : Step) → IsQuiet n code h s → IsStep n code h s
  quiet_step h s q = is_step n code h q.instr None s q.at q.makes

  quiet_loads : (h : Hart) (s : Step) → IsQuiet n code h s → LoadsOne (IsOffered sets) s
  quiet_loads h s q = option_loads n sets h q.instr None s q.makes (subst (λ os. Contains os None) (sym (one_option h s q)) (first_in None []))

  quiet_choice : (h : Hart) (s : Step) (q : IsQuiet n code h s) → choice_by q.instr s ≡ None
  quiet_choice h s q = rw q.quiet at q.makes.chosen

  nothing_before : (o : Option Choice) → Contains [] o → OptionBefore o None
  nothing_before o p = absurd (let k = p.1 in omega arith)

  lists_one : (h : Hart) (s : Step) (subs : List End) → IsQuiet n code h s → ListsFrom n code sets (after_step h s) subs → ListsFrom n code sets h (map (after (s ∷ [])) subs)
  lists_one h s subs q l =
      let more : Tried n code sets h (None ∷ []) (map (after (s ∷ [])) subs)
      = tried_more n code sets h q.instr [] None s [] subs nothing_before q.at q.makes (quiet_step h s q) (quiet_loads h s q) (quiet_choice h s q) (tried_none n code sets h) l in
      tried_all n code sets h q.instr (map (after (s ∷ [])) subs) q.at (λ a. no_step_astray n code h q.instr s q.at a (quiet_step h s q))
      (subst (λ os. Tried n code sets h os (map (after (s ∷ [])) subs)) (sym (one_option h s q)) more)

  ends_one : (h : Hart) (s : Step) (subs : List End) → IsQuiet n code h s → AreEndsFrom n code sets (after_step h s) subs → AreEndsFrom n code sets h (map (after (s ∷ [])) subs)
  ends_one h s subs q a =
      let chosen : choice_by s.instr s ≡ None = ap (λ j. choice_by j s) q.makes.instr ∙ quiet_choice h s q in
      let none = tried_none n code sets h in
      ends_more n code sets h [] None s [] subs nothing_before (quiet_step h s q) (quiet_loads h s q) chosen none.different none.start a

  -- ---- all of them

  after_none : (ends : List End) → map (after []) ends ≡ ends
  after_none [] = refl
  after_none (x ∷ xs) = ap (λ es. x ∷ es) (after_none xs)

  pub lists_led : (h : Hart) (ss : List Step) (subs : List End) → AreQuiet n code h ss → ListsFrom n code sets (hart_after h ss) subs → ListsFrom n code sets h (map (after ss) subs)
  lists_led h [] subs q l = subst (ListsFrom n code sets h) (sym (after_none subs)) l
  lists_led h (s ∷ ss) subs q l = subst (ListsFrom n code sets h) (after_after (s ∷ []) ss subs) (lists_one h s (map (after ss) subs) q.0 (lists_led (after_step h s) ss subs q.1 l))

  pub ends_led : (h : Hart) (ss : List Step) (subs : List End) → AreQuiet n code h ss → AreEndsFrom n code sets (hart_after h ss) subs → AreEndsFrom n code sets h (map (after ss) subs)
  ends_led h [] subs q a = subst (AreEndsFrom n code sets h) (sym (after_none subs)) a
  ends_led h (s ∷ ss) subs q a = subst (AreEndsFrom n code sets h) (after_after (s ∷ []) ss subs) (ends_one h s (map (after ss) subs) q.0 (ends_led (after_step h s) ss subs q.1 a))

-- the walk with the other's path
abbrev pub at_path : Walk → Walk → Walk
at_path w other = record { alloc = w.alloc; path = other.path; traces = w.traces; ends = w.ends; astray = w.astray; few = w.few }

-- ---- what the walk finds from there on

pub explores_led : (t : Test) (hart : ℕ) (sets : List (List ℕ)) (n : ℕ) (code : List Instr) (h g : Hart) (old led new : Walk) → n ≡ length t.locations → code ≡ code_of t hart
    → Leads n code h old g led → Explores t hart sets g led new → Explores t hart sets h old (at_path new old)
explores_led t hart sets n code h g old led new e f l' b =
    let l : Leads (length t.locations) (code_of t hart) h old g led = subst (λ x. Leads x (code_of t hart) h old g led) e (subst (λ x. Leads n x h old g led) f l') in
    let whole = whole_traces t hart in
    let below = subst (λ x. ListsFrom (length t.locations) (code_of t hart) sets x b.ends) l.state b.lists in
    record {
      ends = map (after l.steps) b.ends;
      lists = lists_led (length t.locations) (code_of t hart) sets h l.steps b.ends l.quiet below;
      adds = record {
        path = refl;
        runs = b.adds.runs ∙ ap (λ xs. xs ++ whole (map (after led.path.items) b.ends)) l.runs ∙ ap (λ xs. old.traces.items ++ whole (map (after xs) b.ends)) l.path
            ∙ ap (λ xs. old.traces.items ++ whole xs) (sym (after_after old.path.items l.steps b.ends));
        number = b.adds.number ∙ (let m = l.number in let size = length-map b.ends (after l.steps) in omega arith);
        first = b.adds.first ∙ ap (λ o. option_or o (first_astray b.ends)) l.first ∙ ap (option_or old.astray) (sym (first_after l.steps b.ends));
      };
    }

pub cut_led : (t : Test) (hart : ℕ) (sets : List (List ℕ)) (n : ℕ) (code : List Instr) (h g : Hart) (old led : Walk) (fault : Fault) → n ≡ length t.locations → code ≡ code_of t hart
    → Leads n code h old g led → IsCut t hart sets g led.ends fault → IsCut t hart sets h old.ends fault
cut_led t hart sets n code h g old led TooManyTraces e f l' b =
    let l : Leads (length t.locations) (code_of t hart) h old g led = subst (λ x. Leads x (code_of t hart) h old g led) e (subst (λ x. Leads n x h old g led) f l') in
    record {
      ends = map (after l.steps) b.ends;
      different = ends_led (length t.locations) (code_of t hart) sets h l.steps b.ends l.quiet (subst (λ x. AreEndsFrom (length t.locations) (code_of t hart) sets x b.ends) l.state b.different);
      many = (let many = b.many in let m = l.number in let size = length-map b.ends (after l.steps) in omega arith);
    }
cut_led t hart sets n code h g old led Memory e f l b = tt
cut_led t hart sets n code h g old led _ e f l b = b

-- ---- on the way

quiet_more : (n : ℕ) (code : List Instr) (h : Hart) (ss : List Step) (s : Step) → AreQuiet n code h ss → IsQuiet n code (hart_after h ss) s → AreQuiet n code h (ss ++ s ∷ [])
quiet_more n code h [] s a q = (q, tt)
quiet_more n code h (x ∷ ss) s a q = (a.0, quiet_more n code (after_step h x) ss s a.1 q)

pub leads_none : (n : ℕ) (code : List Instr) (h : Hart) (w : Walk) → h.at ≤ length code → Leads n code h w h w
leads_none n code h w l = record { steps = []; quiet = tt; state = refl; later = omega arith; inside = l; path = sym (append-nil w.path.items); runs = refl; number = refl; first = refl }

pub leads_more : (n : ℕ) (code : List Instr) (h g : Hart) (i : Instr) (s : Step) (old mid new : Walk) → GoesForward code → g.at < length code → slice_get code g.at ≡ Some i → is_choosing i ≡ false → Makes n g i None s
    → Leads n code h old g mid → new.path.items ≡ mid.path.items ++ s ∷ [] → new.traces.items ≡ mid.traces.items → new.ends ≡ mid.ends → new.astray ≡ mid.astray
    → Leads n code h old (after_step g s) new
leads_more n code h g i s old mid new forward inside at b m l p r k a =
    let quiet : IsQuiet n code g s = record { instr = i; at = at; quiet = b; makes = m } in
    let next = makes_later n code g i None s forward inside at m in
    record {
      steps = l.steps ++ s ∷ [];
      quiet = quiet_more n code h l.steps s l.quiet (subst (λ x. IsQuiet n code x s) l.state quiet);
      state = ap (λ x. after_step x s) l.state ∙ sym (after_more h l.steps s);
      later = (let before = l.later in let there = next.0 in omega arith);
      inside = next.1;
      path = p ∙ ap (λ xs. xs ++ s ∷ []) l.path ∙ append_assoc old.path.items l.steps (s ∷ []);
      runs = r ∙ l.runs;
      number = k ∙ l.number;
      first = a ∙ l.first;
    }

-- the state is still the one that the path leads to
pub led_on_path : (n : ℕ) (code : List Instr) (start h g : Hart) (old led : Walk) → Leads n code h old g led → h ≡ hart_after start old.path.items → g ≡ hart_after start led.path.items
led_on_path n code start h g old led l on =
    l.state ∙ ap (λ x. hart_after x l.steps) on ∙ sym (after_all start old.path.items l.steps) ∙ ap (hart_after start) (sym l.path)

-- the path without the steps behind its first k
pub cut_back : (k : ℕ) (xs ys zs path : List Step) (s : Step) (steps : List Step) → k ≡ length xs → path ≡ xs ++ s ∷ [] → ys ≡ path ++ steps → zs ≡ take k ys → zs ≡ xs
cut_back k xs ys zs path s steps size e f g =
    let whole : ys ≡ xs ++ (s ∷ steps) = f ∙ ap (λ p. p ++ steps) e ∙ append_assoc xs (s ∷ []) steps in
    g ∙ ap (λ j. take j ys) size ∙ ap (take (length xs)) whole ∙ take-append_seam xs (s ∷ steps)

-- ---- where they end

-- an instruction that takes no choice stops only where it goes astray
astray_alone : (n : ℕ) (h : Hart) (i : Instr) (stop : Stop) → is_choosing i ≡ false → StopsAt n h i [] stop → GoesAstray n h i
astray_alone n h i (Astray at) b p = p.1
astray_alone n h i BadSc b p = absurd (let none : None ≡ Some Success = p.1 in cc)
astray_alone n h i BadChoice b p = absurd (false≢true (sym b ∙ p.1))
astray_alone n h i Short b p = absurd (false≢true (sym b ∙ p.1))
astray_alone n h i Long b p = absurd p

pub halts_past : (n : ℕ) (code : List Instr) (h : Hart) → length code ≤ h.at → Halts n code h
halts_past n code h past = λ i e. absurd (let both : None ≡ Some i = sym (slice_get_past code h.at past) ∙ e in cc)

pub halts_choosing : (n : ℕ) (code : List Instr) (h : Hart) (i : Instr) → slice_get code h.at ≡ Some i → is_choosing i ≡ true → Halts n code h
halts_choosing n code h i at b = λ j e. inl (subst (λ x. is_choosing x ≡ true) (same_instr (sym at ∙ e)) b)

pub halts_astray : (n : ℕ) (code : List Instr) (h : Hart) (i : Instr) (stop : Stop) → slice_get code h.at ≡ Some i → is_choosing i ≡ false → StopsAt n h i [] stop → Halts n code h
halts_astray n code h i stop at b p = λ j e. inr (subst (GoesAstray n h) (same_instr (sym at ∙ e)) (astray_alone n h i stop b p))
