-- The listing of all ends of a hart, and what is read off it.
use Rattle.std.proofs.Common.{◌≡◌, ℕ, ◌≤◌, true, Option, None, Some, List, [], ◌∷◌, ◌++◌, map, length, refl, ap, sym, subst, ◌∙◌, arith, inl, inr, All}
use Rattle.std.specs.List.{AllPairs, Contains}
use Rattle.std.specs.Option.{option_or}
use Rattle.std.proofs.lemmas.List.{append-nil}
use Rattle.std.proofs.lemmas.List.Elements.{All-nil, All-cons, Contains-append_right}
use Rattle.std.proofs.lemmas.List.Kept.{AllPairs-cons}
use Rattle.fs_kinds.specs.declared.fault.Fault.{Fault}
use Rattle.fs_kinds.specs.declared.fault.Fault.TheVariants.{TooManyTraces, Memory, Astray}
use Rattle.fs_model.specs.declared.test.Test.{Test}
use Rattle.fs_model.specs.declared.hart.Hart.{Hart}
use Rattle.fs_model.specs.declared.step.Step.{Step}
use Rattle.fs_model.specs.Trace.{AreSteps, start_with, hart_after}
use Rattle.fs_model.specs.Choices.{choices_of}
use Rattle.fs_model.specs.Execution.{code_of, registers_of}
use Rattle.fs_model.specs.TooMany.{IsFirstAstray, IsHartFault, most_choice_lists}
use Rattle.fs_hart.specs.declared.walk.Walk.{Walk}
use Rattle.fs_hart.specs.Listing.{End, EndsSo, IsEnd, IsEarlier, AreEnds, IsOffered, IsListing, AreTraces, IsTraceFault, trace_at}
use Rattle.fs_hart.specs.inner.Walking.{EndsAt, Explores, IsCut, Overflows, IsEndFrom, AreEndsFrom, ListsFrom, Rises, IsOf, after, first_astray, is_whole, whole_traces}
use Rattle.fs_hart.proofs.Ends.{all_of, of_all, of_append_right}
use Rattle.fs_hart.proofs.HartFaults.{more_lists, no_more_lists, none_sooner, astray_by}

module _ (t : Test) (hart : ℕ) (sets : List (List ℕ)) where
  abbrev start : Hart
  start = start_with (registers_of t hart)

  abbrev IsFrom : End → Type 0
  IsFrom e = IsEndFrom (length t.locations) (code_of t hart) sets start e

  ends_so : (steps : List Step) (astray : Option ℕ) → AreSteps (length t.locations) (code_of t hart) start steps → EndsAt (length t.locations) (code_of t hart) (hart_after start steps) astray → EndsSo t hart (choices_of steps) steps astray
  ends_so steps None r f = ((r, f), refl)
  ends_so steps (Some at) r f = (r, ([], sym (append-nil (choices_of steps)), (f.0, f.1, (f.2, f.3))))

  runs_so : (steps : List Step) (astray : Option ℕ) → EndsSo t hart (choices_of steps) steps astray → AreSteps (length t.locations) (code_of t hart) start steps
  runs_so steps None f = f.0.0
  runs_so steps (Some at) f = f.0

  ends_at : (steps : List Step) (astray : Option ℕ) → EndsSo t hart (choices_of steps) steps astray → EndsAt (length t.locations) (code_of t hart) (hart_after start steps) astray
  ends_at steps None f = f.0.1
  ends_at steps (Some at) f = let s = f.1.2 in (s.0, s.1, s.2.0, s.2.1)

  is_end : (e : End) → IsFrom e → IsEnd t hart sets e
  is_end e f = record { ends = ends_so e.steps e.astray f.runs f.ends; offered = f.offered }

  end_from : (e : End) → IsEnd t hart sets e → IsFrom e
  end_from e f = record { runs = runs_so e.steps e.astray f.ends; offered = f.offered; ends = ends_at e.steps e.astray f.ends }

  rising : (ends : List End) → Rises ends → AllPairs IsEarlier ends
  rising [] r = λ i j d l m. absurd (omega arith)
  rising (e ∷ es) r = AllPairs-cons IsEarlier e es r.0 (rising es r.1)

  contained : (ends : List End) (e : End) → IsOf ends e → Contains ends e
  contained [] e p = absurd p
  contained (x ∷ xs) e p = elim p [ inl q ↦ (0, omega arith, sym q) | inr q ↦ Contains-append_right (x ∷ []) xs e (contained xs e q) ]

  are_ends : (ends : List End) → AreEndsFrom (length t.locations) (code_of t hart) sets start ends → AreEnds t hart sets ends
  are_ends ends a = record { each = all_of (IsEnd t hart sets) ends (λ e p. is_end e (of_all IsFrom ends e a.each p)); rising = rising ends a.rising }

  listing : (ends : List End) → ListsFrom (length t.locations) (code_of t hart) sets start ends → IsListing t hart sets ends
  listing ends a = record { different = are_ends ends a.different; all = λ e f. contained ends e (a.all e (end_from e f)) }

  -- ---- which go astray

  none_left : (a b : Option ℕ) → None ≡ option_or a b → (a ≡ None) × (b ≡ None)
  none_left None b e = (refl, sym e)
  none_left (Some x) b e = absurd (cc)

  all_whole : (ends : List End) → None ≡ first_astray ends → All (λ e. e.astray ≡ None) ends
  all_whole [] e = All-nil _
  all_whole (x ∷ xs) e = let parts = none_left x.astray (first_astray xs) e in All-cons (λ d. d.astray ≡ None) x xs parts.0 (all_whole xs (sym parts.1))

  all_traces : (ends : List End) → None ≡ first_astray ends → whole_traces t hart ends ≡ map (trace_at t hart) ends
  all_traces [] e = refl
  all_traces (x ∷ xs) e =
      let parts = none_left x.astray (first_astray xs) e in
      let whole : is_whole x ≡ true = rw parts.0 refl in
      rw whole (ap (λ ts. trace_at t hart x ∷ ts) (all_traces xs (sym parts.1)))

  record Split (at : ℕ) (ends : List End) : Type 0 where
    pub before : List End
    pub here : End
    pub later : List End
    pub ends_are : ends ≡ before ++ here ∷ later
    pub whole : All (λ e. e.astray ≡ None) before
    pub place : here.astray ≡ Some at

  split_cons : (at : ℕ) (x : End) (xs : List End) (astray : Option ℕ) → x.astray ≡ astray → Some at ≡ option_or astray (first_astray xs) → (Some at ≡ first_astray xs → Split at xs) → Split at (x ∷ xs)
  split_cons at x xs None p e go =
      let rest = go e in
      record { before = x ∷ rest.before; here = rest.here; later = rest.later; ends_are = ap (λ es. x ∷ es) rest.ends_are; whole = All-cons (λ d. d.astray ≡ None) x rest.before p rest.whole; place = rest.place }
  split_cons at x xs (Some place) p e go = record { before = []; here = x; later = xs; ends_are = refl; whole = All-nil (λ d. d.astray ≡ None); place = p ∙ sym e }

  split : (at : ℕ) (ends : List End) → Some at ≡ first_astray ends → Split at ends
  split at [] e = absurd (cc)
  split at (x ∷ xs) e = split_cons at x xs x.astray refl e (split at xs)

  after_none : (ends : List End) → map (after []) ends ≡ ends
  after_none [] = refl
  after_none (x ∷ xs) = ap (λ es. x ∷ es) (after_none xs)

  pub traces_found : (old new : Walk) (h : Hart) → h ≡ start → Explores t hart sets h old new → old.path.items ≡ [] → old.traces.items ≡ [] → old.ends ≡ 0 → old.astray ≡ None → new.ends ≤ 100000 → new.astray ≡ None → AreTraces t hart sets new.traces.items
  traces_found old new h at_start found p r n a few none =
      let x = subst (λ g. Explores t hart sets g old new) at_start found in
      let first : None ≡ first_astray x.ends = sym none ∙ x.adds.first ∙ ap (λ o. option_or o (first_astray x.ends)) a in
      record {
        ends = x.ends;
        listing = listing x.ends x.lists;
        few = (let m = x.adds.number in omega arith);
        whole = all_whole x.ends first;
        runs = x.adds.runs ∙ ap (λ ts. ts ++ whole_traces t hart (map (after old.path.items) x.ends)) r ∙ ap (λ path. whole_traces t hart (map (after path) x.ends)) p ∙ ap (whole_traces t hart) (after_none x.ends) ∙ all_traces x.ends first;
      }

  first_found : (at : ℕ) (ends : List End) → ListsFrom (length t.locations) (code_of t hart) sets start ends → Split at ends → IsFirstAstray t (IsOffered sets) hart at
  first_found at ends lists parts =
      let found = subst (ListsFrom (length t.locations) (code_of t hart) sets start) parts.ends_are lists in
      let ends_are = are_ends (parts.before ++ parts.here ∷ parts.later) found.different in
      let here = of_all (IsEnd t hart sets) (parts.before ++ parts.here ∷ parts.later) parts.here ends_are.each (of_append_right parts.before (parts.here ∷ parts.later) parts.here (inl refl)) in (
        choices_of parts.here.steps,
        astray_by t hart sets parts.here at here parts.place,
        none_sooner t hart sets parts.before parts.here parts.later found.different.rising parts.whole (λ e f. found.all e (end_from e f)),
      )

  pub astray_found : (old new : Walk) (at : ℕ) (h : Hart) → h ≡ start → Explores t hart sets h old new → old.ends ≡ 0 → old.astray ≡ None → new.ends ≤ 100000 → new.astray ≡ Some at
      → IsHartFault t (IsOffered sets) hart (Astray hart at)
  astray_found old new at h at_start found n a few some =
      let x = subst (λ g. Explores t hart sets g old new) at_start found in
      let first : Some at ≡ first_astray x.ends = sym some ∙ x.adds.first ∙ ap (λ o. option_or o (first_astray x.ends)) a in
      let size : length x.ends ≤ most_choice_lists = (let m = x.adds.number in omega arith) in
      (refl, no_more_lists t hart sets x.ends (λ e f. x.lists.all e (end_from e f)) size, first_found at x.ends x.lists (split at x.ends first))

  pub too_many : (before : ℕ) → before ≡ 0 → Overflows (length t.locations) (code_of t hart) sets start before → IsHartFault t (IsOffered sets) hart TooManyTraces
  too_many before n x = more_lists t hart sets x.ends x.different.rising (are_ends x.ends x.different).each (let m = x.many in omega arith)

pub why_none : (t : Test) (hart : ℕ) (sets : List (List ℕ)) (before : ℕ) (fault : Fault) → before ≡ 0 → IsCut t hart sets (start_with (registers_of t hart)) before fault → IsTraceFault t hart sets fault
why_none t hart sets before TooManyTraces n x = too_many t hart sets before n x
why_none t hart sets before Memory n x = tt
why_none t hart sets before (Astray at_hart at) n x = absurd x
why_none t hart sets before _ n x = x
