-- The walk from one state: its leaves, its children, and its end.
use Rattle.std.proofs.Common.{◌≡◌, ℕ, ◌+◌, ◌<◌, ◌≤◌, ◌⊎◌, Result, Ok, Err, Option, None, Some, List, [], ◌∷◌, ◌++◌, map, take, length, get_or, refl, ap, sym, subst, ◌∙◌, arith, inl, inr, All}
use Rattle.std.specs.Prelude.{slice_get, OnOk, IfErr, IsErrAnd}
use Rattle.std.specs.Option.{option_or, option_to_list}
use Rattle.std.specs.List.{Contains}
use Rattle.std.specs.List.Sorted.{IsStrictlyIncreasing}
use Rattle.std.proofs.lemmas.List.{append-nil, get_or_default, take_more, take_all, length-append, length-map}
use Rattle.fs_kinds.specs.declared.fault.Fault.{Fault}
use Rattle.fs_kinds.specs.declared.fault.Fault.TheVariants.{TooManyTraces, Memory}
use Rattle.fs_instr.specs.declared.instr.Instr.{Instr}
use Rattle.fs_model.specs.declared.test.Test.{Test}
use Rattle.fs_model.specs.declared.hart.Hart.{Hart}
use Rattle.fs_model.specs.declared.step.Step.{Step}
use Rattle.fs_model.specs.declared.step.Choice.{Choice}
use Rattle.fs_model.specs.declared.step.Stop.{Stop}
use Rattle.fs_model.specs.Trace.{start_with, hart_after, after_step}
use Rattle.fs_model.specs.Choices.{Makes, StopsAt, GoesAstray, choice_by}
use Rattle.fs_model.specs.Execution.{code_of, registers_of}
use Rattle.fs_hart.specs.declared.trace.Trace.{Trace}
use Rattle.fs_hart.specs.declared.walk.Walk.{Walk}
use Rattle.fs_hart.specs.Runs.{registers_after}
use Rattle.fs_hart.specs.Listing.{End, trace_at}
use Rattle.fs_hart.specs.inner.Walking.{Explores, IsCut, ListsFrom, after, options}
use Rattle.fs_hart.proofs.Along.{is_step}
use Rattle.fs_hart.proofs.Options.{OptionBefore, options_rise, before_place, option_loads, option_chosen, no_step_stopped}
use Rattle.fs_hart.proofs.Ends.{Tried, whole_leaf, astray_leaf, tried_none, tried_more, tried_skipped, tried_all, ends_more}
use Rattle.fs_hart.proofs.Adding.{Tries, adds_none, adds_more}

pub on_both : {T E : Type 0} (A B P : Type 0) (r : Result T E) → OnOk r A → OnOk r B → (A → B → P) → OnOk r P
on_both A B P (Ok x) a b f = f a b
on_both A B P (Err e) a b f = a

pub if_err : {T E : Type 0} (P Q : E → Type 0) (r : Result T E) → IfErr r P → ((e : E) → P e → Q e) → IfErr r Q
if_err P Q (Ok x) p f = p
if_err P Q (Err e) p f = f e p

pub err_part : {T E : Type 0} (P : E → Type 0) (r : Result T E) → IfErr r P → ((x : T) → r ≡ Ok x → ⊥) → (e : E) × P e
err_part P (Ok x) p f = absurd (f x refl)
err_part P (Err e) p f = (e, p)

abbrev leaf : Option ℕ → End
leaf astray = record { steps = []; astray = astray }

abbrev trace : List Step → List ℕ → Trace
trace steps registers = record { steps = steps; registers = registers }

trace_here : (t : Test) (hart : ℕ) (h : Hart) (path : List Step) → h ≡ hart_after (start_with (registers_of t hart)) path → trace path h.registers ≡ trace_at t hart (after path (leaf None))
trace_here t hart h path on =
    let whole : path ≡ path ++ [] = sym (append-nil path) in
    ap (λ g. trace path g.registers) on ∙ ap (λ steps. trace steps (registers_after t hart steps)) whole

or_none : (a : Option ℕ) → a ≡ option_or a None
or_none None = refl
or_none (Some x) = refl

pub whole_explores : (t : Test) (hart : ℕ) (sets : List (List ℕ)) (h : Hart) (old new : Walk) → length (code_of t hart) ≤ h.at → h ≡ hart_after (start_with (registers_of t hart)) old.path.items
    → new.path.items ≡ old.path.items → new.astray ≡ old.astray → new.ends ≡ old.ends + 1 → new.traces.items ≡ old.traces.items ++ trace old.path.items h.registers ∷ []
    → Explores t hart sets h old new
whole_explores t hart sets h old new past on p a e r = record {
  ends = leaf None ∷ [];
  lists = whole_leaf (length t.locations) (code_of t hart) sets h past;
  adds = record { path = p; runs = r ∙ ap (λ x. old.traces.items ++ x ∷ []) (trace_here t hart h old.path.items on); number = e; first = a ∙ or_none old.astray };
}

pub astray_explores : (t : Test) (hart : ℕ) (sets : List (List ℕ)) (h : Hart) (i : Instr) (old new : Walk) → slice_get (code_of t hart) h.at ≡ Some i → GoesAstray (length t.locations) h i
    → new.path.items ≡ old.path.items → new.traces.items ≡ old.traces.items → new.astray ≡ option_or old.astray (Some h.at) → new.ends ≡ old.ends + 1
    → Explores t hart sets h old new
astray_explores t hart sets h i old new at g p r a e = record {
  ends = leaf (Some h.at) ∷ [];
  lists = astray_leaf (length t.locations) (code_of t hart) sets h i at g;
  adds = record { path = p; runs = r ∙ sym (append-nil old.traces.items); number = e; first = a };
}

-- one end more than may be
pub one_too_many : (t : Test) (hart : ℕ) (sets : List (List ℕ)) (h : Hart) (before : ℕ) (e : End) → ListsFrom (length t.locations) (code_of t hart) sets h (e ∷ []) → before ≡ 100000
    → IsCut t hart sets h before TooManyTraces
one_too_many t hart sets h before e l full = record { ends = e ∷ []; different = l.different; many = omega arith }

pub tries_none : (t : Test) (hart : ℕ) (sets : List (List ℕ)) (h : Hart) (w : Walk) → Tries t hart sets h [] w w
tries_none t hart sets h w = record { ends = []; tried = tried_none (length t.locations) (code_of t hart) sets h; adds = adds_none t hart w }

past_before : (sets : List (List ℕ)) (h : Hart) (i : Instr) (k : ℕ) (c : Option Choice) → All IsStrictlyIncreasing sets → k < length (options sets h i) → c ≡ get_or (options sets h i) k c
    → (o : Option Choice) → Contains (take k (options sets h i)) o → OptionBefore o c
past_before sets h i k c rise l at o p = subst (OptionBefore o) (sym at) (before_place (options sets h i) k c o (options_rise sets h i rise) l p)

-- a child whose ends are all found
pub tries_more : (t : Test) (hart : ℕ) (sets : List (List ℕ)) (h : Hart) (i : Instr) (c : Option Choice) (k : ℕ) (s : Step) (old mid pushed grown new : Walk)
    → All IsStrictlyIncreasing sets → slice_get (code_of t hart) h.at ≡ Some i → k < length (options sets h i) → c ≡ get_or (options sets h i) k c → Makes (length t.locations) h i c s
    → Tries t hart sets h (take k (options sets h i)) old mid → pushed.path.items ≡ mid.path.items ++ s ∷ [] → pushed.traces.items ≡ mid.traces.items → pushed.ends ≡ mid.ends → pushed.astray ≡ mid.astray
    → Explores t hart sets (after_step h s) pushed grown → new.path.items ≡ mid.path.items → new.traces.items ≡ grown.traces.items → new.ends ≡ grown.ends → new.astray ≡ grown.astray
    → Tries t hart sets h (take (k + 1) (options sets h i)) old new
tries_more t hart sets h i c k s old mid pushed grown new rise at l there m a p1 p2 p3 p4 b q1 q2 q3 q4 =
    let n = length t.locations in
    let code = code_of t hart in
    let os = options sets h i in
    let among : Contains os c = (k, l, sym there) in
    let more = tried_more n code sets h i (take k os) c s a.ends b.ends (past_before sets h i k c rise l there) at m (is_step n code h i c s at m) (option_loads n sets h i c s m among) (option_chosen n sets h i c s m among) a.tried b.lists in
    let grow : take k os ++ c ∷ [] ≡ take (k + 1) os = ap (λ x. take k os ++ x ∷ []) there ∙ sym (take_more os k c l) in
    record {
      ends = a.ends ++ map (after (s ∷ [])) b.ends;
      tried = subst (λ xs. Tried n code sets h xs (a.ends ++ map (after (s ∷ [])) b.ends)) grow more;
      adds = adds_more t hart a.ends b.ends s old mid pushed grown new a.adds p1 p2 p3 p4 b.adds q1 q2 q3 q4;
    }

-- an option that stops
pub tries_skipped : (t : Test) (hart : ℕ) (sets : List (List ℕ)) (h : Hart) (i : Instr) (c : Option Choice) (k : ℕ) (stop : Stop) (old mid : Walk)
    → slice_get (code_of t hart) h.at ≡ Some i → k < length (options sets h i) → c ≡ get_or (options sets h i) k c → StopsAt (length t.locations) h i (option_to_list c) stop
    → Tries t hart sets h (take k (options sets h i)) old mid → Tries t hart sets h (take (k + 1) (options sets h i)) old mid
tries_skipped t hart sets h i c k stop old mid at l there b a =
    let n = length t.locations in
    let code = code_of t hart in
    let os = options sets h i in
    let more = tried_skipped n code sets h (take k os) c a.ends (λ s r chosen. no_step_stopped n code h i c stop s at b r chosen) a.tried in
    let grow : take k os ++ c ∷ [] ≡ take (k + 1) os = ap (λ x. take k os ++ x ∷ []) there ∙ sym (take_more os k c l) in
    record { ends = a.ends; tried = subst (λ xs. Tried n code sets h xs a.ends) grow more; adds = a.adds }

-- a child with too many ends
pub child_cut : (t : Test) (hart : ℕ) (sets : List (List ℕ)) (h : Hart) (i : Instr) (c : Option Choice) (k : ℕ) (s : Step) (old mid : Walk) (count : ℕ) (fault : Fault)
    → All IsStrictlyIncreasing sets → slice_get (code_of t hart) h.at ≡ Some i → k < length (options sets h i) → c ≡ get_or (options sets h i) k c → Makes (length t.locations) h i c s
    → Tries t hart sets h (take k (options sets h i)) old mid → count ≡ mid.ends → IsCut t hart sets (after_step h s) count fault → IsCut t hart sets h old.ends fault
child_cut t hart sets h i c k s old mid count TooManyTraces rise at l there m a e b =
    let n = length t.locations in
    let code = code_of t hart in
    let os = options sets h i in
    let among : Contains os c = (k, l, sym there) in
    let chosen : choice_by s.instr s ≡ c = ap (λ j. choice_by j s) m.instr ∙ option_chosen n sets h i c s m among in
    record {
      ends = a.ends ++ map (after (s ∷ [])) b.ends;
      different = ends_more n code sets h (take k os) c s a.ends b.ends (past_before sets h i k c rise l there) (is_step n code h i c s at m) (option_loads n sets h i c s m among) chosen a.tried.different a.tried.start b.different;
      many = (let many = b.many in let f = a.adds.number in let g = length-append a.ends (map (after (s ∷ [])) b.ends) in let j = length-map b.ends (after (s ∷ [])) in omega arith);
    }
child_cut t hart sets h i c k s old mid count Memory rise at l there m a e b = tt
child_cut t hart sets h i c k s old mid count _ rise at l there m a e b = b

-- all children
pub tries_all : (t : Test) (hart : ℕ) (sets : List (List ℕ)) (h : Hart) (i : Instr) (k : ℕ) (old new : Walk) → slice_get (code_of t hart) h.at ≡ Some i → (GoesAstray (length t.locations) h i → ⊥)
    → length (options sets h i) ≤ k → Tries t hart sets h (take k (options sets h i)) old new → Explores t hart sets h old new
tries_all t hart sets h i k old new at on l a = record {
  ends = a.ends;
  lists = tried_all (length t.locations) (code_of t hart) sets h i a.ends at on (subst (λ os. Tried (length t.locations) (code_of t hart) sets h os a.ends) (take_all k (options sets h i) l) a.tried);
  adds = a.adds;
}

-- ---- the same of the locations and the options that the program reads

pub record Reads (t : Test) (hart : ℕ) (sets : List (List ℕ)) (h : Hart) (n : ℕ) (os : List (Option Choice)) (i : Instr) : Type 0 where
  pub at : slice_get (code_of t hart) h.at ≡ Some i
  pub options_are : os ≡ options sets h i
  pub locations : n ≡ length t.locations

read_inside : (t : Test) (hart : ℕ) (sets : List (List ℕ)) (h : Hart) (n : ℕ) (os : List (Option Choice)) (i : Instr) (k : ℕ) → Reads t hart sets h n os i → k < length os → k < length (options sets h i)
read_inside t hart sets h n os i k r l = subst (λ xs. k < length xs) r.options_are l

read_option : (os : List (Option Choice)) (k : ℕ) → k < length os → get_or os k None ≡ get_or os k (get_or os k None)
read_option os k l = get_or_default os k None (get_or os k None) l

read_makes : (t : Test) (hart : ℕ) (sets : List (List ℕ)) (h : Hart) (n : ℕ) (os : List (Option Choice)) (i : Instr) (k : ℕ) (s : Step) → Reads t hart sets h n os i
    → Makes n h i (get_or os k None) s → Makes (length t.locations) h i (get_or (options sets h i) k None) s
read_makes t hart sets h n os i k s r m = subst (λ xs. Makes (length t.locations) h i (get_or xs k None) s) r.options_are (subst (λ x. Makes x h i (get_or os k None) s) r.locations m)

pub read_more : (t : Test) (hart : ℕ) (sets : List (List ℕ)) (h : Hart) (n : ℕ) (os : List (Option Choice)) (i : Instr) (k : ℕ) (s : Step) (old mid pushed grown new : Walk) (g : Hart)
    → Reads t hart sets h n os i → All IsStrictlyIncreasing sets → k < length os → Makes n h i (get_or os k None) s
    → Tries t hart sets h (take k os) old mid → pushed.path.items ≡ mid.path.items ++ s ∷ [] → pushed.traces.items ≡ mid.traces.items → pushed.ends ≡ mid.ends → pushed.astray ≡ mid.astray
    → g ≡ after_step h s → Explores t hart sets g pushed grown → new.path.items ≡ mid.path.items → new.traces.items ≡ grown.traces.items → new.ends ≡ grown.ends → new.astray ≡ grown.astray
    → Tries t hart sets h (take (k + 1) os) old new
read_more t hart sets h n os i k s old mid pushed grown new g r rise l m a p1 p2 p3 p4 e b q1 q2 q3 q4 =
    let inside = read_inside t hart sets h n os i k r l in
    let all = options sets h i in
    subst (λ xs. Tries t hart sets h (take (k + 1) xs) old new) (sym r.options_are)
    (tries_more t hart sets h i (get_or all k None) k s old mid pushed grown new rise r.at inside (read_option all k inside) (read_makes t hart sets h n os i k s r m)
    (subst (λ xs. Tries t hart sets h (take k xs) old mid) r.options_are a) p1 p2 p3 p4 (subst (λ x. Explores t hart sets x pushed grown) e b) q1 q2 q3 q4)

pub read_skipped : (t : Test) (hart : ℕ) (sets : List (List ℕ)) (h : Hart) (n : ℕ) (os : List (Option Choice)) (i : Instr) (k : ℕ) (stop : Stop) (old mid : Walk)
    → Reads t hart sets h n os i → k < length os → StopsAt n h i (option_to_list (get_or os k None)) stop
    → Tries t hart sets h (take k os) old mid → Tries t hart sets h (take (k + 1) os) old mid
read_skipped t hart sets h n os i k stop old mid r l b a =
    let inside = read_inside t hart sets h n os i k r l in
    let all = options sets h i in
    subst (λ xs. Tries t hart sets h (take (k + 1) xs) old mid) (sym r.options_are)
    (tries_skipped t hart sets h i (get_or all k None) k stop old mid r.at inside (read_option all k inside)
    (subst (λ xs. StopsAt (length t.locations) h i (option_to_list (get_or xs k None)) stop) r.options_are (subst (λ x. StopsAt x h i (option_to_list (get_or os k None)) stop) r.locations b))
    (subst (λ xs. Tries t hart sets h (take k xs) old mid) r.options_are a))

pub read_cut : (t : Test) (hart : ℕ) (sets : List (List ℕ)) (h : Hart) (n : ℕ) (os : List (Option Choice)) (i : Instr) (k : ℕ) (s : Step) (old mid : Walk) (fault : Fault)
    → Reads t hart sets h n os i → All IsStrictlyIncreasing sets → k < length os → Makes n h i (get_or os k None) s
    → Tries t hart sets h (take k os) old mid → IsCut t hart sets (after_step h s) mid.ends fault → IsCut t hart sets h old.ends fault
read_cut t hart sets h n os i k s old mid fault r rise l m a b =
    let inside = read_inside t hart sets h n os i k r l in
    let all = options sets h i in
    child_cut t hart sets h i (get_or all k None) k s old mid mid.ends fault rise r.at inside (read_option all k inside) (read_makes t hart sets h n os i k s r m)
    (subst (λ xs. Tries t hart sets h (take k xs) old mid) r.options_are a) refl b

pub read_all : (t : Test) (hart : ℕ) (sets : List (List ℕ)) (h : Hart) (n : ℕ) (os : List (Option Choice)) (i : Instr) (k : ℕ) (old new : Walk)
    → Reads t hart sets h n os i → (GoesAstray n h i → ⊥) → length os ≤ k → Tries t hart sets h (take k os) old new → Explores t hart sets h old new
read_all t hart sets h n os i k old new r on l a =
    tries_all t hart sets h i k old new r.at (subst (λ x. GoesAstray x h i → ⊥) r.locations on) (subst (λ xs. length xs ≤ k) r.options_are l) (subst (λ xs. Tries t hart sets h (take k xs) old new) r.options_are a)

pub handed : {T : Type 0} (r : Result T Fault) (fault : Fault) (P : Fault → Type 0) → IsErrAnd r (λ f. f ≡ fault) → P fault → IfErr r P
handed (Ok x) fault P h p = tt
handed (Err f) fault P h p = subst P (sym h) p

pub whole_cut : (t : Test) (hart : ℕ) (sets : List (List ℕ)) (h : Hart) (before : ℕ) (fault : Fault) → length (code_of t hart) ≤ h.at → (fault ≡ Memory) ⊎ ((fault ≡ TooManyTraces) × (before ≡ 100000)) → IsCut t hart sets h before fault
whole_cut t hart sets h before fault past e = elim e [
  | inl m ↦ subst (IsCut t hart sets h before) (sym m) tt
  | inr m ↦ subst (IsCut t hart sets h before) (sym m.0) (one_too_many t hart sets h before (leaf None) (whole_leaf (length t.locations) (code_of t hart) sets h past) m.1)
]

pub astray_cut : (t : Test) (hart : ℕ) (sets : List (List ℕ)) (h : Hart) (i : Instr) (before : ℕ) (fault : Fault) → slice_get (code_of t hart) h.at ≡ Some i → GoesAstray (length t.locations) h i → (fault ≡ TooManyTraces) × (before ≡ 100000) → IsCut t hart sets h before fault
astray_cut t hart sets h i before fault at g m = subst (IsCut t hart sets h before) (sym m.0) (one_too_many t hart sets h before (leaf (Some h.at)) (astray_leaf (length t.locations) (code_of t hart) sets h i at g) m.1)
