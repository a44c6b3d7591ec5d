-- Ends from a state on: of the leaves of the walk, and of a state by those of the states that follow.
use Rattle.std.proofs.Common.{◌≡◌, ℕ, suc, ◌<◌, ◌≤◌, Option, None, Some, List, [], ◌∷◌, ◌++◌, map, length, refl, ap, sym, subst, ◌∙◌, arith, inl, inr, All}
use Rattle.std.specs.Prelude.{slice_get}
use Rattle.std.specs.Option.{option_to_list}
use Rattle.std.specs.List.{Contains}
use Rattle.std.proofs.lemmas.Option.{slice_get_past}
use Rattle.std.proofs.lemmas.List.Elements.{All-nil, All-cons, All-append, All-map, Contains-append_left, Contains-append_right, Contains-append_cases}
use Rattle.fs_instr.specs.declared.instr.Instr.{Instr}
use Rattle.fs_model.specs.declared.hart.Hart.{Hart}
use Rattle.fs_model.specs.declared.step.Step.{Step}
use Rattle.fs_model.specs.declared.step.Choice.{Choice}
use Rattle.fs_model.specs.declared.step.Stop.TheVariants.{Astray}
use Rattle.fs_model.specs.Trace.{AreSteps, IsStep, after_step, hart_after}
use Rattle.fs_model.specs.Choices.{ComesBefore, Makes, GoesAstray, choice_by, choices_of}
use Rattle.fs_model.specs.Values.{LoadsOne}
use Rattle.fs_model.proofs.Runs.{made, no_step, same_instr}
use Rattle.fs_model.proofs.Stepping.{made_once}
use Rattle.fs_model.proofs.Stops.{at_step}
use Rattle.fs_hart.specs.Listing.{End, IsEarlier, IsOffered}
use Rattle.fs_hart.specs.inner.Walking.{IsEndFrom, EndsAt, Rises, IsOf, AreEndsFrom, ListsFrom, after, options}
use Rattle.fs_hart.proofs.Options.{OptionBefore, in_one, step_offered}

same_end : (e d : End) → e.steps ≡ d.steps → e.astray ≡ d.astray → e ≡ d
same_end e d p q = let whole : record { steps = e.steps; astray = e.astray } ≡ record { steps = d.steps; astray = d.astray } = cc in whole

abbrev leaf : Option ℕ → End
leaf astray = record { steps = []; astray = astray }

-- at the end of the code
pub whole_leaf : (n : ℕ) (code : List Instr) (sets : List (List ℕ)) (h : Hart) → length code ≤ h.at → ListsFrom n code sets h (leaf None ∷ [])
whole_leaf n code sets h past = record {
  different = record {
    each = All-cons (IsEndFrom n code sets h) (leaf None) [] (record { runs = tt; offered = All-nil _; ends = past }) (All-nil _);
    rising = (All-nil _, tt);
  };
  all = λ e f. only e f;
}
  where
    only_steps : (steps : List Step) (astray : Option ℕ) → AreSteps n code h steps → EndsAt n code (hart_after h steps) astray → (steps ≡ []) × (astray ≡ None)
    only_steps [] None r f = (refl, refl)
    only_steps [] (Some at) r f = absurd (let both : None ≡ Some f.0 = sym (slice_get_past code h.at past) ∙ f.1 in cc)
    only_steps (s ∷ ss) astray r f = absurd (no_step n code h s past r.0)

    only : (e : End) → IsEndFrom n code sets h e → IsOf (leaf None ∷ []) e
    only e f = let parts = only_steps e.steps e.astray f.runs f.ends in inl (same_end e (leaf None) parts.0 parts.1)

pub no_step_astray : (n : ℕ) (code : List Instr) (h : Hart) (i : Instr) (s : Step) → slice_get code h.at ≡ Some i → GoesAstray n h i → IsStep n code h s → ⊥
no_step_astray n code h i s e g r = at_step n code h s [] (Astray h.at) r (i, e, (refl, g))

-- where the instruction goes astray
pub astray_leaf : (n : ℕ) (code : List Instr) (sets : List (List ℕ)) (h : Hart) (i : Instr) → slice_get code h.at ≡ Some i → GoesAstray n h i → ListsFrom n code sets h (leaf (Some h.at) ∷ [])
astray_leaf n code sets h i at g = record {
  different = record {
    each = All-cons (IsEndFrom n code sets h) (leaf (Some h.at)) [] (record { runs = tt; offered = All-nil _; ends = (i, at, refl, g) }) (All-nil _);
    rising = (All-nil _, tt);
  };
  all = λ e f. only e f;
}
  where
    only_steps : (steps : List Step) (astray : Option ℕ) → AreSteps n code h steps → EndsAt n code (hart_after h steps) astray → (steps ≡ []) × (astray ≡ Some h.at)
    only_steps [] None r f = absurd (let both : None ≡ Some i = sym (slice_get_past code h.at f) ∙ at in cc)
    only_steps [] (Some place) r f = (refl, ap (λ x. Some x) f.2)
    only_steps (s ∷ ss) astray r f = absurd (no_step_astray n code h i s at g r.0)

    only : (e : End) → IsEndFrom n code sets h e → IsOf (leaf (Some h.at) ∷ []) e
    only e f = let parts = only_steps e.steps e.astray f.runs f.ends in inl (same_end e (leaf (Some h.at)) parts.0 parts.1)

-- ---- lists of ends

pub of_append_left : (xs ys : List End) (e : End) → IsOf xs e → IsOf (xs ++ ys) e
of_append_left [] ys e p = absurd p
of_append_left (x ∷ xs) ys e p = elim p [ inl q ↦ inl q | inr q ↦ inr (of_append_left xs ys e q) ]

pub of_append_right : (xs ys : List End) (e : End) → IsOf ys e → IsOf (xs ++ ys) e
of_append_right [] ys e p = p
of_append_right (x ∷ xs) ys e p = inr (of_append_right xs ys e p)

of_map : (f : End → End) (xs : List End) (e : End) → IsOf xs e → IsOf (map f xs) (f e)
of_map f [] e p = absurd p
of_map f (x ∷ xs) e p = elim p [ inl q ↦ inl (ap f q) | inr q ↦ inr (of_map f xs e q) ]

pub all_of : (P : End → Type 0) (xs : List End) → ((e : End) → IsOf xs e → P e) → All P xs
all_of P [] f = All-nil P
all_of P (x ∷ xs) f = All-cons P x xs (f x (inl refl)) (all_of P xs (λ e p. f e (inr p)))

pub all_head : (P : End → Type 0) (x : End) (xs : List End) → All P (x ∷ xs) → P x
all_head P x xs a = a 0 x (omega arith)

pub all_tail : (P : End → Type 0) (x : End) (xs : List End) → All P (x ∷ xs) → All P xs
all_tail P x xs a = λ k d l. a (suc k) d (let m : k < length xs = l in omega arith)

pub of_all : (P : End → Type 0) (xs : List End) (e : End) → All P xs → IsOf xs e → P e
of_all P [] e a p = absurd p
of_all P (x ∷ xs) e a p = elim p [ inl q ↦ subst P (sym q) (all_head P x xs a) | inr q ↦ of_all P xs e (all_tail P x xs a) q ]

rises_append : (xs ys : List End) → Rises xs → Rises ys → ((a b : End) → IsOf xs a → IsOf ys b → IsEarlier a b) → Rises (xs ++ ys)
rises_append [] ys r q f = q
rises_append (x ∷ xs) ys r q f = (All-append (IsEarlier x) xs ys r.0 (all_of (IsEarlier x) ys (λ b p. f x b (inl refl) p)), rises_append xs ys r.1 q (λ a b p o. f a b (inr p) o))

-- ---- a step before the ends

comes_after : (o : Option Choice) (xs ys : List Choice) → ComesBefore xs ys → ComesBefore (option_to_list o ++ xs) (option_to_list o ++ ys)
comes_after None xs ys p = p
comes_after (Some x) xs ys p = inr (refl, p)

earlier_after : (s : Step) (a b : End) → IsEarlier a b → IsEarlier (after (s ∷ []) a) (after (s ∷ []) b)
earlier_after s a b p = comes_after (choice_by s.instr s) (choices_of a.steps) (choices_of b.steps) p

rises_after : (s : Step) (xs : List End) → Rises xs → Rises (map (after (s ∷ [])) xs)
rises_after s [] r = tt
rises_after s (x ∷ xs) r =
    (All-map (IsEarlier (after (s ∷ []) x)) (after (s ∷ [])) xs (all_of (λ b. IsEarlier (after (s ∷ []) x) (after (s ∷ []) b)) xs (λ b p. earlier_after s x b (of_all (IsEarlier x) xs b r.0 p))), rises_after s xs r.1)

chosen_before : (a b : Option Choice) (xs ys : List Choice) → OptionBefore a b → ComesBefore (option_to_list a ++ xs) (option_to_list b ++ ys)
chosen_before a b xs ys p = rw (p.a_is, p.b_is) (inl p.before)

-- ---- the ends that begin with some of the options

pub record StartsWith (os : List (Option Choice)) (e : End) : Type 0 where
  pub step : Step
  pub rest : List Step
  pub steps_are : e.steps ≡ step ∷ rest
  pub among : Contains os (choice_by step.instr step)

pub record Tried (n : ℕ) (code : List Instr) (sets : List (List ℕ)) (h : Hart) (os : List (Option Choice)) (ends : List End) : Type 0 where
  pub different : AreEndsFrom n code sets h ends
  pub start : All (StartsWith os) ends
  pub all : (e : End) → IsEndFrom n code sets h e → StartsWith os e → IsOf ends e

pub tried_none : (n : ℕ) (code : List Instr) (sets : List (List ℕ)) (h : Hart) → Tried n code sets h [] []
tried_none n code sets h = record {
  different = record { each = All-nil _; rising = tt };
  start = All-nil _;
  all = λ e f s. absurd (let k = s.among.1 in omega arith);
}

-- the step makes any choice that is its own
chosen_makes : (n : ℕ) (h : Hart) (i : Instr) (c : Option Choice) (s : Step) → Makes n h i (choice_by i s) s → choice_by i s ≡ c → Makes n h i c s
chosen_makes n h i c s m e = subst (λ o. Makes n h i o s) e m

step_end : (n : ℕ) (code : List Instr) (sets : List (List ℕ)) (h : Hart) (s : Step) (e : End) → IsStep n code h s → LoadsOne (IsOffered sets) s → IsEndFrom n code sets (after_step h s) e
    → IsEndFrom n code sets h (after (s ∷ []) e)
step_end n code sets h s e r f g = record { runs = (r, g.runs); offered = All-cons (LoadsOne (IsOffered sets)) s e.steps f g.offered; ends = g.ends }

steps_all : (P : Step → Type 0) (x : Step) (xs : List Step) → All P (x ∷ xs) → P x × All P xs
steps_all P x xs a = (a 0 x (omega arith), λ k d l. a (suc k) d (let m : k < length xs = l in omega arith))

-- the end behind its first step
tail_end : (n : ℕ) (code : List Instr) (sets : List (List ℕ)) (h : Hart) (s : Step) (rest : List Step) (e : End) → e.steps ≡ s ∷ rest → IsEndFrom n code sets h e
    → IsStep n code h s × LoadsOne (IsOffered sets) s × IsEndFrom n code sets (after_step h s) (record { steps = rest; astray = e.astray })
tail_end n code sets h s rest e p f =
    let runs : AreSteps n code h (s ∷ rest) = subst (AreSteps n code h) p f.runs in
    let offered = steps_all (LoadsOne (IsOffered sets)) s rest (subst (All (LoadsOne (IsOffered sets))) p f.offered) in
    let ends : EndsAt n code (hart_after h (s ∷ rest)) e.astray = subst (λ steps. EndsAt n code (hart_after h steps) e.astray) p f.ends in
    (runs.0, offered.0, record { runs = runs.1; offered = offered.1; ends = ends })

more_start : (os : List (Option Choice)) (c : Option Choice) (e : End) → StartsWith os e → StartsWith (os ++ c ∷ []) e
more_start os c e s = record { step = s.step; rest = s.rest; steps_are = s.steps_are; among = Contains-append_left os (c ∷ []) _ s.among }

child_start : (os : List (Option Choice)) (c : Option Choice) (s : Step) (e : End) → choice_by s.instr s ≡ c → StartsWith (os ++ c ∷ []) (after (s ∷ []) e)
child_start os c s e chosen = record { step = s; rest = e.steps; steps_are = refl; among = Contains-append_right os (c ∷ []) _ (0, omega arith, sym chosen) }

-- of different children the ends are in order
pub ordered_child : (os : List (Option Choice)) (c : Option Choice) (s : Step) (subs : List End) (a b : End) → ((o : Option Choice) → Contains os o → OptionBefore o c) → choice_by s.instr s ≡ c
    → StartsWith os a → IsOf (map (after (s ∷ [])) subs) b → IsEarlier a b
ordered_child os c s [] a b past chosen p o = absurd o
ordered_child os c s (x ∷ subs) a b past chosen p o = elim o [
  | inl e ↦ (let earlier : ComesBefore (choices_of (p.step ∷ p.rest)) (choices_of (s ∷ x.steps)) = chosen_before (choice_by p.step.instr p.step) (choice_by s.instr s) (choices_of p.rest) (choices_of x.steps) (subst (OptionBefore _) (sym chosen) (past _ p.among)) in
      let there : b.steps ≡ s ∷ x.steps = ap (λ d. d.steps) e in rw (p.steps_are, there) earlier)
  | inr q ↦ ordered_child os c s subs a b past chosen p q
]

pub ends_more : (n : ℕ) (code : List Instr) (sets : List (List ℕ)) (h : Hart) (os : List (Option Choice)) (c : Option Choice) (s : Step) (ends subs : List End)
    → ((o : Option Choice) → Contains os o → OptionBefore o c) → IsStep n code h s → LoadsOne (IsOffered sets) s → choice_by s.instr s ≡ c
    → AreEndsFrom n code sets h ends → All (StartsWith os) ends → AreEndsFrom n code sets (after_step h s) subs
    → AreEndsFrom n code sets h (ends ++ map (after (s ∷ [])) subs)
ends_more n code sets h os c s ends subs past r f chosen a start b = record {
  each = All-append (IsEndFrom n code sets h) ends (map (after (s ∷ [])) subs) a.each
      (All-map (IsEndFrom n code sets h) (after (s ∷ [])) subs (all_of _ subs (λ e p. step_end n code sets h s e r f (of_all (IsEndFrom n code sets (after_step h s)) subs e b.each p))));
  rising = rises_append ends (map (after (s ∷ [])) subs) a.rising (rises_after s subs b.rising)
      (λ x y p q. ordered_child os c s subs x y past chosen (of_all (StartsWith os) ends x start p) q);
}

-- a child more
pub tried_more : (n : ℕ) (code : List Instr) (sets : List (List ℕ)) (h : Hart) (i : Instr) (os : List (Option Choice)) (c : Option Choice) (s : Step) (ends subs : List End)
    → ((o : Option Choice) → Contains os o → OptionBefore o c) → slice_get code h.at ≡ Some i → Makes n h i c s → IsStep n code h s → LoadsOne (IsOffered sets) s → choice_by i s ≡ c
    → Tried n code sets h os ends → ListsFrom n code sets (after_step h s) subs
    → Tried n code sets h (os ++ c ∷ []) (ends ++ map (after (s ∷ [])) subs)
tried_more n code sets h i os c s ends subs past at m r f by a b =
    let chosen : choice_by s.instr s ≡ c = ap (λ j. choice_by j s) m.instr ∙ by in
    record {
      different = ends_more n code sets h os c s ends subs past r f chosen a.different a.start b.different;
      start = All-append (StartsWith (os ++ c ∷ [])) ends (map (after (s ∷ [])) subs) (all_of (StartsWith (os ++ c ∷ [])) ends (λ e p. more_start os c e (of_all (StartsWith os) ends e a.start p)))
          (All-map (StartsWith (os ++ c ∷ [])) (after (s ∷ [])) subs (all_of (λ e. StartsWith (os ++ c ∷ []) (after (s ∷ []) e)) subs (λ e p. child_start os c s e chosen)));
      all = λ e g p. found e g p;
    }
  where
    here : (e : End) → IsEndFrom n code sets h e → (x : Step) (rest : List Step) → e.steps ≡ x ∷ rest → choice_by x.instr x ≡ c → IsOf (map (after (s ∷ [])) subs) e
    here e g x rest p o =
        let parts = tail_end n code sets h x rest e p g in
        let v = made n code h i x at parts.0 in
        let same : x ≡ s = made_once n h i c x s (chosen_makes n h i c x v (sym (ap (λ j. choice_by j x) v.instr) ∙ o)) m in
        let tail : End = record { steps = rest; astray = e.astray } in
        let below : IsEndFrom n code sets (after_step h s) tail = subst (λ y. IsEndFrom n code sets (after_step h y) tail) same parts.2 in
        subst (IsOf (map (after (s ∷ [])) subs)) (same_end (after (s ∷ []) tail) e (sym (p ∙ ap (λ y. y ∷ rest) same)) refl) (of_map (after (s ∷ [])) subs tail (b.all tail below))

    found : (e : End) → IsEndFrom n code sets h e → StartsWith (os ++ c ∷ []) e → IsOf (ends ++ map (after (s ∷ [])) subs) e
    found e g p = elim (Contains-append_cases os (c ∷ []) _ p.among) [
      | inl o ↦ of_append_left ends _ e (a.all e g (record { step = p.step; rest = p.rest; steps_are = p.steps_are; among = o }))
      | inr o ↦ of_append_right ends _ e (here e g p.step p.rest p.steps_are (in_one c _ o))
    ]

-- an option that no step makes
pub tried_skipped : (n : ℕ) (code : List Instr) (sets : List (List ℕ)) (h : Hart) (os : List (Option Choice)) (c : Option Choice) (ends : List End)
    → ((s : Step) → IsStep n code h s → choice_by s.instr s ≡ c → ⊥) → Tried n code sets h os ends → Tried n code sets h (os ++ c ∷ []) ends
tried_skipped n code sets h os c ends none a = record {
  different = a.different;
  start = all_of (StartsWith (os ++ c ∷ [])) ends (λ e p. more_start os c e (of_all (StartsWith os) ends e a.start p));
  all = λ e g p. elim (Contains-append_cases os (c ∷ []) _ p.among) [
    | inl o ↦ a.all e g (record { step = p.step; rest = p.rest; steps_are = p.steps_are; among = o })
    | inr o ↦ absurd (none p.step (tail_end n code sets h p.step p.rest e p.steps_are g).0 (in_one c _ o))
  ];
}

-- all options
pub tried_all : (n : ℕ) (code : List Instr) (sets : List (List ℕ)) (h : Hart) (i : Instr) (ends : List End) → slice_get code h.at ≡ Some i → (GoesAstray n h i → ⊥)
    → Tried n code sets h (options sets h i) ends → ListsFrom n code sets h ends
tried_all n code sets h i ends at on a = record { different = a.different; all = λ e g. found e.steps e.astray g }
  where
    found : (steps : List Step) (astray : Option ℕ) → IsEndFrom n code sets h (record { steps = steps; astray = astray }) → IsOf ends (record { steps = steps; astray = astray })
    found [] None g = absurd (let both : None ≡ Some i = sym (slice_get_past code h.at g.ends) ∙ at in cc)
    found [] (Some place) g = absurd (on (subst (GoesAstray n h) (same_instr (sym g.ends.1 ∙ at)) g.ends.3))
    found (s ∷ rest) astray g =
        let e : End = record { steps = s ∷ rest; astray = astray } in
        let parts = tail_end n code sets h s rest e refl g in
        a.all e g (record { step = s; rest = rest; steps_are = refl; among = step_offered n code sets h i s at parts.0 parts.1 })
