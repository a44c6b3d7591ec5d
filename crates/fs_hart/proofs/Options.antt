-- The choices that a hart has at an instruction, and the steps that it can make with words of the sets.
use Rattle.std.proofs.Common.{◌≡◌, ℕ, zero, suc, ◌<◌, true, if◌then◌else◌, Option, None, Some, is_some, option_and_then, option_map, List, [], ◌∷◌, ◌++◌, map, length, get_or, take, refl, ap, sym, subst, ◌∙◌, arith, inl, inr, All}
use Rattle.std.specs.Prelude.{slice_get}
use Rattle.std.specs.Option.{option_to_list}
use Rattle.std.specs.List.{AllPairs, Contains, slice_index_or}
use Rattle.std.specs.List.Sorted.{IsStrictlyIncreasing}
use Rattle.std.proofs.lemmas.List.{append-nil, get_or-map, get_or-take, get_or_default, length-map, length-take}
use Rattle.std.proofs.lemmas.List.Elements.{All-nil, All-cons}
use Rattle.std.proofs.lemmas.List.Kept.{AllPairs-cons, AllPairs-from_increasing}
use Rattle.fs_instr.specs.declared.instr.Instr.{Instr}
use Rattle.fs_instr.specs.declared.instr.Instr.TheVariants.{Register, Immediate, Shift, Lui, Li, Lw, Sw, Lr, Sc, Amo, Branch, Jump, Fence, FenceTso, FenceI}
use Rattle.fs_model.specs.Test.{address_of, location_of}
use Rattle.fs_model.proofs.Addresses.{location_of-address}
use Rattle.fs_model.specs.declared.hart.Hart.{Hart}
use Rattle.fs_model.specs.declared.step.Step.{Step}
use Rattle.fs_model.specs.declared.step.Choice.{Choice}
use Rattle.fs_model.specs.declared.step.Choice.TheVariants.{Word, Success, Failure}
use Rattle.fs_model.specs.declared.step.Stop.{Stop}
use Rattle.fs_model.specs.Execute.{address_in}
use Rattle.fs_model.specs.Trace.{IsAtLocation, Accesses, IsStep, IsWord}
use Rattle.fs_model.specs.Choices.{IsBefore, Makes, StopsAt, is_choosing, choice_by}
use Rattle.fs_model.specs.Values.{LoadsOne}
use Rattle.fs_model.proofs.Runs.{same_instr}
use Rattle.fs_model.proofs.Stops.{at_step}
use Rattle.fs_hart.specs.Listing.{IsOffered}
use Rattle.fs_hart.specs.inner.Walking.{options, set_at, set_of, word_choice}
use Rattle.fs_hart.proofs.Along.{stops_in}

-- ---- choice order of the options

pub record OptionBefore (a b : Option Choice) : Type 0 where
  pub first : Choice
  pub second : Choice
  pub a_is : a ≡ Some first
  pub b_is : b ≡ Some second
  pub before : IsBefore first second

no_pairs : {X : Type 0} (R : X → X → Type 0) → AllPairs R []
no_pairs R i j d l m = absurd (omega arith)

one : {X : Type 0} (R : X → X → Type 0) (x : X) → AllPairs R (x ∷ [])
one R x = AllPairs-cons R x [] (All-nil (R x)) (no_pairs R)

words_rise : (ws : List ℕ) → AllPairs (λ x y. x < y) ws → AllPairs OptionBefore (map word_choice ws)
words_rise ws p i j d l m =
    let short : j < length ws = rw length-map at m in
    let low : i < length ws = omega arith in
    rw (get_or-map word_choice ws i 0 d low, get_or-map word_choice ws j 0 d short)
    (record { first = Word (get_or ws i 0); second = Word (get_or ws j 0); a_is = refl; b_is = refl; before = p i j 0 l short })

set_rises : (sets : List (List ℕ)) (k : ℕ) → All IsStrictlyIncreasing sets → IsStrictlyIncreasing (slice_index_or sets k [])
set_rises [] zero a = λ k l. absurd (omega arith)
set_rises [] (suc k) a = λ k l. absurd (omega arith)
set_rises (s ∷ sets) zero a = a 0 [] (omega arith)
set_rises (s ∷ sets) (suc k) a = set_rises sets k (λ i d l. a (suc i) d (let m : i < length sets = l in omega arith))

set_of_rises : (sets : List (List ℕ)) (location : Option ℕ) → All IsStrictlyIncreasing sets → IsStrictlyIncreasing (set_of sets location)
set_of_rises sets None a = λ k l. absurd (omega arith)
set_of_rises sets (Some k) a = set_rises sets k a

pub options_rise : (sets : List (List ℕ)) (h : Hart) (i : Instr) → All IsStrictlyIncreasing sets → AllPairs OptionBefore (options sets h i)
options_rise sets h (Register op rd first second) a = one OptionBefore None
options_rise sets h (Immediate op rd first immediate) a = one OptionBefore None
options_rise sets h (Shift op rd first amount) a = one OptionBefore None
options_rise sets h (Lui rd upper) a = one OptionBefore None
options_rise sets h (Li rd word) a = one OptionBefore None
options_rise sets h (Lw ann rd base offset) a = words_rise _ (AllPairs-from_increasing _ (set_of_rises sets _ a))
options_rise sets h (Sw ann value base offset) a = one OptionBefore None
options_rise sets h (Lr ann rd base) a = words_rise _ (AllPairs-from_increasing _ (set_of_rises sets _ a))
options_rise sets h (Sc ann rd value base) a =
    AllPairs-cons OptionBefore (Some Success) (Some Failure ∷ [])
    (All-cons (OptionBefore (Some Success)) (Some Failure) [] (record { first = Success; second = Failure; a_is = refl; b_is = refl; before = tt }) (All-nil (OptionBefore (Some Success))))
    (one OptionBefore (Some Failure))
options_rise sets h (Amo op ann rd value base) a = words_rise _ (AllPairs-from_increasing _ (set_of_rises sets _ a))
options_rise sets h (Branch op first second target) a = one OptionBefore None
options_rise sets h (Jump target) a = one OptionBefore None
options_rise sets h (Fence before after) a = one OptionBefore None
options_rise sets h FenceTso a = one OptionBefore None
options_rise sets h FenceI a = one OptionBefore None

-- what stands in front of place k comes before it
pub before_place : (os : List (Option Choice)) (k : ℕ) (d o : Option Choice) → AllPairs OptionBefore os → k < length os → Contains (take k os) o → OptionBefore o (get_or os k d)
before_place os k d o p l c =
    let near : c.0 < k = (let m = c.1 in omega (arith, length-take k os)) in
    let there : get_or os c.0 o ≡ o = sym (get_or-take k os c.0 o near) ∙ c.2 in
    subst (λ x. OptionBefore x (get_or os k d)) (get_or_default os c.0 d o (omega arith) ∙ there) (p c.0 k d near l)

-- ---- which step an option makes

pub in_one : {X : Type 0} (x y : X) → Contains (x ∷ []) y → y ≡ x
in_one x y c = let at : c.0 ≡ 0 = (let l = c.1 in omega arith) in sym (rw at at c.2)

in_words : (ws : List ℕ) (c : Option Choice) → Contains (map word_choice ws) c → (w : ℕ) × Contains ws w × (c ≡ word_choice w)
in_words ws c p =
    let short : p.0 < length ws = (let l = p.1 in rw length-map at l) in
    let w = get_or ws p.0 0 in
    (w, (p.0, short, get_or_default ws p.0 w 0 short), sym p.2 ∙ get_or-map word_choice ws p.0 0 c short)

words_in : (ws : List ℕ) (w : ℕ) → Contains ws w → Contains (map word_choice ws) (word_choice w)
words_in ws w p = (p.0, rw length-map p.1, get_or-map word_choice ws p.0 w (word_choice w) p.1 ∙ ap word_choice p.2)

same_word : {a b : ℕ} → Some (Word a) ≡ Some (Word b) → a ≡ b
same_word e = cc

same_some : {a b : ℕ} → Some a ≡ Some b → a ≡ b
same_some e = cc

-- a location is known by its address
set_there : (sets : List (List ℕ)) (k : ℕ) (a : Option ℕ) → a ≡ Some (address_of k) → set_at sets a ≡ slice_index_or sets k []
set_there sets k a e = ap (λ o. set_of sets (option_and_then location_of o)) e ∙ ap (set_of sets) (location_of-address k)

-- a word of the set that is there
loads : (sets : List (List ℕ)) (h : Hart) (i : Instr) (c : Option Choice) (s : Step) → s.instr ≡ i → s.address ≡ address_in h.registers s.instr → option_map Word s.loaded ≡ c
    → Contains (map word_choice (set_at sets (address_in h.registers i))) c → LoadsOne (IsOffered sets) s
loads sets h i c s same at chosen p k word here loaded =
    let found = in_words _ c p in
    let word_is : found.0 ≡ word = same_word (sym found.2 ∙ sym chosen ∙ ap (option_map Word) loaded) in
    let address : address_in h.registers i ≡ Some (address_of k) = ap (address_in h.registers) (sym same) ∙ sym at ∙ here in
    subst (Contains (slice_index_or sets k [])) word_is (subst (λ ws. Contains ws found.0) (set_there sets k _ address) found.1)

loads_none : (sets : List (List ℕ)) (s : Step) → s.loaded ≡ None → LoadsOne (IsOffered sets) s
loads_none sets s none k word here loaded = absurd (let both : None ≡ Some word = sym none ∙ loaded in cc)

chosen_of : (h : Hart) (n : ℕ) (i : Instr) (c : Option Choice) (s : Step) → Makes n h i c s → is_choosing i ≡ true → choice_by i s ≡ c
chosen_of h n i c s m b = rw b at m.chosen

-- the step of an option loads a word that is offered
pub option_loads : (n : ℕ) (sets : List (List ℕ)) (h : Hart) (i : Instr) (c : Option Choice) (s : Step) → Makes n h i c s → Contains (options sets h i) c → LoadsOne (IsOffered sets) s
option_loads n sets h (Register op rd first second) c s m p = loads_none sets s m.access.1
option_loads n sets h (Immediate op rd first immediate) c s m p = loads_none sets s m.access.1
option_loads n sets h (Shift op rd first amount) c s m p = loads_none sets s m.access.1
option_loads n sets h (Lui rd upper) c s m p = loads_none sets s m.access.1
option_loads n sets h (Li rd word) c s m p = loads_none sets s m.access.1
option_loads n sets h (Lw ann rd base offset) c s m p = loads sets h (Lw ann rd base offset) c s m.instr m.access.0.0 m.chosen p
option_loads n sets h (Sw ann value base offset) c s m p = loads_none sets s m.access.1
option_loads n sets h (Lr ann rd base) c s m p = loads sets h (Lr ann rd base) c s m.instr m.access.0.0 m.chosen p
option_loads n sets h (Sc ann rd value base) c s m p = elim m.access [ inl a ↦ loads_none sets s a.2 | inr a ↦ loads_none sets s a.1 ]
option_loads n sets h (Amo op ann rd value base) c s m p = loads sets h (Amo op ann rd value base) c s m.instr m.access.0.0 m.chosen p
option_loads n sets h (Branch op first second target) c s m p = loads_none sets s m.access.1
option_loads n sets h (Jump target) c s m p = loads_none sets s m.access.1
option_loads n sets h (Fence before after) c s m p = loads_none sets s m.access.1
option_loads n sets h FenceTso c s m p = loads_none sets s m.access.1
option_loads n sets h FenceI c s m p = loads_none sets s m.access.1

-- the step makes the option its choice
pub option_chosen : (n : ℕ) (sets : List (List ℕ)) (h : Hart) (i : Instr) (c : Option Choice) (s : Step) → Makes n h i c s → Contains (options sets h i) c → choice_by i s ≡ c
option_chosen n sets h (Register op rd first second) c s m p = sym (in_one None c p)
option_chosen n sets h (Immediate op rd first immediate) c s m p = sym (in_one None c p)
option_chosen n sets h (Shift op rd first amount) c s m p = sym (in_one None c p)
option_chosen n sets h (Lui rd upper) c s m p = sym (in_one None c p)
option_chosen n sets h (Li rd word) c s m p = sym (in_one None c p)
option_chosen n sets h (Lw ann rd base offset) c s m p = m.chosen
option_chosen n sets h (Sw ann value base offset) c s m p = sym (in_one None c p)
option_chosen n sets h (Lr ann rd base) c s m p = m.chosen
option_chosen n sets h (Sc ann rd value base) c s m p = m.chosen
option_chosen n sets h (Amo op ann rd value base) c s m p = m.chosen
option_chosen n sets h (Branch op first second target) c s m p = sym (in_one None c p)
option_chosen n sets h (Jump target) c s m p = sym (in_one None c p)
option_chosen n sets h (Fence before after) c s m p = sym (in_one None c p)
option_chosen n sets h FenceTso c s m p = sym (in_one None c p)
option_chosen n sets h FenceI c s m p = sym (in_one None c p)

pub first_in : {X : Type 0} (x : X) (xs : List X) → Contains (x ∷ xs) x
first_in x xs = (0, (omega arith), refl)

one_of_both : (stored : Option ℕ) → Contains (Some Success ∷ Some Failure ∷ []) (Some (if is_some stored then Success else Failure))
one_of_both None = (1, (omega arith), refl)
one_of_both (Some word) = (0, (omega arith), refl)

word_there : (sets : List (List ℕ)) (h : Hart) (i : Instr) (s : Step) (n : ℕ) (loaded : Option ℕ) → s.instr ≡ i → IsAtLocation n h s → s.loaded ≡ loaded → IsWord loaded → LoadsOne (IsOffered sets) s
    → Contains (map word_choice (set_at sets (address_in h.registers i))) (option_map Word s.loaded)
word_there sets h i s n None same at e w f = absurd w
word_there sets h i s n (Some word) same at e w f =
    let k = at.1.0 in
    let address : address_in h.registers i ≡ Some (address_of k) = ap (address_in h.registers) (sym same) ∙ sym at.0 ∙ at.1.2 in
    let offered = f k word at.1.2 e in
    rw e (words_in _ word (subst (λ ws. Contains ws word) (sym (set_there sets k _ address)) offered))

offers : (n : ℕ) (sets : List (List ℕ)) (h : Hart) (i : Instr) (s : Step) → s.instr ≡ i → Accesses n h s i → LoadsOne (IsOffered sets) s → Contains (options sets h i) (choice_by i s)
offers n sets h (Register op rd first second) s e a f = first_in None []
offers n sets h (Immediate op rd first immediate) s e a f = first_in None []
offers n sets h (Shift op rd first amount) s e a f = first_in None []
offers n sets h (Lui rd upper) s e a f = first_in None []
offers n sets h (Li rd word) s e a f = first_in None []
offers n sets h (Lw ann rd base offset) s e a f = word_there sets h (Lw ann rd base offset) s n s.loaded e a.0 refl a.1 f
offers n sets h (Sw ann value base offset) s e a f = first_in None []
offers n sets h (Lr ann rd base) s e a f = word_there sets h (Lr ann rd base) s n s.loaded e a.0 refl a.1 f
offers n sets h (Sc ann rd value base) s e a f = one_of_both s.stored
offers n sets h (Amo op ann rd value base) s e a f = word_there sets h (Amo op ann rd value base) s n s.loaded e a.0 refl a.1 f
offers n sets h (Branch op first second target) s e a f = first_in None []
offers n sets h (Jump target) s e a f = first_in None []
offers n sets h (Fence before after) s e a f = first_in None []
offers n sets h FenceTso s e a f = first_in None []
offers n sets h FenceI s e a f = first_in None []

-- each step with a word that is offered is the step of an option
pub step_offered : (n : ℕ) (code : List Instr) (sets : List (List ℕ)) (h : Hart) (i : Instr) (s : Step) → slice_get code h.at ≡ Some i → IsStep n code h s → LoadsOne (IsOffered sets) s → Contains (options sets h i) (choice_by s.instr s)
step_offered n code sets h i s e r f =
    let same : s.instr ≡ i = same_instr (sym r.1 ∙ e) in
    subst (λ j. Contains (options sets h i) (choice_by j s)) (sym same) (offers n sets h i s same (subst (Accesses n h s) same r.2) f)

-- no step makes an option that stops
pub no_step_stopped : (n : ℕ) (code : List Instr) (h : Hart) (i : Instr) (c : Option Choice) (stop : Stop) (s : Step) → slice_get code h.at ≡ Some i → StopsAt n h i (option_to_list c) stop → IsStep n code h s → choice_by s.instr s ≡ c → ⊥
no_step_stopped n code h i c stop s e b r chosen =
    let rest : option_to_list (choice_by s.instr s) ++ [] ≡ option_to_list c = append-nil _ ∙ ap option_to_list chosen in
    at_step n code h s [] stop r (stops_in n code h i _ stop e (subst (λ cs. StopsAt n h i cs stop) (sym rest) b))
