-- What the loops of the search have seen, and conditions that are settled against it.
use Rattle.std.proofs.Common.{◌≡◌, ℕ, ◌+◌, ◌<◌, ◌≤◌, Bool, true, false, not, Option, Some, None, List, [], ◌∷◌, ◌++◌, length, get_or, inl, inr, refl, sym, ◌∙◌, subst, ap, arith}
use Rattle.std.specs.Bool.{beq}
use Rattle.std.specs.Option.{option_eq}
use Rattle.std.specs.Prelude.{slice_get}
use Rattle.std.specs.List.{Contains}
use Rattle.std.proofs.lemmas.Bool.{cases_lt}
use Rattle.std.proofs.lemmas.Option.{slice_get_read, slice_get-get_or}
use Rattle.std.proofs.lemmas.List.Elements.{Contains-get_or}
use Rattle.fs_model.specs.Condition.{Condition, Always, Never}
use Rattle.fs_judge_outcomes.specs.declared.end.End.{End}
use Rattle.fs_judge_outcomes.specs.declared.end.Stored.{Stored}
use Rattle.fs_judge_outcomes.specs.inner.Settled.{truth_of}
use Rattle.fs_judge_outcomes.specs.inner.Ends.{by_hart, by_location, no_register, no_location, with_hart, with_location, words_for, CanEnd, CanShow}
use Rattle.fs_judge_outcomes.proofs.Settling.{settled_truth}

-- ---- items seen so far

-- of the first so many items none is so
abbrev pub NoneBelow : {X : Type 0} → (X → Type 0) → ℕ → List X → Type 0
NoneBelow {X} P n xs = (i : ℕ) (x : X) → i < n → slice_get xs i ≡ Some x → P x → ⊥

module _ {X : Type 0} (P : X → Type 0) (xs : List X) where
  pub none_yet : NoneBelow P 0 xs
  none_yet i x low at so = absurd (omega (arith, low))

  pub one_more : (n : ℕ) (y : X) → NoneBelow P n xs → slice_get xs n ≡ Some y → (P y → ⊥) → NoneBelow P (n + 1) xs
  one_more n y before here not_so i x low at so = elim (cases_lt i n) [
    | inl less ↦ before i x less at so
    | inr high ↦ (
        let same : i ≡ n = omega (arith, low, high) in
        let there : slice_get xs n ≡ Some x = subst (λ k. slice_get xs k ≡ Some x) same at in
        let equal : Some y ≡ Some x = sym here ∙ there in
        let one : y ≡ x = cc in
        not_so (subst P (sym one) so))
  ]

  pub none_at_all : (n : ℕ) → length xs ≤ n → NoneBelow P n xs → (x : X) → Contains xs x → P x → ⊥
  none_at_all n high before x has so =
      let low = has.1 in
      before has.0 x (omega (arith, high, low)) (slice_get_read xs (length xs) has.0 x refl low (sym has.2)) so

  pub one_seen : (n : ℕ) (d : X) → NoneBelow P n xs → n < length xs → (P (get_or xs n d) → ⊥) → NoneBelow P (n + 1) xs
  one_seen n d before low not_so = one_more n (get_or xs n d) before (slice_get-get_or xs n d low) not_so

  pub one_item : (n : ℕ) (y : X) → NoneBelow P n xs → n < length xs → y ≡ get_or xs n y → (P y → ⊥) → NoneBelow P (n + 1) xs
  one_item n y before low is not_so = one_more n y before (slice_get_read xs (length xs) n y refl low is) not_so

pub item_in : {X : Type 0} (xs : List X) (n : ℕ) (y : X) → n < length xs → y ≡ get_or xs n y → Contains xs y
item_in xs n y low is = subst (Contains xs) (sym is) (Contains-get_or xs n y low)

-- ---- what is settled against the search leads nowhere

truth_differs : (wanted : Bool) → truth_of (not wanted) ≡ truth_of wanted → ⊥
truth_differs true e = let no : Never ≡ Always = e in cc
truth_differs false e = let no : Always ≡ Never = e in cc

pub dead_end : (location : ℕ) (firsts : List ℕ) (stored : List Stored) (wanted : Bool) (c : Condition)
    → c ≡ truth_of (not wanted) → CanEnd location firsts stored wanted c → ⊥
dead_end location [] stored wanted c dead end = truth_differs wanted (sym dead ∙ end)
dead_end location (first ∷ firsts) stored wanted c dead end =
    dead_end (location + 1) firsts stored wanted _
    (ap (with_location location end.0) dead ∙ settled_truth no_register (by_location location end.0) (not wanted)) end.2

pub dead_show : (hart : ℕ) (lists : List (List End)) (firsts : List ℕ) (stored : List Stored) (wanted : Bool) (c : Condition)
    → c ≡ truth_of (not wanted) → CanShow hart lists firsts stored wanted c → ⊥
dead_show hart [] firsts stored wanted c dead show = dead_end 0 firsts stored wanted c dead show
dead_show hart (ends ∷ lists) firsts stored wanted c dead show =
    dead_show (hart + 1) lists firsts (stored ++ show.0.stored) wanted _
    (ap (with_hart hart show.0.registers) dead ∙ settled_truth (by_hart hart show.0.registers) no_location (not wanted)) show.2

-- ---- a step of the search

pub is_no : (found : Option Bool) → not (option_eq beq found (Some false)) ≡ false → found ≡ Some false
is_no None e = absurd (let no : true ≡ false = e in cc)
is_no (Some true) e = absurd (let no : true ≡ false = e in cc)
is_no (Some false) e = refl

module _ (location first : ℕ) (rest firsts : List ℕ) (stored : List Stored) (c : Condition) (split : firsts ≡ first ∷ rest) (words : List ℕ) (of : words ≡ words_for location first stored) where
  abbrev pub Leads : Bool → ℕ → Type 0
  Leads wanted word = CanEnd (location + 1) rest stored wanted (with_location location word c)

  pub end_by : (wanted told : Bool) (n : ℕ) (left : Condition) → n < length words → left ≡ with_location location (get_or words n 0) c → told ≡ wanted
      → CanEnd (location + 1) rest stored told left → CanEnd location firsts stored wanted c
  end_by wanted told n left low is same end =
      subst (λ fs. CanEnd location fs stored wanted c) (sym split) (
        get_or words n 0,
        subst (λ ws. Contains ws (get_or words n 0)) of (Contains-get_or words n 0 low),
        subst (λ d. CanEnd (location + 1) rest stored wanted d) is
            (subst (λ (b : Bool). CanEnd (location + 1) rest stored b left) same end),
      )

  pub not_by : (wanted told : Bool) (word : ℕ) (left : Condition) → left ≡ with_location location word c → told ≡ wanted
      → (CanEnd (location + 1) rest stored told left → ⊥) → Leads wanted word → ⊥
  not_by wanted told word left is same never leads =
      never (subst (λ (b : Bool). CanEnd (location + 1) rest stored b left) (sym same)
      (subst (λ d. CanEnd (location + 1) rest stored wanted d) (sym is) leads))

  pub no_end : (wanted : Bool) (n : ℕ) → length words ≤ n → NoneBelow (Leads wanted) n words → CanEnd location firsts stored wanted c → ⊥
  no_end wanted n high before can =
      let end = subst (λ fs. CanEnd location fs stored wanted c) split can in
      none_at_all (Leads wanted) words n high before end.0 (subst (λ ws. Contains ws end.0) (sym of) end.1) end.2

module _ (hart : ℕ) (ends : List End) (rest lists : List (List End)) (firsts : List ℕ) (stored : List Stored) (c : Condition) (split : lists ≡ ends ∷ rest) where
  abbrev pub Reaches : Bool → End → Type 0
  Reaches wanted end = CanShow (hart + 1) rest firsts (stored ++ end.stored) wanted (with_hart hart end.registers c)

  pub show_by : (wanted told : Bool) (end : End) (longer : List Stored) (left : Condition) → Contains ends end → longer ≡ stored ++ end.stored
      → left ≡ with_hart hart end.registers c → told ≡ wanted
      → CanShow (hart + 1) rest firsts longer told left → CanShow hart lists firsts stored wanted c
  show_by wanted told end longer left has long is same show =
      subst (λ ls. CanShow hart ls firsts stored wanted c) (sym split) (
        end,
        has,
        subst (λ d. CanShow (hart + 1) rest firsts (stored ++ end.stored) wanted d) is
            (subst (λ (b : Bool). CanShow (hart + 1) rest firsts (stored ++ end.stored) b left) same
            (subst (λ ss. CanShow (hart + 1) rest firsts ss told left) long show)),
      )

  pub not_shown_by : (wanted told : Bool) (end : End) (longer : List Stored) (left : Condition) → longer ≡ stored ++ end.stored
      → left ≡ with_hart hart end.registers c → told ≡ wanted
      → (CanShow (hart + 1) rest firsts longer told left → ⊥) → Reaches wanted end → ⊥
  not_shown_by wanted told end longer left long is same never reaches =
      never (subst (λ ss. CanShow (hart + 1) rest firsts ss told left) (sym long)
      (subst (λ (b : Bool). CanShow (hart + 1) rest firsts (stored ++ end.stored) b left) (sym same)
      (subst (λ d. CanShow (hart + 1) rest firsts (stored ++ end.stored) wanted d) (sym is) reaches)))

  pub no_show : (wanted : Bool) (n : ℕ) → length ends ≤ n → NoneBelow (Reaches wanted) n ends → CanShow hart lists firsts stored wanted c → ⊥
  no_show wanted n high before can =
      let show = subst (λ ls. CanShow hart ls firsts stored wanted c) split can in
      none_at_all (Reaches wanted) ends n high before show.0 show.1 show.2
