-- What the search finds is a choice of ends and of last words that makes the condition as wanted, and it misses no such
-- choice.
use Rattle.std.proofs.Common.{◌≡◌, ℕ, zero, suc, ◌+◌, ◌<◌, ◌==◌, nat_lt, Bool, true, false, Option, None, Some, List, [], ◌∷◌, ◌++◌, length, inl, inr, refl, sym, ◌∙◌, subst, ap, append_assoc, arith}
use Rattle.std.specs.Prelude.{if◌then◌else◌}
use Rattle.std.specs.List.{Contains}
use Rattle.std.proofs.Math.Path.{fun_ext}
use Rattle.std.specs.Option.{option_or}
use Rattle.std.proofs.lemmas.Bool.{eqb-true, eqb-false, ltb-true, ltb-false, lt-ltb}
use Rattle.std.proofs.lemmas.List.Elements.{Contains-append_left, Contains-append_right, Contains-append_cases}
use Rattle.fs_values.proofs.Contained.{none_in}
use Rattle.fs_model.specs.Condition.{Condition}
use Rattle.fs_model.specs.Shows.{holds}
use Rattle.fs_judge_outcomes.specs.declared.end.End.{End}
use Rattle.fs_judge_outcomes.specs.declared.end.Stored.{Stored}
use Rattle.fs_judge_outcomes.specs.inner.Settled.{truth_of, settled}
use Rattle.fs_judge_outcomes.specs.inner.Ends.{word_in, by_hart, by_location, no_register, no_location, with_hart, with_location, words_for, CanEnd, CanShow}
use Rattle.fs_judge_outcomes.proofs.Settling.{AllKnown, truth_holds, settled_holds, settled_total, settled_twice}
use Rattle.fs_judge_outcomes.proofs.Numbered.{Each, Pairs}

append_nil : {X : Type 0} (xs : List X) → xs ++ [] ≡ xs
append_nil [] = refl
append_nil (x ∷ xs) = ap (λ ys. x ∷ ys) (append_nil xs)

-- ---- words that are known are right

-- of one number alone something is known
known_by : (X : ℕ → Option ℕ) (n : ℕ) (f : ℕ → ℕ) → ((y : ℕ) → X n ≡ Some y → f n ≡ y)
    → (k y : ℕ) → (if k == n then X n else None) ≡ Some y → f k ≡ y
known_by X n f right k y e = go (k == n) refl e
  where
    go : (b : Bool) → (k == n) ≡ b → (if b then X n else None) ≡ Some y → f k ≡ y
    go true same is = ap f (eqb-true k n same) ∙ right y is
    go false same is = absurd (let none : None ≡ Some y = is in cc)

-- the end's registers are these
abbrev pub Agrees : (ℕ → ℕ → ℕ) → ℕ → End → Type 0
Agrees r hart end = (reg y : ℕ) → word_in end.registers reg ≡ Some y → r hart reg ≡ y

pub hart_known : (r : ℕ → ℕ → ℕ) (hart : ℕ) (end : End) → Agrees r hart end → (h g y : ℕ) → by_hart hart end.registers h g ≡ Some y → r h g ≡ y
hart_known r hart end agrees h g y e = known_by (λ k. word_in end.registers g) hart (λ k. r k g) (agrees g) h y e

word_known : (w : ℕ → ℕ) (location word : ℕ) → w location ≡ word → (k y : ℕ) → by_location location word k ≡ Some y → w k ≡ y
word_known w location word is k y e =
    known_by (λ j. Some word) location w (λ z same. is ∙ (let both : Some word ≡ Some z = same in cc)) k y e

pub nothing_known : (w : ℕ → ℕ) (k y : ℕ) → no_location k ≡ Some y → w k ≡ y
nothing_known w k y e = absurd (let none : None ≡ Some y = e in cc)

no_register_known : (r : ℕ → ℕ → ℕ) (h g y : ℕ) → no_register h g ≡ Some y → r h g ≡ y
no_register_known r h g y e = absurd (let none : None ≡ Some y = e in cc)

-- ---- what is found

pub record Ended (location : ℕ) (firsts : List ℕ) (stored : List Stored) (wanted : Bool) (c : Condition) : Type 0 where
  pub last : List ℕ
  pub words : Pairs (λ k first word. Contains (words_for k first stored) word) location firsts last
  pub shows : (r : ℕ → ℕ → ℕ) (w : ℕ → ℕ) → Each (λ k word. w k ≡ word) location last → holds r w c ≡ wanted

pub ended : (location : ℕ) (firsts : List ℕ) (stored : List Stored) (wanted : Bool) (c : Condition)
    → CanEnd location firsts stored wanted c → Ended location firsts stored wanted c
ended location [] stored wanted c end = record {
  last = [];
  words = tt;
  shows = λ r w all. ap (holds r w) end ∙ truth_holds r w wanted;
}
ended location (first ∷ firsts) stored wanted c end =
    let rest = ended (location + 1) firsts stored wanted (with_location location end.0 c) end.2 in
    record {
      last = end.0 ∷ rest.last;
      words = (end.1, rest.words);
      shows = λ r w all.
          sym (settled_holds r w no_register (by_location location end.0) (no_register_known r) (word_known w location end.0 all.0) c)
          ∙ rest.shows r w all.1;
    }

-- all that is stored
abbrev pub stored_of : List End → List Stored
stored_of [] = []
stored_of (end ∷ ends) = end.stored ++ stored_of ends

pub record Shown (hart : ℕ) (lists : List (List End)) (firsts : List ℕ) (stored : List Stored) (wanted : Bool) (c : Condition) : Type 0 where
  pub ends : List End
  pub of : Pairs (λ h list end. Contains list end) hart lists ends
  pub last : List ℕ
  pub words : Pairs (λ k first word. Contains (words_for k first (stored ++ stored_of ends)) word) 0 firsts last
  pub shows :
      (r : ℕ → ℕ → ℕ) (w : ℕ → ℕ) → Each (Agrees r) hart ends → Each (λ k word. w k ≡ word) 0 last → holds r w c ≡ wanted

pub shown : (hart : ℕ) (lists : List (List End)) (firsts : List ℕ) (stored : List Stored) (wanted : Bool) (c : Condition)
    → CanShow hart lists firsts stored wanted c → Shown hart lists firsts stored wanted c
shown hart [] firsts stored wanted c show =
    let end = ended 0 firsts stored wanted c show in
    record {
      ends = [];
      of = tt;
      last = end.last;
      words = subst (λ ss. Pairs (λ k first word. Contains (words_for k first ss) word) 0 firsts end.last) (sym (append_nil stored)) end.words;
      shows = λ r w harts all. end.shows r w all;
    }
shown hart (list ∷ lists) firsts stored wanted c show =
    let rest = shown (hart + 1) lists firsts (stored ++ show.0.stored) wanted (with_hart hart show.0.registers c) show.2 in
    record {
      ends = show.0 ∷ rest.ends;
      of = (show.1, rest.of);
      last = rest.last;
      words = subst (λ ss. Pairs (λ k first word. Contains (words_for k first ss) word) 0 firsts rest.last)
          (append_assoc stored show.0.stored (stored_of rest.ends)) rest.words;
      shows = λ r w harts all.
          sym (settled_holds r w (by_hart hart show.0.registers) no_location (hart_known r hart show.0 harts.0) (nothing_known w) c)
          ∙ rest.shows r w harts.1 all;
    }

-- ---- nothing is missed

-- what is known of the first so many
abbrev pub below : (ℕ → Option ℕ) → ℕ → ℕ → Option ℕ
below X n k = if nat_lt k n then X k else None

one_further : (X : ℕ → Option ℕ) (n k : ℕ) → below X (n + 1) k ≡ option_or (below X n k) (if k == n then X n else None)
one_further X n k = go (nat_lt k (n + 1)) (nat_lt k n) (k == n) refl refl refl
  where
    or_none : (o : Option ℕ) → o ≡ option_or o None
    or_none None = refl
    or_none (Some y) = refl

    go : (a b c : Bool) → nat_lt k (n + 1) ≡ a → nat_lt k n ≡ b → (k == n) ≡ c
        → (if a then X k else None) ≡ option_or (if b then X k else None) (if c then X n else None)
    go true true true e f g =
        let low = ltb-true k n f in let same = eqb-true k n g in absurd (omega (arith, low, same))
    go true true false e f g = or_none (X k)
    go true false true e f g = ap X (eqb-true k n g)
    go true false false e f g =
        let low = ltb-true k (n + 1) e in let high = ltb-false k n f in let other = eqb-false k n g in absurd (omega (arith, low, high, other))
    go false true c e f g =
        let high = ltb-false k (n + 1) e in let low = ltb-true k n f in absurd (omega (arith, high, low))
    go false false true e f g =
        let high = ltb-false k (n + 1) e in let same = eqb-true k n g in absurd (omega (arith, high, same))
    go false false false e f g = refl

pub none_below : (X : ℕ → Option ℕ) (k : ℕ) → below X 0 k ≡ None
none_below X k = go (nat_lt k 0) refl
  where
    go : (a : Bool) → nat_lt k 0 ≡ a → (if a then X k else None) ≡ None
    go true e = let low = ltb-true k 0 e in absurd (omega (arith, low))
    go false e = refl

pub below_low : (X : ℕ → Option ℕ) (n k : ℕ) → k < n → below X n k ≡ X k
below_low X n k low = rw (lt-ltb k n low) refl

or_nothing : (o : Option ℕ) → o ≡ option_or o None
or_nothing None = refl
or_nothing (Some y) = refl

module _ (r : ℕ → ℕ → ℕ) (w : ℕ → ℕ) (E : ℕ → End) (whole : Condition) where
  abbrev pub words_below : ℕ → ℕ → Option ℕ
  words_below = below (λ k. Some (w k))

  abbrev pub harts_below : ℕ → ℕ → ℕ → Option ℕ
  harts_below n h g = below (λ k. word_in (E k).registers g) n h

  end_by : (n : ℕ) (firsts : List ℕ) (stored : List Stored) (wanted : Bool) (c : Condition) (register : ℕ → ℕ → Option ℕ) (most : ℕ)
      → Each (λ k first. Contains (words_for k first stored) (w k)) n firsts
      → c ≡ settled register (words_below n) whole
      → AllKnown r w register (words_below most) whole → n + length firsts ≡ most → holds r w whole ≡ wanted
      → CanEnd n firsts stored wanted c
  end_by n [] stored wanted c register most all is known high holding =
      let same : most ≡ n = (let last = high in omega (arith, last)) in
      is ∙ settled_total r w register (words_below n) whole (subst (λ m. AllKnown r w register (words_below m) whole) same known)
      ∙ ap truth_of holding
  end_by n (first ∷ firsts) stored wanted c register most all is known high holding = (
    w n,
    all.0,
    end_by (n + 1) firsts stored wanted (with_location n (w n) c) register most all.1
        (ap (with_location n (w n)) is
        ∙ settled_twice register register no_register (words_below (n + 1)) (words_below n) (by_location n (w n))
        (record { registers = λ h g. or_nothing (register h g); locations = λ k. one_further (λ j. Some (w j)) n k }) whole)
        known (let last = high in omega (arith, last)) holding,
  )

  -- what the ends of these lists' harts store
  abbrev pub stored_from : ℕ → List (List End) → List Stored
  stored_from n [] = []
  stored_from n (list ∷ lists) = (E n).stored ++ stored_from (n + 1) lists

  pub in_from : (n : ℕ) (lists : List (List End)) (i : ℕ) → i < length lists → (s : Stored) → Contains (E (n + i)).stored s → Contains (stored_from n lists) s
  in_from n [] i low s has = absurd (omega (arith, low))
  in_from n (list ∷ lists) zero low s has =
      let here : n + 0 ≡ n = omega arith in
      Contains-append_left (E n).stored (stored_from (n + 1) lists) s (subst (λ k. Contains (E k).stored s) here has)
  in_from n (list ∷ lists) (suc i) low s has =
      let next : n + suc i ≡ n + 1 + i = omega arith in
      Contains-append_right (E n).stored (stored_from (n + 1) lists) s
      (in_from (n + 1) lists i (omega (arith, low)) s (subst (λ k. Contains (E k).stored s) next has))

  pub out_from : (n : ℕ) (lists : List (List End)) (s : Stored) → Contains (stored_from n lists) s → (i : ℕ) × Contains (E (n + i)).stored s
  out_from n [] s has = absurd (none_in s has)
  out_from n (list ∷ lists) s has = elim (Contains-append_cases (E n).stored (stored_from (n + 1) lists) s has) [
    | inl here ↦ (0, (let same : n ≡ n + 0 = omega arith in subst (λ k. Contains (E k).stored s) same here))
    | inr later ↦ (
        let rest = out_from (n + 1) lists s later in
        let next : n + 1 + rest.0 ≡ n + suc rest.0 = omega arith in
        (suc rest.0, subst (λ k. Contains (E k).stored s) next rest.1))
  ]

  pub show_by : (n : ℕ) (lists : List (List End)) (firsts : List ℕ) (stored : List Stored) (wanted : Bool) (c : Condition) (harts locations : ℕ)
      → Each (λ h list. Contains list (E h)) n lists
      → Each (λ k first. Contains (words_for k first (stored ++ stored_from n lists)) (w k)) 0 firsts
      → c ≡ settled (harts_below n) no_location whole
      → AllKnown r w (harts_below harts) (words_below locations) whole → n + length lists ≡ harts → length firsts ≡ locations
      → holds r w whole ≡ wanted → CanShow n lists firsts stored wanted c
  show_by n [] firsts stored wanted c harts locations ends words is known high long holding =
      let same : harts ≡ n = (let last = high in omega (arith, last)) in
      end_by 0 firsts stored wanted c (harts_below n) locations
      (subst (λ ss. Each (λ k first. Contains (words_for k first ss) (w k)) 0 firsts) (append_nil stored) words)
      (is ∙ ap (λ (l : ℕ → Option ℕ). settled (harts_below n) l whole) (fun_ext (λ k. sym (none_below (λ j. Some (w j)) k))))
      (subst (λ m. AllKnown r w (harts_below m) (words_below locations) whole) same known)
      (let size = long in omega (arith, size)) holding
  show_by n (list ∷ lists) firsts stored wanted c harts locations ends words is known high long holding = (
    E n,
    ends.0,
    show_by (n + 1) lists firsts (stored ++ (E n).stored) wanted (with_hart n (E n).registers c) harts locations ends.1
        (subst (λ ss. Each (λ k first. Contains (words_for k first ss) (w k)) 0 firsts)
        (sym (append_assoc stored (E n).stored (stored_from (n + 1) lists))) words)
        (ap (with_hart n (E n).registers) is
        ∙ settled_twice (harts_below (n + 1)) (harts_below n) (by_hart n (E n).registers) no_location no_location no_location
        (record { registers = λ h g. one_further (λ k. word_in (E k).registers g) n h; locations = λ k. refl }) whole)
        known (let last = high in omega (arith, last)) long holding,
  )
