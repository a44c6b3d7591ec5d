-- Which entries are bad, by the settings of those before.
use Rattle.std.proofs.Common.{◌≡◌, ℕ, ◌≤◌, ◌⊎◌, inl, inr, List, [], ◌∷◌, ◌++◌, Option, Some, None, Bool, true, false, ◌&&◌, ◌||◌, nat_eq, cond, refl, sym, ap, ◌∙◌, subst, arith, append_assoc, option_map}
use Rattle.std.specs.Prelude.{option_and_then}
use Rattle.std.specs.List.{list_any}
use Rattle.std.proofs.lemmas.Bool.Decides.{nat_tests}
use Rattle.std.proofs.lemmas.List.{map-append}
use Rattle.std.proofs.lemmas.List.Folds.{list_any-append}
use Rattle.std.proofs.Math.Bool.{or-false}
use Rattle.fs_litmus_syntax.specs.Init.{Entry}
use Rattle.fs_litmus.specs.declared.settings.Holder.{Holder}
use Rattle.fs_litmus.specs.declared.settings.Holder.TheVariants as holder
use Rattle.fs_litmus.specs.declared.settings.Setting.{Setting}
use Rattle.fs_litmus.specs.Locations.{Names}
use Rattle.fs_litmus.specs.Settings.{entry_bindings, settings_after, setting_of, holder_of, word_of, fresh, holders, is_x0, same_holder}
use Rattle.fs_litmus.specs.Faults.{IsBadEntry, absent, zero, again}
use Rattle.fs_litmus.specs.Checks.{IsEntryFault, entry}
use Rattle.fs_litmus.specs.Rising.{Rising, entry_lines}
use Rattle.fs_kinds.specs.declared.fault.Fault.{Fault}
use Rattle.fs_kinds.specs.declared.fault.Fault.TheVariants.{BadInit}
use Rattle.fs_kinds.specs.FaultOrder.{IsNoLater, IsFirst}

-- ---- steps that may give nothing

assoc : {A B C : Type 0} (o : Option A) (f : A → Option B) (g : B → Option C) (h : A → Option C) → ((a : A) → h a ≡ option_and_then g (f a)) → option_and_then h o ≡ option_and_then g (option_and_then f o)
assoc None f g h e = refl
assoc (Some a) f g h e = e a

pub both_some : {A B : Type 0} (o : Option A) (f : A → Option B) (b : B) → option_and_then f o ≡ Some b → (a : A) × (o ≡ Some a) × (f a ≡ Some b)
both_some None f b e = absurd (cc)
both_some (Some a) f b e = (a, refl, e)

pub mapped_some : {A B : Type 0} (o : Option A) (f : A → B) (b : B) → option_map f o ≡ Some b → (a : A) × (o ≡ Some a) × (f a ≡ b)
mapped_some None f b e = absurd (cc)
mapped_some (Some a) f b e = (a, refl, cc)

-- ---- holders

nat_same : (n : ℕ) → nat_eq n n ≡ true
nat_same n = grind (arith, nat_tests)

nat_is : (a b : ℕ) → nat_eq a b ≡ true → a ≡ b
nat_is a b h = grind (arith, nat_tests)

both_true : (a b : Bool) → (a && b) ≡ true → (a ≡ true) × (b ≡ true)
both_true true b e = (refl, e)
both_true false b e = absurd (cc)

pub same_itself : (p : Holder) → same_holder p p ≡ true
same_itself (holder.Register h r) = rw (nat_same h, nat_same r) refl
same_itself (holder.Location k) = nat_same k

pub same_is : (p q : Holder) → same_holder p q ≡ true → p ≡ q
same_is (holder.Register h r) (holder.Register g q) e =
    let both = both_true (nat_eq h g) (nat_eq r q) e in
    let a = nat_is h g both.0 in
    let b = nat_is r q both.1 in
    cc
same_is (holder.Location k) (holder.Location m) e = ap (λ n. holder.Location n) (nat_is k m e)
same_is (holder.Register h r) (holder.Location m) e = absurd (cc)
same_is (holder.Location k) (holder.Register g q) e = absurd (cc)

pub is_set : Holder → List Setting → Bool
is_set p ss = list_any (same_holder p) (holders ss)

set_more : (p : Holder) (ss : List Setting) (s : Setting) → is_set p (ss ++ s ∷ []) ≡ (is_set p ss || same_holder p s.holder)
unfolding is_set
set_more p ss s =
    ap (list_any (same_holder p)) (map-append (λ s. s.holder) ss (s ∷ [])) ∙ list_any-append (same_holder p) (holders ss) (s.holder ∷ []) ∙ ap (λ b. list_any (same_holder p) (holders ss) || b) (or-false (same_holder p s.holder))

or_left : (a b : Bool) → a ≡ true → (a || b) ≡ true
or_left a b e = rw e refl

or_right : (a b : Bool) → b ≡ true → (a || b) ≡ true
or_right true b e = refl
or_right false b e = e

one_of : (a b : Bool) → (a || b) ≡ true → (a ≡ true) ⊎ (b ≡ true)
one_of true b e = inl refl
one_of false b e = inr e

neither : (a b : Bool) → (a || b) ≡ false → (a ≡ false) × (b ≡ false)
neither true b e = absurd (cc)
neither false b e = (refl, e)

-- ---- one entry

-- what an entry sets after these settings
abbrev pub fits : ℕ → Names → List Setting → Entry → Option Setting
fits columns names ss e = option_and_then (fresh (holders ss)) (setting_of columns names (e.target, e.value))

chosen_some : (b : Bool) (t s : Setting) → cond b None (Some t) ≡ Some s → (b ≡ false) × (t ≡ s)
chosen_some true t s e = absurd (cc)
chosen_some false t s e = (refl, cc)

chosen_none : (b : Bool) (t : Setting) → cond b None (Some t) ≡ None → b ≡ true
chosen_none true t e = refl
chosen_none false t e = absurd (cc)

-- the holder of a setting is that of its target
pub placed : (columns : ℕ) (names : Names) (e : Entry) (s : Setting) → setting_of columns names (e.target, e.value) ≡ Some s → holder_of columns names e.target ≡ Some s.holder
placed columns names e s h =
    let p = both_some (holder_of columns names e.target) (λ p. option_map (λ w. record { holder = p; word = w }) (word_of names e.value)) s h in
    let w = mapped_some (word_of names e.value) (λ w. record { holder = p.0; word = w }) s p.2 in
    p.1 ∙ ap (λ (t : Setting). Some t.holder) w.2

-- what is set is no x0 and none of those before
pub record Fits (columns : ℕ) (names : Names) (ss : List Setting) (e : Entry) (s : Setting) : Type 0 where
  pub there : setting_of columns names (e.target, e.value) ≡ Some s
  pub no_x0 : is_x0 s.holder ≡ false
  pub new : is_set s.holder ss ≡ false

fitting : (columns : ℕ) (names : Names) (ss : List Setting) (e : Entry) (s : Setting) → fits columns names ss e ≡ Some s → Fits columns names ss e s
unfolding is_set
fitting columns names ss e s h =
    let t = both_some (setting_of columns names (e.target, e.value)) (fresh (holders ss)) s h in
    let b = chosen_some (is_x0 t.0.holder || list_any (same_holder t.0.holder) (holders ss)) t.0 s t.2 in
    let n = neither (is_x0 t.0.holder) (list_any (same_holder t.0.holder) (holders ss)) b.0 in
    record {
      there = t.1 ∙ ap (λ x. Some x) b.1;
      no_x0 = sym (ap (λ (x : Setting). is_x0 x.holder) b.1) ∙ n.0;
      new = sym (ap (λ (x : Setting). list_any (same_holder x.holder) (holders ss)) b.1) ∙ n.1;
    }

-- ---- entries one after the other

pub after_append : (columns : ℕ) (names : Names) (ss : List Setting) (xs ys : List Entry) → settings_after columns names ss (entry_bindings (xs ++ ys)) ≡ option_and_then (λ r. settings_after columns names r (entry_bindings ys)) (settings_after columns names ss (entry_bindings xs))
after_append columns names ss [] ys = refl
after_append columns names ss (x ∷ xs) ys =
    assoc (fits columns names ss x) (λ s. settings_after columns names (ss ++ s ∷ []) (entry_bindings xs)) (λ r. settings_after columns names r (entry_bindings ys)) (λ s. settings_after columns names (ss ++ s ∷ []) (entry_bindings (xs ++ ys))) (λ s. after_append columns names (ss ++ s ∷ []) xs ys)

-- what is set stays set
keeps : (columns : ℕ) (names : Names) (ss r : List Setting) (xs : List Entry) (p : Holder) → settings_after columns names ss (entry_bindings xs) ≡ Some r → is_set p ss ≡ true → is_set p r ≡ true
keeps columns names ss r [] p h e = let same : ss ≡ r = cc in subst (λ x. is_set p x ≡ true) same e
keeps columns names ss r (x ∷ xs) p h e =
    let s = both_some (fits columns names ss x) (λ s. settings_after columns names (ss ++ s ∷ []) (entry_bindings xs)) r h in
    keeps columns names (ss ++ s.0 ∷ []) r xs p s.2 (set_more p ss s.0 ∙ or_left _ _ e)

-- the holder of each entry is set from then on
sets : (columns : ℕ) (names : Names) (ss r : List Setting) (xs ys : List Entry) (d : Entry) (p : Holder) → settings_after columns names ss (entry_bindings (xs ++ d ∷ ys)) ≡ Some r → holder_of columns names d.target ≡ Some p → is_set p r ≡ true
sets columns names ss r [] ys d p h e =
    let s = both_some (fits columns names ss d) (λ s. settings_after columns names (ss ++ s ∷ []) (entry_bindings ys)) r h in
    let f = fitting columns names ss d s.0 s.1 in
    let there = placed columns names d s.0 f.there in
    let same : p ≡ s.0.holder = cc in
    keeps columns names (ss ++ s.0 ∷ []) r ys p s.2 (set_more p ss s.0 ∙ or_right _ _ (subst (λ q. same_holder p q ≡ true) same (same_itself p)))
sets columns names ss r (x ∷ xs) ys d p h e =
    let s = both_some (fits columns names ss x) (λ s. settings_after columns names (ss ++ s ∷ []) (entry_bindings (xs ++ d ∷ ys))) r h in
    sets columns names (ss ++ s.0 ∷ []) r xs ys d p s.2 e

-- one of the entries has this holder
record Sets (columns : ℕ) (names : Names) (xs : List Entry) (p : Holder) : Type 0 where
  pub before : List Entry
  pub entry : Entry
  pub after : List Entry
  pub split : xs ≡ before ++ entry ∷ after
  pub holder : holder_of columns names entry.target ≡ Some p

later_sets : (columns : ℕ) (names : Names) (x : Entry) (xs : List Entry) (p : Holder) → Sets columns names xs p → Sets columns names (x ∷ xs) p
later_sets columns names x xs p h = record { before = x ∷ h.before; entry = h.entry; after = h.after; split = ap (λ l. x ∷ l) h.split; holder = h.holder }

-- what is set was set before, or by an entry
set_by : (columns : ℕ) (names : Names) (ss r : List Setting) (xs : List Entry) (p : Holder) → settings_after columns names ss (entry_bindings xs) ≡ Some r → is_set p r ≡ true → (is_set p ss ≡ true) ⊎ Sets columns names xs p
set_by columns names ss r [] p h e = let same : r ≡ ss = cc in inl (subst (λ x. is_set p x ≡ true) same e)
set_by columns names ss r (x ∷ xs) p h e =
    let s = both_some (fits columns names ss x) (λ s. settings_after columns names (ss ++ s ∷ []) (entry_bindings xs)) r h in
    let there = placed columns names x s.0 (fitting columns names ss x s.0 s.1).there in
    elim (set_by columns names (ss ++ s.0 ∷ []) r xs p s.2 e) as (λ _. (is_set p ss ≡ true) ⊎ Sets columns names (x ∷ xs) p) [
      | inl before ↦ elim (one_of _ _ (sym (set_more p ss s.0) ∙ before)) [
        | inl a ↦ inl a
        | inr b ↦ let same = same_is p s.0.holder b in inr (record { before = []; entry = x; after = xs; split = refl; holder = there ∙ ap (λ q. Some q) (sym same) })
      ]
      | inr later ↦ inr (later_sets columns names x xs p later)
    ]

nothing_set : (columns : ℕ) (names : Names) (r : List Setting) (xs : List Entry) (p : Holder) → settings_after columns names [] (entry_bindings xs) ≡ Some r → is_set p r ≡ true → Sets columns names xs p
unfolding is_set
nothing_set columns names r xs p h e = elim (set_by columns names [] r xs p h e) [ inl a ↦ absurd (cc) | inr b ↦ b ]

-- ---- bad entries

again_at : (columns : ℕ) (names : Names) (before after : List Entry) (e : Entry) (p : Holder) → Sets columns names before p → holder_of columns names e.target ≡ Some p → IsBadEntry columns names (before ++ e ∷ after) e.line
again_at columns names before after e p h there =
    again h.before h.after after h.entry e (ap (λ l. l ++ e ∷ after) h.split ∙ append_assoc h.before (h.entry ∷ h.after) (e ∷ after)) h.holder there

bad_if : (columns : ℕ) (names : Names) (before after : List Entry) (e : Entry) (ss : List Setting) (o : Option Setting) → settings_after columns names [] (entry_bindings before) ≡ Some ss → setting_of columns names (e.target, e.value) ≡ o → option_and_then (fresh (holders ss)) o ≡ None → IsBadEntry columns names (before ++ e ∷ after) e.line
unfolding is_set
bad_if columns names before after e ss None h is none = absent before after e refl is
bad_if columns names before after e ss (Some s) h is none =
    let there = placed columns names e s is in
    elim (one_of _ _ (chosen_none (is_x0 s.holder || list_any (same_holder s.holder) (holders ss)) s none)) [
      | inl x0 ↦ zero before after e refl there x0
      | inr set ↦ again_at columns names before after e s.holder (nothing_set columns names ss before s.holder h set) there
    ]

-- An entry that sets nothing after the settings of those before is bad.
pub bad : (columns : ℕ) (names : Names) (before after : List Entry) (e : Entry) (ss : List Setting) → settings_after columns names [] (entry_bindings before) ≡ Some ss → fits columns names ss e ≡ None → IsBadEntry columns names (before ++ e ∷ after) e.line
bad columns names before after e ss h none = bad_if columns names before after e ss (setting_of columns names (e.target, e.value)) h refl none

-- a bad entry sets nothing after the settings of those before
pub record IsBadAt (columns : ℕ) (names : Names) (entries : List Entry) (line : ℕ) : Type 0 where
  pub before : List Entry
  pub entry : Entry
  pub after : List Entry
  pub split : entries ≡ before ++ entry ∷ after
  pub line_is : line ≡ entry.line
  pub no_fit : (ss : List Setting) (s : Setting) → settings_after columns names [] (entry_bindings before) ≡ Some ss → Fits columns names ss entry s → ⊥

pub bad_at : (columns : ℕ) (names : Names) (entries : List Entry) (line : ℕ) → IsBadEntry columns names entries line → IsBadAt columns names entries line
bad_at columns names entries line (absent before after e split none) =
    record { before = before; entry = e; after = after; split = split; line_is = refl; no_fit = λ ss s h f. let a = f.there in cc }
bad_at columns names entries line (zero before after e {p = p} split there x0) =
    record { before = before; entry = e; after = after; split = split; line_is = refl; no_fit = λ ss s h f. let a = placed columns names e s f.there in let b = f.no_x0 in let same : p ≡ s.holder = cc in let c = ap is_x0 same in cc }
bad_at columns names entries line (again before between after d e {p = p} split first second) =
    record {
      before = before ++ d ∷ between;
      entry = e;
      after = after;
      split = split ∙ sym (append_assoc before (d ∷ between) (e ∷ after));
      line_is = refl;
      no_fit = λ ss s h f.
          let a = placed columns names e s f.there in
          let same : p ≡ s.holder = cc in
          let set = sets columns names [] ss before between d p h first in
          let b = f.new in
          let c = ap (λ q. is_set q ss) same in
          cc;
    }

settled : (columns : ℕ) (names : Names) (before after : List Entry) (e : Entry) (r : List Setting) → settings_after columns names [] (entry_bindings (before ++ e ∷ after)) ≡ Some r → ((ss : List Setting) (s : Setting) → settings_after columns names [] (entry_bindings before) ≡ Some ss → Fits columns names ss e s → ⊥) → ⊥
settled columns names before after e r h no_fit =
    let b = both_some (settings_after columns names [] (entry_bindings before)) (λ r. settings_after columns names r (entry_bindings (e ∷ after))) r (sym (after_append columns names [] before (e ∷ after)) ∙ h) in
    let s = both_some (fits columns names b.0 e) (λ s. settings_after columns names (b.0 ++ s ∷ []) (entry_bindings after)) r b.2 in
    no_fit b.0 s.0 b.1 (fitting columns names b.0 e s.0 s.1)

-- Where all entries set something, none is bad.
pub none_bad : (columns : ℕ) (names : Names) (entries : List Entry) (r : List Setting) → settings_after columns names [] (entry_bindings entries) ≡ Some r → (line : ℕ) → ¬ IsBadEntry columns names entries line
none_bad columns names entries r h line b =
    let at = bad_at columns names entries line b in
    settled columns names at.before at.after at.entry r (sym (ap (λ l. settings_after columns names [] (entry_bindings l)) at.split) ∙ h) at.no_fit

-- ---- lines

-- an entry stands among these, or at the one after them or later
before_or_after : (xs ys zs bs : List Entry) (e d : Entry) → xs ++ e ∷ zs ≡ ys ++ d ∷ bs → ((c : List Entry) × (xs ≡ ys ++ d ∷ c)) ⊎ ((c : List Entry) × (e ∷ zs ≡ c ++ d ∷ bs))
before_or_after [] ys zs bs e d h = inr (ys, h)
before_or_after (x ∷ xs) [] zs bs e d h = let same : x ≡ d = cc in inl (xs, ap (λ y. y ∷ xs) same)
before_or_after (x ∷ xs) (y ∷ ys) zs bs e d h =
    let head : x ≡ y = cc in
    let tail : xs ++ e ∷ zs ≡ ys ++ d ∷ bs = cc in
    elim (before_or_after xs ys zs bs e d tail) as (λ _. ((c : List Entry) × (x ∷ xs ≡ (y ∷ ys) ++ d ∷ c)) ⊎ ((c : List Entry) × (e ∷ zs ≡ c ++ d ∷ bs))) [
      | inl a ↦ let same = a.1 in inl (a.0, ap (λ z. z ∷ xs) head ∙ ap (λ l. y ∷ l) same)
      | inr b ↦ inr b
    ]

rises : (from : ℕ) (xs bs : List Entry) (d : Entry) → Rising from (entry_lines (xs ++ d ∷ bs)) → from ≤ d.line
rises from [] bs d h = h.0
rises from (x ∷ xs) bs d h = let a = rises x.line xs bs d h.1 in let b = h.0 in omega arith

rising_from : (from : ℕ) (xs zs : List Entry) (e : Entry) → Rising from (entry_lines (xs ++ e ∷ zs)) → Rising e.line (entry_lines (e ∷ zs))
rising_from from [] zs e h = (omega arith, h.1)
rising_from from (x ∷ xs) zs e h = rising_from x.line xs zs e h.1

-- The first entry that sets nothing is the first of the bad ones.
pub first_bad : (columns : ℕ) (names : Names) (before after : List Entry) (e : Entry) (ss : List Setting) → settings_after columns names [] (entry_bindings before) ≡ Some ss → Rising 0 (entry_lines (before ++ e ∷ after)) → (line : ℕ) → IsBadEntry columns names (before ++ e ∷ after) line → e.line ≤ line
first_bad columns names before after e ss h rising line b =
    let at = bad_at columns names (before ++ e ∷ after) line b in
    elim (before_or_after before at.before after at.after e at.entry at.split) [
      | inl early ↦ absurd (settled columns names at.before early.0 at.entry ss (sym (ap (λ l. settings_after columns names [] (entry_bindings l)) early.1) ∙ h) at.no_fit)
      | inr late ↦
          let low = rises e.line late.0 at.after at.entry (subst (λ l. Rising e.line (entry_lines l)) late.1 (rising_from 0 before after e rising)) in
          let same = at.line_is in
          omega arith
    ]

-- ---- the fault of the entries

entry_first : (columns : ℕ) (names : Names) (entries : List Entry) (line : ℕ) → ((k : ℕ) → IsBadEntry columns names entries k → line ≤ k) → (g : Fault) → IsEntryFault columns names entries g → IsNoLater (BadInit line) g
entry_first columns names entries line least g (entry h) = inr (refl, least _ h)

-- the fault of the first entry that sets nothing
pub first_entry_fault : (columns : ℕ) (names : Names) (entries before after : List Entry) (e : Entry) (ss : List Setting) → entries ≡ before ++ e ∷ after → settings_after columns names [] (entry_bindings before) ≡ Some ss → fits columns names ss e ≡ None → Rising 0 (entry_lines entries) → IsFirst (IsEntryFault columns names entries) (BadInit e.line)
first_entry_fault columns names entries before after e ss split h none rising =
    let least = first_bad columns names before after e ss h (subst (λ l. Rising 0 (entry_lines l)) split rising) in
    subst (λ l. IsFirst (IsEntryFault columns names l) (BadInit e.line)) (sym split)
    (record { is = entry (bad columns names before after e ss h none); first = entry_first columns names (before ++ e ∷ after) e.line least })

-- where all entries set something there is none
pub no_entry_fault : (columns : ℕ) (names : Names) (entries : List Entry) (r : List Setting) → settings_after columns names [] (entry_bindings entries) ≡ Some r → (f : Fault) → ¬ IsEntryFault columns names entries f
no_entry_fault columns names entries r h f (entry b) = none_bad columns names entries r h _ b
