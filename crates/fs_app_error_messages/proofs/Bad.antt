-- Which registers, locations and words can't be there.
use Rattle.std.proofs.Common.{◌≡◌, ℕ, List, [], ◌∷◌, Option, Some, None, Bool, true, false, ◌||◌, not, cond, refl, sym, ap, ◌∙◌, nat_lt, nat_le, arith, suc, length, ◌-◌, ◌%◌, ◌^◌}
use Rattle.std.specs.Prelude.{is_some, option_map, option_and_then, position}
use Rattle.std.specs.Bool.{Decides}
use Rattle.std.specs.Str.{bytes_eq}
use Rattle.std.proofs.lemmas.Slice.Eq.{bytes_eq-Decides}
use Rattle.fs_litmus_tokens.specs.Numbers.{number_of}
use Rattle.fs_litmus_tokens.specs.Values.{Target, Register, Location, Value, Number, Address}
use Rattle.fs_instr.specs.Registers.{register_of}
use Rattle.fs_litmus.specs.Locations.{Names, number_of_location}
use Rattle.fs_litmus.specs.Settings.{signed, address_word, word_of, register_holder, holder_of, setting_of}
use Rattle.fs_litmus.specs.declared.settings.Holder.{Holder}
use Rattle.fs_litmus.specs.declared.settings.Holder.TheVariants as holder
use Rattle.fs_litmus.specs.declared.settings.Setting.{Setting}
use Rattle.fs_app_error_messages.specs.Atoms.{IsBad, is_hart_number, is_far, is_absent, is_out_of_range}

abbrev with_word : Option ℕ → Holder → Option Setting
with_word o p = option_map (λ w. record { holder = p; word = w }) o

-- ---- what isn't there, whatever locations there are

out_of_columns : (b : Bool) (p : Holder) → (not b || not true) ≡ true → cond b (Some p) None ≡ None
out_of_columns true p e = absurd (cc)
out_of_columns false p e = refl

no_holder : (columns : ℕ) (o q : Option ℕ) → (not (is_hart_number columns o) || not (is_some q)) ≡ true → option_and_then (λ n. option_and_then (register_holder columns n) q) o ≡ None
no_holder columns None q e = refl
no_holder columns (Some n) None e = refl
no_holder columns (Some n) (Some r) e = out_of_columns (nat_lt n columns) (holder.Register n r) e

pub absent_bad : (columns : ℕ) (t : Target) (v : Value) → is_absent columns t ≡ true → IsBad columns t v
absent_bad columns (Register h r) v e = λ names. ap (option_and_then (with_word (word_of names v))) (no_holder columns (number_of h) (register_of r) e)
absent_bad columns (Location w) v e = absurd (cc)

too_low : (n : ℕ) → nat_lt 2147483648 n ≡ true → nat_le n 2147483648 ≡ false
too_low n e = grind (arith, e)

no_word : (negative : Bool) (o : Option ℕ) → is_far negative o ≡ true → option_and_then (signed negative) o ≡ None
no_word negative None e = refl
no_word false (Some n) e = absurd (cc)
no_word true (Some n) e = rw (too_low n e) refl

wordless : (o : Option Holder) → option_and_then (with_word None) o ≡ None
wordless None = refl
wordless (Some p) = refl

pub far_bad : (columns : ℕ) (t : Target) (v : Value) → is_out_of_range v ≡ true → IsBad columns t v
far_bad columns t (Number n d) e = λ names. ap (λ o. option_and_then (with_word o) (holder_of columns names t)) (no_word n (number_of d) e) ∙ wordless (holder_of columns names t)
far_bad columns t (Address w) e = absurd (cc)

-- ---- what is there

not_none : (b : Bool) → (not b || true) ≡ false → ⊥
not_none true e = absurd (cc)
not_none false e = absurd (cc)

in_columns : (b : Bool) (p : Holder) → (not b || not true) ≡ false → (q : Holder) × (cond b (Some p) None ≡ Some q)
in_columns true p e = (p, refl)
in_columns false p e = absurd (cc)

some_holder : (columns : ℕ) (o q : Option ℕ) → (not (is_hart_number columns o) || not (is_some q)) ≡ false → (p : Holder) × (option_and_then (λ n. option_and_then (register_holder columns n) q) o ≡ Some p)
some_holder columns None q e = absurd (cc)
some_holder columns (Some n) None e = absurd (not_none (nat_lt n columns) e)
some_holder columns (Some n) (Some r) e = in_columns (nat_lt n columns) (holder.Register n r) e

low_enough : (n : ℕ) → nat_lt 2147483648 n ≡ false → nat_le n 2147483648 ≡ true
low_enough n e = grind (arith, e)

some_word : (negative : Bool) (o : Option ℕ) → is_far negative o ≡ false → (w : ℕ) × (option_and_then (signed negative) o ≡ Some w)
some_word negative None e = absurd (cc)
some_word false (Some n) e = (n, refl)
some_word true (Some n) e = ((2 ^ 32 - n) % (2 ^ 32), rw (low_enough n e) refl)

-- the location is among these
abbrev pub HasTarget : Names → Target → Type 0
HasTarget names (Register h r) = Unit {0}
HasTarget names (Location w) = (k : ℕ) × (number_of_location names w ≡ Some k)

abbrev pub HasValue : Names → Value → Type 0
HasValue names (Number n d) = Unit {0}
HasValue names (Address w) = (k : ℕ) × (number_of_location names w ≡ Some k)

target_there : (columns : ℕ) (names : Names) (t : Target) → is_absent columns t ≡ false → HasTarget names t → (p : Holder) × (holder_of columns names t ≡ Some p)
target_there columns names (Register h r) e k = some_holder columns (number_of h) (register_of r) e
target_there columns names (Location w) e k = (holder.Location k.0, ap (option_map (λ n. holder.Location n)) k.1)

value_there : (names : Names) (v : Value) → is_out_of_range v ≡ false → HasValue names v → (w : ℕ) × (word_of names v ≡ Some w)
value_there names (Number n d) e k = some_word n (number_of d) e
value_there names (Address w) e k = (address_word k.0, ap (option_map address_word) k.1)

pub is_there : (columns : ℕ) (names : Names) (t : Target) (v : Value) → is_absent columns t ≡ false → is_out_of_range v ≡ false → HasTarget names t → HasValue names v → (s : Setting) × (setting_of columns names (t, v) ≡ Some s)
is_there columns names t v e f h k =
    let p = target_there columns names t e h in
    let w = value_there names v f k in
    (record { holder = p.0; word = w.0 }, ap (option_and_then (with_word (word_of names v))) p.1 ∙ ap (λ o. with_word o p.0) w.1)

-- ---- names that a target and a value have

positive : (n : ℕ) → nat_lt 0 (suc n) ≡ true
positive n = grind arith

first_at : (p : List ℕ → Bool) (w : List ℕ) (ws : Names) → p w ≡ true → (k : ℕ) × (position p (w ∷ ws) ≡ Some k)
first_at p w ws e = (0, rw (e, positive (length ws)) refl)

second_at : (p : List ℕ → Bool) (w u : List ℕ) (b : Bool) → p w ≡ b → p u ≡ true → (k : ℕ) × (position p (w ∷ u ∷ []) ≡ Some k)
second_at p w u true f e = first_at p w (u ∷ []) f
second_at p w u false f e = (1, rw (f, e) refl)

equals_itself : (w : List ℕ) → bytes_eq w w ≡ true
equals_itself w = (bytes_eq-Decides w w).1 refl

abbrev HasBoth : Target → Value → Type 0
HasBoth t v = (names : Names) × HasTarget names t × HasValue names v

has_both : (t : Target) (v : Value) → HasBoth t v
has_both (Register h r) (Number n d) = ([], tt, tt)
has_both (Register h r) (Address u) = (u ∷ [], tt, first_at (bytes_eq u) u [] (equals_itself u))
has_both (Location w) (Number n d) = (w ∷ [], first_at (bytes_eq w) w [] (equals_itself w), tt)
has_both (Location w) (Address u) = (w ∷ u ∷ [], first_at (bytes_eq w) w (u ∷ []) (equals_itself w), second_at (bytes_eq u) w u (bytes_eq u w) refl (equals_itself u))

not_bad : (columns : ℕ) (t : Target) (v : Value) → is_absent columns t ≡ false → is_out_of_range v ≡ false → ¬ IsBad columns t v
not_bad columns t v e f bad =
    let has = has_both t v in
    let there = is_there columns has.0 t v e f has.1 has.2 in
    let none = bad has.0 in
    cc

pub bad_decides : (columns : ℕ) (t : Target) (v : Value) (a b : Bool) → a ≡ is_absent columns t → b ≡ is_out_of_range v → Decides (a || b) (IsBad columns t v)
bad_decides columns t v true b e f = (λ yes. absent_bad columns t v (sym e), λ bad. refl)
bad_decides columns t v false true e f = (λ yes. far_bad columns t v (sym f), λ bad. refl)
bad_decides columns t v false false e f = (λ yes. absurd (cc), λ bad. absurd (not_bad columns t v (sym e) (sym f) bad))
