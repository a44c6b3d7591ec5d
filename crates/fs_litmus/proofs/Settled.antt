-- Settings that are read: registers and locations that are there, with words of 32 bits.
use Rattle.std.proofs.Common.{◌≡◌, ℕ, ◌+◌, ◌*◌, ◌-◌, ◌<◌, ◌^◌, ◌%◌, List, [], ◌∷◌, ◌++◌, Bool, true, false, ◌&&◌, ◌||◌, ◌==◌, cond, Option, Some, None, refl, ap, ◌∙◌, subst, length, map, ltb-true, arith}
use Rattle.std.specs.Prelude.{option_map, option_and_then, All, nat_le, nat_lt}
use Rattle.std.specs.List.{list_any, range_with_len}
use Rattle.std.specs.Str.Parse.{digits_value}
use Rattle.std.proofs.lemmas.List.Elements.{All-map}
use Rattle.std.proofs.lemmas.List.Quantifiers.{position-Some}
use Rattle.std.proofs.lemmas.List.FromFn.{length-map-range_with_len}
use Rattle.std.specs.Str.{bytes_eq}
use Rattle.fs_litmus_tokens.specs.Numbers.{number_of, numeral}
use Rattle.fs_litmus_tokens.specs.Values.{Target, Register, Location, Value, Number, Address}
use Rattle.fs_instr.specs.Registers.{register_of}
use Rattle.fs_instr.proofs.OfTableLemmas.{register_below}
use Rattle.fs_litmus_syntax.specs.Meaning as meaning
use Rattle.fs_model.specs.Condition.{Condition, Always, Never, Deny, Both, Either, SpeaksOf}
use Rattle.fs_model.specs.Test.{IsStart}
use Rattle.fs_litmus.specs.Locations.{Names, Binding, number_of_location}
use Rattle.fs_litmus.specs.Settings.{signed, address_word, word_of, register_holder, holder_of, setting_of, IsThere, is_x0, same_holder, holders, fresh, settings_after}
use Rattle.fs_litmus.specs.Starts.{word_at, registers_of, starts_of}
use Rattle.fs_litmus.specs.Atoms.{atom_at, condition_in}
use Rattle.fs_litmus.specs.declared.settings.Holder.{Holder}
use Rattle.fs_litmus.specs.declared.settings.Holder.TheVariants as holder
use Rattle.fs_litmus.specs.declared.settings.Setting.{Setting}
use Rattle.fs_litmus.proofs.Bools.{both}

-- ---- options

pub record Found {A : Type 0} (o : Option A) (P : A → Type 0) : Type 0 where
  pub value : A
  pub is : o ≡ Some value
  pub holds : P value

pub then_found : {A B : Type 0} (f : A → Option B) (o : Option A) (b : B) → option_and_then f o ≡ Some b → Found o (λ a. f a ≡ Some b)
then_found f None b e = absurd (cc)
then_found f (Some a) b e = record { value = a; is = refl; holds = e }

pub map_found : {A B : Type 0} (f : A → B) (o : Option A) (b : B) → option_map f o ≡ Some b → Found o (λ a. f a ≡ b)
map_found f None b e = absurd (cc)
map_found f (Some a) b e = record { value = a; is = refl; holds = cc }

-- what a test lets through
passed : {A : Type 0} (c : Bool) (a b : A) → cond c (Some a) None ≡ Some b → (c ≡ true) × (a ≡ b)
passed true a b e = (refl, cc)
passed false a b e = absurd (cc)

-- ---- words

numeral_below : (radix : ℕ) (ds : List ℕ) (n : ℕ) → numeral radix ds ≡ Some n → n < 2 ^ 32
unfolding numeral
numeral_below radix ds n e =
    let t = passed _ (digits_value radix ds) n e in
    let small = (both _ _ (both _ _ t.0).1).1 in
    subst (λ k. k < 2 ^ 32) t.1 (ltb-true (digits_value radix ds) (2 ^ 32) small)

either_numeral : (c : Bool) (a b : Option ℕ) (n : ℕ) → (a ≡ Some n → n < 2 ^ 32) → (b ≡ Some n → n < 2 ^ 32) → cond c a b ≡ Some n → n < 2 ^ 32
either_numeral true a b n one two e = one e
either_numeral false a b n one two e = two e

number_below : (w : List ℕ) (n : ℕ) → number_of w ≡ Some n → n < 2 ^ 32
unfolding number_of
number_below w n e = either_numeral _ _ _ n (numeral_below _ _ n) (numeral_below _ _ n) e

below_modulus : (n : ℕ) → n % (2 ^ 32) < 2 ^ 32
below_modulus n = omega arith

signed_below : (negative : Bool) (n w : ℕ) → n < 2 ^ 32 → signed negative n ≡ Some w → w < 2 ^ 32
signed_below false n w h e = let same : n ≡ w = cc in subst (λ k. k < 2 ^ 32) same h
signed_below true n w h e = subst (λ k. k < 2 ^ 32) (passed (nat_le n 2147483648) ((2 ^ 32 - n) % (2 ^ 32)) w e).1 (below_modulus (2 ^ 32 - n))

pub word_below : (names : Names) (v : Value) (w : ℕ) → word_of names v ≡ Some w → w < 2 ^ 32
word_below names (Number negative digits) w e =
    let n = then_found (signed negative) (number_of digits) w e in
    signed_below negative n.value w (number_below digits n.value n.is) n.holds
word_below names (Address name) w e =
    let k = map_found address_word (number_of_location names name) w e in
    subst (λ n. n < 2 ^ 32) k.holds (below_modulus (4096 + 16 * k.value))

-- ---- holders

register_there : (columns names h r : ℕ) (p : Holder) → r < 32 → register_holder columns h r ≡ Some p → IsThere columns names p
register_there columns names h r p low e =
    let t = passed (nat_lt h columns) (holder.Register h r) p e in
    subst (IsThere columns names) t.1 (ltb-true h columns t.0, low)

pub holder_there : (columns : ℕ) (names : Names) (t : Target) (p : Holder) → holder_of columns names t ≡ Some p → IsThere columns (length names) p
holder_there columns names (Register h r) p e =
    let n = then_found (λ n. option_and_then (register_holder columns n) (register_of r)) (number_of h) p e in
    let k = then_found (register_holder columns n.value) (register_of r) p n.holds in
    register_there columns (length names) n.value k.value p (register_below r k.value k.is) k.holds
holder_there columns names (Location w) p e =
    let k = map_found (λ k. holder.Location k) (number_of_location names w) p e in
    subst (IsThere columns (length names)) k.holds (position-Some (bytes_eq w) names k.value [] k.is).0

-- a setting of what is there, to a word of 32 bits
pub record IsSettled (columns names : ℕ) (s : Setting) : Type 0 where
  pub there : IsThere columns names s.holder
  pub fits : s.word < 2 ^ 32

pub settled : (columns : ℕ) (names : Names) (b : Binding) (s : Setting) → setting_of columns names b ≡ Some s → IsSettled columns (length names) s
settled columns names b s e =
    let p = then_found (λ p. option_map (λ w. record { holder = p; word = w }) (word_of names b.1)) (holder_of columns names b.0) s e in
    let w = map_found (λ w. record { holder = p.value; word = w }) (word_of names b.1) s p.holds in
    subst (IsSettled columns (length names)) w.holds (record { there = holder_there columns names b.0 p.value p.is; fits = word_below names b.1 w.value w.is })

-- ---- conditions

atom_speaks : (columns names : ℕ) (p : Holder) (w : ℕ) → IsThere columns names p → w < 2 ^ 32 → SpeaksOf columns names (atom_at p w)
atom_speaks columns names (holder.Register h r) w t l = (t.0, t.1, l)
atom_speaks columns names (holder.Location k) w t l = (t, l)

pub speaks : (columns : ℕ) (names : Names) (w : meaning.Condition) (c : Condition) → condition_in columns names w ≡ Some c → SpeaksOf columns (length names) c
speaks columns names (meaning.Atom t v) c e =
    let s = map_found (λ s. atom_at s.holder s.word) (setting_of columns names (t, v)) c e in
    let h = settled columns names (t, v) s.value s.is in
    subst (SpeaksOf columns (length names)) s.holds (atom_speaks columns (length names) s.value.holder s.value.word h.there h.fits)
speaks columns names meaning.True c e = let same : Always ≡ c = cc in subst (SpeaksOf columns (length names)) same tt
speaks columns names meaning.False c e = let same : Never ≡ c = cc in subst (SpeaksOf columns (length names)) same tt
speaks columns names (meaning.Deny w) c e =
    let x = map_found Deny (condition_in columns names w) c e in
    subst (SpeaksOf columns (length names)) x.holds (speaks columns names w x.value x.is)
speaks columns names (meaning.Both a b) c e =
    let x = then_found (λ x. option_map (λ y. Both x y) (condition_in columns names b)) (condition_in columns names a) c e in
    let y = map_found (λ y. Both x.value y) (condition_in columns names b) c x.holds in
    subst (SpeaksOf columns (length names)) y.holds (speaks columns names a x.value x.is, speaks columns names b y.value y.is)
speaks columns names (meaning.Either a b) c e =
    let x = then_found (λ x. option_map (λ y. Either x y) (condition_in columns names b)) (condition_in columns names a) c e in
    let y = map_found (λ y. Either x.value y) (condition_in columns names b) c x.holds in
    subst (SpeaksOf columns (length names)) y.holds (speaks columns names a x.value x.is, speaks columns names b y.value y.is)

-- ---- what registers and locations begin with

-- words of 32 bits, of other registers than x0
abbrev pub AreFine : List Setting → Type 0
AreFine [] = Unit {0}
AreFine (s ∷ ss) = (s.word < 2 ^ 32) × (is_x0 s.holder ≡ false) × AreFine ss

fine_push : (ss : List Setting) (s : Setting) → AreFine ss → s.word < 2 ^ 32 → is_x0 s.holder ≡ false → AreFine (ss ++ s ∷ [])
fine_push [] s h l e = (l, e, tt)
fine_push (x ∷ ss) s h l e = (h.0, h.1, fine_push ss s h.2 l e)

set_if : (a b : Bool) (s t : Setting) → cond (a || b) None (Some s) ≡ Some t → (s ≡ t) × (a ≡ false)
set_if true b s t e = absurd (cc)
set_if false true s t e = absurd (cc)
set_if false false s t e = (cc, refl)

fresh_fine : (columns : ℕ) (names : Names) (ss : List Setting) (b : Binding) (s : Setting) → option_and_then (fresh (holders ss)) (setting_of columns names b) ≡ Some s → (s.word < 2 ^ 32) × (is_x0 s.holder ≡ false)
fresh_fine columns names ss b s e =
    let x = then_found (fresh (holders ss)) (setting_of columns names b) s e in
    let h = settled columns names b x.value x.is in
    let t = set_if (is_x0 x.value.holder) (list_any (same_holder x.value.holder) (holders ss)) x.value s x.holds in
    subst (λ (z : Setting). (z.word < 2 ^ 32) × (is_x0 z.holder ≡ false)) t.0 (h.fits, t.1)

pub settings_fine : (columns : ℕ) (names : Names) (ss all : List Setting) (bs : List Binding) → AreFine ss → settings_after columns names ss bs ≡ Some all → AreFine all
settings_fine columns names ss all [] h e = let same : ss ≡ all = cc in subst AreFine same h
settings_fine columns names ss all (b ∷ bs) h e =
    let s = then_found (λ s. settings_after columns names (ss ++ s ∷ []) bs) (option_and_then (fresh (holders ss)) (setting_of columns names b)) all e in
    let f = fresh_fine columns names ss b s.value s.is in
    settings_fine columns names (ss ++ s.value ∷ []) all bs (fine_push ss s.value h f.0 f.1) s.holds

either_word : (c : Bool) (a b : ℕ) → a < 2 ^ 32 → b < 2 ^ 32 → cond c a b < 2 ^ 32
either_word true a b h k = h
either_word false a b h k = k

pub word_at_below : (ss : List Setting) (p : Holder) → AreFine ss → word_at ss p < 2 ^ 32
word_at_below [] p h = omega arith
word_at_below (s ∷ ss) p h = either_word (same_holder s.holder p) s.word (word_at ss p) h.0 (word_at_below ss p h.2)

not_zero : (p : Holder) (h : ℕ) → is_x0 p ≡ false → same_holder p (holder.Register h 0) ≡ false
not_zero (holder.Register g q) h e = none (g == h) (q == 0) e where
  none : (a b : Bool) → b ≡ false → (a && b) ≡ false
  none true b e = e
  none false b e = refl
not_zero (holder.Location k) h e = refl

zero_word : (ss : List Setting) (h : ℕ) → AreFine ss → word_at ss (holder.Register h 0) ≡ 0
zero_word [] h f = refl
zero_word (s ∷ ss) h f = ap (λ c. cond c s.word (word_at ss (holder.Register h 0))) (not_zero s.holder h f.1) ∙ zero_word ss h f.2

is_start : (ss : List Setting) (h : ℕ) → AreFine ss → IsStart (registers_of ss h)
is_start ss h f = record {
  registers = length-map-range_with_len (λ r. word_at ss (holder.Register h r)) 0 32;
  zero_register = zero_word ss h f;
  fit = All-map (λ w. w < 2 ^ 32) (λ r. word_at ss (holder.Register h r)) (range_with_len 0 32) (λ k d low. word_at_below ss _ f);
}

pub are_starts : (columns : ℕ) (ss : List Setting) → AreFine ss → All IsStart (starts_of columns ss)
are_starts columns ss f = All-map IsStart (registers_of ss) (range_with_len 0 columns) (λ k d low. is_start ss _ f)

pub location_words : (n : ℕ) (ss : List Setting) → AreFine ss → All (λ w. w < 2 ^ 32) (map (λ k. word_at ss (holder.Location k)) (range_with_len 0 n))
location_words n ss f = All-map (λ w. w < 2 ^ 32) (λ k. word_at ss (holder.Location k)) (range_with_len 0 n) (λ k d low. word_at_below ss _ f)
