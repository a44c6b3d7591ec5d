-- What the bindings of a printed form set.
use Rattle.std.proofs.Common.{◌≡◌, ℕ, ◌+◌, ◌*◌, ◌<◌, ◌≤◌, ◌^◌, zero, suc, List, [], ◌∷◌, length, slice_get, Some, None, option_map, option_and_then, Bool, true, false, cond, eqb, ltb, eqb-true, refl, ap, ◌∙◌, subst, arith, mod-eq_of_lt, decimal}
use Rattle.std.proofs.lemmas.Bool.Decides.{nat_tests}
use Rattle.fs_litmus_tokens.specs.Values.{Target, Register, Location, Value, Number, Address}
use Rattle.fs_instr.specs.Registers.{register_of}
use Rattle.fs_instr.proofs.Printed.{number_back, register_back}
use Rattle.fs_litmus.specs.Locations.{Names}
use Rattle.fs_litmus.specs.Settings as settings
use Rattle.fs_litmus.specs.Settings.{word_of, holder_of, register_holder, setting_of}
use Rattle.fs_litmus.specs.declared.settings.Holder.{Holder}
use Rattle.fs_litmus.specs.declared.settings.Holder.TheVariants as holder
use Rattle.fs_model.specs.Printed.{name_of}
use Rattle.fs_model.specs.Test.{address_of}
use Rattle.fs_model.specs.declared.test.Location as locations
use Rattle.fs_litmus.specs.inner.Written.{value_from, written_value, register_name, location_binding, register_binding}
use Rattle.fs_litmus.proofs.PrintedMeaningNames.{names_of, AreApart, number_of_name}
use Rattle.std.proofs.lemmas.Option.{slice_get_within}

-- ---- words

address_same : (k : ℕ) → k < 8 → settings.address_word k ≡ address_of k
address_same k h = let small : 4096 + 16 * k < 2 ^ 32 = omega (arith, h) in mod-eq_of_lt small

number_word : (names : Names) (w : ℕ) → w < 2 ^ 32 → word_of names (Number false (decimal w)) ≡ Some w
number_word names w h = ap (λ o. option_and_then (settings.signed false) o) (number_back w h)

address_word : (ls : List locations.Location) (k : ℕ) (x : locations.Location) (w : ℕ) → AreApart ls → length ls ≤ 8 → slice_get ls k ≡ Some x → address_of k ≡ w → word_of (names_of ls) (Address x.name) ≡ Some w
address_word ls k x w apart few e same =
    let inside = slice_get_within ls k x e in
    ap (option_map settings.address_word) (number_of_name ls k x apart e) ∙ ap Some (address_same k (omega (arith, inside, few)) ∙ same)

value_word_either : (names : Names) (b : Bool) (name : List ℕ) (v : Value) (w : ℕ) → (b ≡ true → word_of names (Address name) ≡ Some w) → word_of names v ≡ Some w → word_of names (cond b (Address name) v) ≡ Some w
value_word_either names true name v w h k = h refl
value_word_either names false name v w h k = k

-- the locations from number k on are these
abbrev pub AreFrom : List locations.Location → ℕ → List locations.Location → Type 0
AreFrom ls k rest = (j : ℕ) (x : locations.Location) → slice_get rest j ≡ Some x → slice_get ls (k + j) ≡ Some x

pub from_later : (ls : List locations.Location) (k : ℕ) (x : locations.Location) (rest : List locations.Location) → AreFrom ls k (x ∷ rest) → AreFrom ls (k + 1) rest
from_later ls k x rest h j y e = let same : k + suc j ≡ k + 1 + j = omega arith in subst (λ n. slice_get ls n ≡ Some y) same (h (suc j) y e)

pub from_first : (ls : List locations.Location) (k : ℕ) (x : locations.Location) (rest : List locations.Location) → AreFrom ls k (x ∷ rest) → slice_get ls k ≡ Some x
from_first ls k x rest h = let same : k + 0 ≡ k = omega arith in subst (λ n. slice_get ls n ≡ Some x) same (h 0 x refl)

value_word : (ls : List locations.Location) (k : ℕ) (rest : List locations.Location) (w : ℕ) → AreApart ls → length ls ≤ 8 → w < 2 ^ 32 → AreFrom ls k rest → word_of (names_of ls) (value_from k rest w) ≡ Some w
value_word ls k [] w apart few small h = number_word (names_of ls) w small
value_word ls k (x ∷ rest) w apart few small h =
    value_word_either (names_of ls) (eqb (address_of k) w) x.name (value_from (k + 1) rest w) w
    (λ e. address_word ls k x w apart few (from_first ls k x rest h) (eqb-true (address_of k) w e))
    (value_word ls (k + 1) rest w apart few small (from_later ls k x rest h))

-- a written word means the word
pub written_word : (ls : List locations.Location) (w : ℕ) → AreApart ls → length ls ≤ 8 → w < 2 ^ 32 → word_of (names_of ls) (written_value ls w) ≡ Some w
written_word ls w apart few small = value_word ls 0 ls w apart few small (λ j x e. let same : j ≡ 0 + j = omega arith in subst (λ n. slice_get ls n ≡ Some x) same e)

-- ---- holders

register_there : (columns h r : ℕ) → h < columns → register_holder columns h r ≡ Some (holder.Register h r)
register_there columns h r e = let t : ltb h columns ≡ true = grind (arith, nat_tests) in ap (λ b. cond b (Some (holder.Register h r)) None) t

register_target : (columns : ℕ) (names : Names) (h r : ℕ) → h < columns → columns ≤ 8 → r < 32 → holder_of columns names (Register (decimal h) (register_name r)) ≡ Some (holder.Register h r)
register_target columns names h r e few small =
    ap (λ o. option_and_then (λ n. option_and_then (register_holder columns n) (register_of (register_name r))) o) (number_back h (omega (arith, e, few)))
    ∙ ap (λ o. option_and_then (register_holder columns h) o) (register_back r small)
    ∙ register_there columns h r e

location_target : (columns : ℕ) (ls : List locations.Location) (k : ℕ) (x : locations.Location) → AreApart ls → slice_get ls k ≡ Some x → holder_of columns (names_of ls) (Location x.name) ≡ Some (holder.Location k)
location_target columns ls k x apart e = ap (option_map (λ n. holder.Location n)) (number_of_name ls k x apart e)

-- ---- settings

setting_from : (columns : ℕ) (names : Names) (t : Target) (v : Value) (p : Holder) (w : ℕ) → holder_of columns names t ≡ Some p → word_of names v ≡ Some w → setting_of columns names (t, v) ≡ Some (record { holder = p; word = w })
setting_from columns names t v p w e f =
    ap (λ o. option_and_then (λ q. option_map (λ x. record { holder = q; word = x }) (word_of names v)) o) e
    ∙ ap (λ o. option_map (λ x. record { holder = p; word = x }) o) f

pub register_set : (columns : ℕ) (ls : List locations.Location) (h r w : ℕ) → AreApart ls → length ls ≤ 8 → h < columns → columns ≤ 8 → r < 32 → w < 2 ^ 32 → setting_of columns (names_of ls) (register_binding ls h (r, w)) ≡ Some (record { holder = holder.Register h r; word = w })
register_set columns ls h r w apart few e harts low small =
    setting_from columns (names_of ls) (Register (decimal h) (register_name r)) (written_value ls w) (holder.Register h r) w (register_target columns (names_of ls) h r e harts low) (written_word ls w apart few small)

pub location_set : (columns : ℕ) (ls : List locations.Location) (k : ℕ) (x : locations.Location) → AreApart ls → slice_get ls k ≡ Some x → x.word < 2 ^ 32 → setting_of columns (names_of ls) (location_binding x) ≡ Some (record { holder = holder.Location k; word = x.word })
location_set columns ls k x apart e small =
    setting_from columns (names_of ls) (Location x.name) (Number false (decimal x.word)) (holder.Location k) x.word (location_target columns ls k x apart e) (number_word (names_of ls) x.word small)

-- the atom of a location
pub location_asked : (columns : ℕ) (ls : List locations.Location) (k w : ℕ) → AreApart ls → length ls ≤ 8 → k < length ls → w < 2 ^ 32 → setting_of columns (names_of ls) (Location (name_of ls k), written_value ls w) ≡ Some (record { holder = holder.Location k; word = w })
location_asked columns ls k w apart few inside small =
    let at = location_at ls k inside in
    setting_from columns (names_of ls) (Location (name_of ls k)) (written_value ls w) (holder.Location k) w
    (subst (λ n. holder_of columns (names_of ls) (Location n) ≡ Some (holder.Location k)) (at.2) (location_target columns ls k at.0 apart at.1))
    (written_word ls w apart few small)
  where
    location_at : (ls : List locations.Location) (k : ℕ) → k < length ls → (x : locations.Location) × (slice_get ls k ≡ Some x) × (x.name ≡ name_of ls k)
    location_at [] k h = absurd (omega (arith, h))
    location_at (x ∷ ls) zero h = (x, refl, refl)
    location_at (x ∷ ls) (suc k) h = location_at ls k (omega (arith, h))
