-- The names that a printed form declares are those of the test's locations, in order.
use Rattle.std.proofs.Common.{◌≡◌, ◌≢◌, ℕ, ◌+◌, ◌<◌, zero, suc, List, [], ◌∷◌, ◌++◌, map, length, get_or, slice_get, Some, None, Bool, true, false, ◌||◌, cond, eqb, bytes_eq, flat_map, AllPairs, refl, sym, ap, ◌∙◌, subst, arith, suc-le-suc, append_assoc, append-nil, ltb}
use Rattle.std.specs.List.{list_any, position_or_len}
use Rattle.std.proofs.lemmas.List.{length-map}
use Rattle.std.proofs.lemmas.Bool.Decides.{nat_tests}
use Rattle.std.proofs.lemmas.Slice.Eq.{bytes_eq-Decides}
use Rattle.fs_litmus_tokens.specs.Values.{Value, Address}
use Rattle.fs_litmus_syntax.specs.Meaning.{atoms_of}
use Rattle.fs_litmus.specs.Locations.{Names, Binding, with_name, with_target, with_value, declared, number_of_location}
use Rattle.fs_model.specs.Condition as condition
use Rattle.fs_model.specs.Condition.{Condition, SpeaksOf}
use Rattle.fs_model.specs.Printed.{name_of}
use Rattle.fs_model.specs.Test.{address_of}
use Rattle.fs_model.specs.declared.test.Location.{Location}
use Rattle.fs_litmus.specs.inner.Written.{value_from, written_value, location_binding, register_binding, start_bindings, syntax_of}
use Rattle.std.proofs.lemmas.Bool.{false_from_ne_true}
use Rattle.std.proofs.lemmas.Option.{slice_get_within}

abbrev pub names_of : List Location → Names
names_of ls = map (λ x. x.name) ls

-- ---- tests on names

pub bytes_refl : (w : List ℕ) → bytes_eq w w ≡ true
bytes_refl w = (bytes_eq-Decides w w).1 refl

pub bytes_apart : (v w : List ℕ) → v ≢ w → bytes_eq w v ≡ false
bytes_apart v w h = false_from_ne_true (bytes_eq w v) (λ e. h (sym ((bytes_eq-Decides w v).0 e)))

-- ---- names that are apart

abbrev pub IsApart : List ℕ → List Location → Type 0
IsApart w [] = Unit {0}
IsApart w (x ∷ xs) = (w ≢ x.name) × IsApart w xs

abbrev pub AreApart : List Location → Type 0
AreApart [] = Unit {0}
AreApart (x ∷ xs) = IsApart x.name xs × AreApart xs

is_apart : (w : List ℕ) (ls : List Location) → ((k : ℕ) (d : Location) → k < length ls → w ≢ (get_or ls k d).name) → IsApart w ls
is_apart w [] h = tt
is_apart w (x ∷ xs) h = (h 0 x (omega arith), is_apart w xs (λ k d l. h (suc k) d (suc-le-suc l)))

pub are_apart : (ls : List Location) → AllPairs (λ x y. x.name ≢ y.name) ls → AreApart ls
are_apart [] h = tt
are_apart (x ∷ xs) h =
    (is_apart x.name xs (λ k d l. h 0 (suc k) d (omega arith) (suc-le-suc l)), are_apart xs (λ i j d low high. h (suc i) (suc j) d (suc-le-suc low) (suc-le-suc high)))

-- ---- names that are declared first

abbrev AreNew : Names → List Location → Type 0
AreNew names [] = Unit {0}
AreNew names (x ∷ xs) = (list_any (bytes_eq x.name) names ≡ false) × AreNew names xs

any_last : (p : List ℕ → Bool) (names : Names) (w : List ℕ) → list_any p names ≡ false → p w ≡ false → list_any p (names ++ w ∷ []) ≡ false
any_last p [] w e f = ap (λ b. b || false) f
any_last p (n ∷ names) w e f = later (p n) (list_any p names) (list_any p (names ++ w ∷ [])) e (λ k. any_last p names w k f)
  where
    later : (a b c : Bool) → (a || b) ≡ false → (b ≡ false → c ≡ false) → (a || c) ≡ false
    later true b c e f = e
    later false b c e f = f e

new_after : (names : Names) (w : List ℕ) (ls : List Location) → AreNew names ls → IsApart w ls → AreNew (names ++ w ∷ []) ls
new_after names w [] h k = tt
new_after names w (x ∷ xs) h k = (any_last (bytes_eq x.name) names w h.0 (bytes_apart w x.name k.0), new_after names w xs h.1 k.1)

all_new : (ls : List Location) → AreNew [] ls
all_new [] = tt
all_new (x ∷ xs) = (refl, all_new xs)

locations_first : (names : Names) (ls : List Location) → AreNew names ls → AreApart ls → declared names (map location_binding ls) ≡ names ++ names_of ls
locations_first names [] h k = sym (append-nil names)
locations_first names (x ∷ xs) h k =
    ap (λ b. declared (cond b names (names ++ x.name ∷ [])) (map location_binding xs)) h.0
    ∙ locations_first (names ++ x.name ∷ []) xs (new_after names x.name xs h.1 k.0) k.1
    ∙ append_assoc names (x.name ∷ []) (names_of xs)

-- ---- names that are there already

abbrev AreIn : Names → List Location → Type 0
AreIn names [] = Unit {0}
AreIn names (x ∷ xs) = (list_any (bytes_eq x.name) names ≡ true) × AreIn names xs

or_true : (a b : Bool) → b ≡ true → (a || b) ≡ true
or_true true b e = refl
or_true false b e = e

in_more : (n : List ℕ) (names : Names) (ls : List Location) → AreIn names ls → AreIn (n ∷ names) ls
in_more n names [] h = tt
in_more n names (x ∷ xs) h = (or_true (bytes_eq x.name n) _ h.0, in_more n names xs h.1)

are_in : (ls : List Location) → AreIn (names_of ls) ls
are_in [] = tt
are_in (x ∷ xs) = (ap (λ b. b || list_any (bytes_eq x.name) (names_of xs)) (bytes_refl x.name), in_more x.name (names_of xs) xs (are_in xs))

name_in : (ls : List Location) (k : ℕ) → k < length ls → list_any (bytes_eq (name_of ls k)) (names_of ls) ≡ true
name_in [] k h = absurd (omega (arith, h))
name_in (x ∷ xs) zero h = ap (λ b. b || list_any (bytes_eq x.name) (names_of xs)) (bytes_refl x.name)
name_in (x ∷ xs) (suc k) h = or_true (bytes_eq (name_of xs k) x.name) _ (name_in xs k (omega (arith, h)))

with_known : (names : Names) (w : List ℕ) → list_any (bytes_eq w) names ≡ true → with_name names w ≡ names
with_known names w e = ap (λ b. cond b names (names ++ w ∷ [])) e

value_either : (names : Names) (b : Bool) (name : List ℕ) (v : Value) → list_any (bytes_eq name) names ≡ true → with_value names v ≡ names → with_value names (cond b (Address name) v) ≡ names
value_either names true name v h k = with_known names name h
value_either names false name v h k = k

value_known : (names : Names) (k : ℕ) (ls : List Location) (w : ℕ) → AreIn names ls → with_value names (value_from k ls w) ≡ names
value_known names k [] w h = refl
value_known names k (x ∷ xs) w h = value_either names (eqb (address_of k) w) x.name (value_from (k + 1) xs w) h.0 (value_known names (k + 1) xs w h.1)

-- the bindings declare no name more
abbrev AreKnown : Names → List Binding → Type 0
AreKnown names [] = Unit {0}
AreKnown names (b ∷ bs) = (with_value (with_target names b.0) b.1 ≡ names) × AreKnown names bs

known_join : (names : Names) (ones bs : List Binding) → AreKnown names ones → AreKnown names bs → AreKnown names (ones ++ bs)
known_join names [] bs h k = k
known_join names (a ∷ ones) bs h k = (h.0, known_join names ones bs h.1 k)

declared_known : (names : Names) (bs : List Binding) → AreKnown names bs → declared names bs ≡ names
declared_known names [] h = refl
declared_known names (b ∷ bs) h = ap (λ ns. declared ns bs) h.0 ∙ declared_known names bs h.1

declared_join : (names : Names) (ones bs : List Binding) → declared names (ones ++ bs) ≡ declared (declared names ones) bs
declared_join names [] bs = refl
declared_join names (a ∷ ones) bs = declared_join (with_value (with_target names a.0) a.1) ones bs

registers_known : (ls : List Location) (hart : ℕ) (ns : List (ℕ × ℕ)) → AreKnown (names_of ls) (map (register_binding ls hart) ns)
registers_known ls hart [] = tt
registers_known ls hart (n ∷ ns) = (value_known (names_of ls) 0 ls n.1 (are_in ls), registers_known ls hart ns)

starts_known : (ls : List Location) (starts : List (ℕ × List ℕ)) → AreKnown (names_of ls) (flat_map (start_bindings ls) starts)
starts_known ls [] = tt
starts_known ls (s ∷ starts) = known_join (names_of ls) (start_bindings ls s) (flat_map (start_bindings ls) starts) (registers_known ls s.0 _) (starts_known ls starts)

atoms_known : (ls : List Location) (columns : ℕ) (c : Condition) → SpeaksOf columns (length ls) c → AreKnown (names_of ls) (atoms_of (syntax_of ls c))
atoms_known ls columns condition.Always h = tt
atoms_known ls columns condition.Never h = tt
atoms_known ls columns (condition.RegisterIs hart reg w) h = (value_known (names_of ls) 0 ls w (are_in ls), tt)
atoms_known ls columns (condition.LocationIs k w) h =
    (ap (λ ns. with_value ns (written_value ls w)) (with_known (names_of ls) (name_of ls k) (name_in ls k h.0)) ∙ value_known (names_of ls) 0 ls w (are_in ls), tt)
atoms_known ls columns (condition.Deny c) h = atoms_known ls columns c h
atoms_known ls columns (condition.Both c d) h = known_join (names_of ls) (atoms_of (syntax_of ls c)) (atoms_of (syntax_of ls d)) (atoms_known ls columns c h.0) (atoms_known ls columns d h.1)
atoms_known ls columns (condition.Either c d) h = known_join (names_of ls) (atoms_of (syntax_of ls c)) (atoms_of (syntax_of ls d)) (atoms_known ls columns c h.0) (atoms_known ls columns d h.1)

-- ---- the whole

-- the locations' bindings, those of registers, and the atoms of a condition declare the locations' names
pub names_are : (ls : List Location) (starts : List (ℕ × List ℕ)) (columns : ℕ) (c : Condition) → AreApart ls → SpeaksOf columns (length ls) c → declared (declared [] (map location_binding ls ++ flat_map (start_bindings ls) starts)) (atoms_of (syntax_of ls c)) ≡ names_of ls
names_are ls starts columns c apart h =
    let first : declared [] (map location_binding ls) ≡ names_of ls = locations_first [] ls (all_new ls) apart in
    let all : declared [] (map location_binding ls ++ flat_map (start_bindings ls) starts) ≡ names_of ls =
    declared_join [] (map location_binding ls) (flat_map (start_bindings ls) starts)
    ∙ ap (λ ns. declared ns (flat_map (start_bindings ls) starts)) first
    ∙ declared_known (names_of ls) (flat_map (start_bindings ls) starts) (starts_known ls starts) in
    ap (λ ns. declared ns (atoms_of (syntax_of ls c))) all ∙ declared_known (names_of ls) (atoms_of (syntax_of ls c)) (atoms_known ls columns c h)

-- ---- the number of a location

place_of_name : (ls : List Location) (k : ℕ) (x : Location) → AreApart ls → slice_get ls k ≡ Some x → position_or_len (bytes_eq x.name) (names_of ls) ≡ k
place_of_name [] k x apart e = absurd (cc)
place_of_name (y ∷ ls) zero x apart e =
    let same : y ≡ x = cc in
    let found : bytes_eq x.name y.name ≡ true = subst (λ z. bytes_eq x.name z.name ≡ true) (sym same) (bytes_refl x.name) in
    rw found refl
place_of_name (y ∷ ls) (suc k) x apart e =
    let other : bytes_eq x.name y.name ≡ false = bytes_apart y.name x.name (apart_at y.name ls k x apart.0 e) in
    let later = place_of_name ls k x apart.1 e in
    rw other (omega (arith, later))
  where
    apart_at : (w : List ℕ) (ls : List Location) (k : ℕ) (x : Location) → IsApart w ls → slice_get ls k ≡ Some x → w ≢ x.name
    apart_at w [] k x h e = absurd (cc)
    apart_at w (y ∷ ls) zero x h e = let same : y ≡ x = cc in subst (λ z. w ≢ z.name) same h.0
    apart_at w (y ∷ ls) (suc k) x h e = apart_at w ls k x h.1 e

pub number_of_name : (ls : List Location) (k : ℕ) (x : Location) → AreApart ls → slice_get ls k ≡ Some x → number_of_location (names_of ls) x.name ≡ Some k
number_of_name ls k x apart e =
    let at = place_of_name ls k x apart e in
    let inside = slice_get_within ls k x e in
    let test : ltb k (length (names_of ls)) ≡ true = rw length-map (grind (arith, nat_tests)) in
    ap (λ n. cond (ltb n (length (names_of ls))) (Some n) None) at ∙ ap (λ b. cond b (Some k) None) test
