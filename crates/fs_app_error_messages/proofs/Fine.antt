-- A condition without a bad atom has no fault of an atom.
use Rattle.std.proofs.Common.{◌≡◌, ℕ, ◌<◌, inl, inr, List, [], ◌∷◌, ◌++◌, Some, Bool, true, false, ◌||◌, ◌&&◌, cond, refl, ap, ◌∙◌, subst, suc, length, take, nat_lt, arith}
use Rattle.std.specs.Prelude.{is_some, position}
use Rattle.std.specs.List.{list_any, position_or_len}
use Rattle.std.specs.Str.{bytes_eq}
use Rattle.std.proofs.lemmas.List.Folds.{list_any-append}
use Rattle.std.proofs.lemmas.Slice.Eq.{bytes_eq-Decides}
use Rattle.fs_kinds.specs.declared.fault.Fault.TheVariants.{BadCondition}
use Rattle.fs_litmus_tokens.specs.Tokens.{Lined}
use Rattle.fs_litmus_tokens.specs.Values.{Target, Register, Location, Value, Number, Address, IsTarget, register, location, bracketed, IsValue, number as digits, minus, address}
use Rattle.fs_litmus_syntax.specs.Grammar.{Syntax, IsEqual, once, twice, IsUnequal, less_greater, bang_equals, IsUnit, atom, other, truth, falsity, tilde, denial, group, IsConjunction, unit, both, IsDisjunction, conjunction, either, ArePremises, premise, another, IsImplication, disjunction, implication, IsCondition, complete}
use Rattle.fs_litmus_syntax.specs.Meaning.{atoms_of}
use Rattle.fs_litmus_syntax.specs.Form.{Form}
use Rattle.fs_litmus.specs.Locations.{Names, Binding, with_name, with_target, with_value, declared}
use Rattle.fs_litmus.specs.Settings.{are_there, setting_of, entry_bindings}
use Rattle.fs_litmus.specs.Reads.{HasTokens, HasForm}
use Rattle.fs_litmus.specs.Faults.{HasFault, meaning, IsFormFault, code, atom as of_atom}
use Rattle.fs_litmus.proofs.CodeFaults.{code_low}
use Rattle.fs_litmus.proofs.FrontFaults.{tokens_once}
use Rattle.fs_app_error_messages.specs.Atoms.{IsBad, IsSign, BeginsBad, IsBadAfter, HasNoBadAtom, ends_open, opens, is_absent, is_out_of_range}
use Rattle.fs_app_error_messages.proofs.Bad.{absent_bad, far_bad, HasTarget, HasValue, is_there}

-- ---- from the tokens

abbrev Good : ℕ → List Lined → Type 0
Good columns ts = (i : ℕ) → ¬ IsBadAfter columns ts i

open_behind : (x : Lined) (xs : List Lined) → opens x.0 ≡ false → ends_open xs ≡ false → ends_open (x ∷ xs) ≡ false
open_behind x [] e f = e
open_behind x (y ∷ ys) e f = f

module _ (columns : ℕ) where
  past_one : (x : Lined) (ts : List Lined) → opens x.0 ≡ false → Good columns (x ∷ ts) → Good columns ts
  past_one x ts e good i bad = good (suc i) (record { whole = open_behind x (take i ts) e bad.whole; begins = bad.begins })

  past_three : (x y z : Lined) (ts : List Lined) → opens z.0 ≡ false → Good columns (x ∷ y ∷ z ∷ ts) → Good columns ts
  past_three x y z ts e good i bad = good (suc (suc (suc i))) (record { whole = open_behind z (take i ts) e bad.whole; begins = bad.begins })

  past_target : {ts rest : List Lined} {t : Target} → IsTarget ts t rest → Good columns ts → Good columns rest
  past_target register good = past_three _ _ _ _ refl good
  past_target (location p) good = past_one _ _ refl good
  past_target (bracketed p) good = past_three _ _ _ _ refl good

  past_value : {ts rest : List Lined} {v : Value} → IsValue ts v rest → Good columns ts → Good columns rest
  past_value digits good = past_one _ _ refl good
  past_value minus good = past_one _ _ refl (past_one _ _ refl good)
  past_value (address p) good = past_one _ _ refl good

  past_equal : {ts rest : List Lined} → IsEqual ts rest → Good columns ts → Good columns rest
  past_equal once good = past_one _ _ refl good
  past_equal twice good = past_one _ _ refl (past_one _ _ refl good)

  past_unequal : {ts rest : List Lined} → IsUnequal ts rest → Good columns ts → Good columns rest
  past_unequal less_greater good = past_one _ _ refl (past_one _ _ refl good)
  past_unequal bang_equals good = past_one _ _ refl (past_one _ _ refl good)

  -- no register isn't there, and no number is out of range
  abbrev AreFine : List Binding → Type 0
  AreFine [] = Unit {0}
  AreFine (b ∷ bs) = (is_absent columns b.0 ≡ false) × (is_out_of_range b.1 ≡ false) × AreFine bs

  fine_append : (xs ys : List Binding) → AreFine xs → AreFine ys → AreFine (xs ++ ys)
  fine_append [] ys h k = k
  fine_append (x ∷ xs) ys h k = (h.0, h.1, fine_append xs ys h.2 k)

  not_true : (b : Bool) → (b ≡ true → ⊥) → b ≡ false
  not_true true h = absurd (h refl)
  not_true false h = refl

  atom_fine : {ts sign mid rest : List Lined} {t : Target} {v : Value} → IsTarget ts t sign → IsSign sign mid → IsValue mid v rest → Good columns ts → (is_absent columns t ≡ false) × (is_out_of_range v ≡ false)
  atom_fine {ts = ts} {sign = sign} {mid = mid} {rest = rest} {t = t} {v = v} x q y good =
      let begins : IsBad columns t v → BeginsBad columns ts = λ bad. record { target = t; value = v; sign = sign; middle = mid; after = rest; is_target = x; is_sign = q; is_value = y; is_bad = bad } in
      let not_bad : IsBad columns t v → ⊥ = λ bad. good 0 (record { whole = refl; begins = begins bad }) in
      (not_true (is_absent columns t) (λ e. not_bad (absent_bad columns t v e)), not_true (is_out_of_range v) (λ e. not_bad (far_bad columns t v e)))

  mutual
    unit_fine : {ts rest : List Lined} {s : Syntax} → IsUnit ts s rest → Good columns ts → AreFine (atoms_of s) × Good columns rest
    unit_fine (atom x q v) good =
        let f = atom_fine x (inl q) v good in
        ((f.0, f.1, tt), past_value v (past_equal q (past_target x good)))
    unit_fine (other x q v) good =
        let f = atom_fine x (inr q) v good in
        ((f.0, f.1, tt), past_value v (past_unequal q (past_target x good)))
    unit_fine truth good = (tt, past_one _ _ refl good)
    unit_fine falsity good = (tt, past_one _ _ refl good)
    unit_fine (tilde x) good = unit_fine x (past_one _ _ refl good)
    unit_fine (denial x) good = unit_fine x (past_one _ _ refl good)
    unit_fine (group x) good = let k = implication_fine x (past_one _ _ refl good) in (k.0, past_one _ _ refl k.1)

    conjunction_fine : {ts rest : List Lined} {s : Syntax} → IsConjunction ts s rest → Good columns ts → AreFine (atoms_of s) × Good columns rest
    conjunction_fine (unit x) good = unit_fine x good
    conjunction_fine (both {a = a} {b = b} x y) good =
        let k = conjunction_fine x good in
        let l = unit_fine y (past_one _ _ refl k.1) in
        (fine_append (atoms_of a) (atoms_of b) k.0 l.0, l.1)

    disjunction_fine : {ts rest : List Lined} {s : Syntax} → IsDisjunction ts s rest → Good columns ts → AreFine (atoms_of s) × Good columns rest
    disjunction_fine (conjunction x) good = conjunction_fine x good
    disjunction_fine (either {a = a} {b = b} x y) good =
        let k = disjunction_fine x good in
        let l = conjunction_fine y (past_one _ _ refl k.1) in
        (fine_append (atoms_of a) (atoms_of b) k.0 l.0, l.1)

    premises_fine : {ts rest : List Lined} {s : Syntax} → ArePremises ts s rest → Good columns ts → AreFine (atoms_of s) × Good columns rest
    premises_fine (premise x) good = let k = disjunction_fine x good in (k.0, past_one _ _ refl (past_one _ _ refl k.1))
    premises_fine (another {p = p} {a = a} x y) good =
        let k = premises_fine x good in
        let l = disjunction_fine y k.1 in
        (fine_append (atoms_of p) (atoms_of a) k.0 l.0, past_one _ _ refl (past_one _ _ refl l.1))

    implication_fine : {ts rest : List Lined} {s : Syntax} → IsImplication ts s rest → Good columns ts → AreFine (atoms_of s) × Good columns rest
    implication_fine (disjunction x) good = disjunction_fine x good
    implication_fine (implication {p = p} {s = s} x y) good =
        let k = premises_fine x good in
        let l = disjunction_fine y k.1 in
        (fine_append (atoms_of p) (atoms_of s) k.0 l.0, l.1)

  condition_fine : {ts : List Lined} {s : Syntax} → IsCondition ts s → Good columns ts → AreFine (atoms_of s)
  condition_fine (complete x end) good = (implication_fine x good).0

-- ---- what the condition names is declared

abbrev Has : Names → List ℕ → Type 0
Has names w = list_any (bytes_eq w) names ≡ true

with_cases : (P : Names → Type 0) (b : Bool) (xs ys : Names) → (b ≡ true → P xs) → P ys → P (cond b xs ys)
with_cases P true xs ys h k = h refl
with_cases P false xs ys h k = k

or_true : (a b : Bool) → b ≡ true → (a || b) ≡ true
or_true true b e = refl
or_true false b e = e

or_first : (a b : Bool) → a ≡ true → (a || b) ≡ true
or_first true b e = refl
or_first false b e = absurd (cc)

has_itself : (w : List ℕ) → Has (w ∷ []) w
has_itself w = or_first (bytes_eq w w) false ((bytes_eq-Decides w w).1 refl)

has_new : (names : Names) (w : List ℕ) → Has (with_name names w) w
has_new names w =
    with_cases (λ ns. Has ns w) (list_any (bytes_eq w) names) names (names ++ w ∷ []) (λ e. e) (list_any-append (bytes_eq w) names (w ∷ []) ∙ or_true (list_any (bytes_eq w) names) (list_any (bytes_eq w) (w ∷ [])) (has_itself w))

has_kept : (names : Names) (u w : List ℕ) → Has names w → Has (with_name names u) w
has_kept names u w h =
    with_cases (λ ns. Has ns w) (list_any (bytes_eq u) names) names (names ++ u ∷ []) (λ e. h) (list_any-append (bytes_eq w) names (u ∷ []) ∙ or_first (list_any (bytes_eq w) names) (list_any (bytes_eq w) (u ∷ [])) h)

target_kept : (names : Names) (t : Target) (w : List ℕ) → Has names w → Has (with_target names t) w
target_kept names (Register h r) w k = k
target_kept names (Location u) w k = has_kept names u w k

value_kept : (names : Names) (v : Value) (w : List ℕ) → Has names w → Has (with_value names v) w
value_kept names (Number n d) w k = k
value_kept names (Address u) w k = has_kept names u w k

all_kept : (names : Names) (bs : List Binding) (w : List ℕ) → Has names w → Has (declared names bs) w
all_kept names [] w k = k
all_kept names (b ∷ bs) w k = all_kept (with_value (with_target names b.0) b.1) bs w (value_kept (with_target names b.0) b.1 w (target_kept names b.0 w k))

-- ---- and so has a number

first_or_later : (p : List ℕ → Bool) (x : List ℕ) (xs : Names) (b : Bool) → p x ≡ b → list_any p (x ∷ xs) ≡ true → (list_any p xs ≡ true → position_or_len p xs < length xs) → position_or_len p (x ∷ xs) < length (x ∷ xs)
first_or_later p x xs true f e more = rw f (omega arith)
first_or_later p x xs false f e more = let later = more (rw f at e) in rw f (omega (arith, later))

found_within : (p : List ℕ → Bool) (xs : Names) → list_any p xs ≡ true → position_or_len p xs < length xs
found_within p [] e = absurd (cc)
found_within p (x ∷ xs) e = first_or_later p x xs (p x) refl e (λ f. found_within p xs f)

is_less : (m n : ℕ) → m < n → nat_lt m n ≡ true
is_less m n h = grind (arith, h)

has_number : (names : Names) (w : List ℕ) → Has names w → (k : ℕ) × (position (bytes_eq w) names ≡ Some k)
has_number names w h = (position_or_len (bytes_eq w) names, rw (is_less _ _ (found_within (bytes_eq w) names h)) refl)

abbrev AllHave : Names → List Binding → Type 0
AllHave names [] = Unit {0}
AllHave names (b ∷ bs) = HasTarget names b.0 × HasValue names b.1 × AllHave names bs

target_has : (names : Names) (t : Target) (v : Value) (bs : List Binding) → HasTarget (declared (with_value (with_target names t) v) bs) t
target_has names (Register h r) v bs = tt
target_has names (Location w) v bs = has_number _ w (all_kept (with_value (with_name names w) v) bs w (value_kept (with_name names w) v w (has_new names w)))

value_has : (names : Names) (v : Value) (bs : List Binding) → HasValue (declared (with_value names v) bs) v
value_has names (Number n d) bs = tt
value_has names (Address w) bs = has_number _ w (all_kept (with_name names w) bs w (has_new names w))

all_have : (names : Names) (bs : List Binding) → AllHave (declared names bs) bs
all_have names [] = tt
all_have names (b ∷ bs) = (target_has names b.0 b.1 bs, value_has (with_target names b.0) b.1 bs, all_have (with_value (with_target names b.0) b.1) bs)

there_all : (columns : ℕ) (names : Names) (bs : List Binding) → AreFine columns bs → AllHave names bs → are_there columns names bs ≡ true
there_all columns names [] h k = refl
there_all columns names (b ∷ bs) h k =
    let there = is_there columns names b.0 b.1 h.0 h.1 k.0 k.1 in
    let one : setting_of columns names b ≡ Some there.0 = there.1 in
    ap (λ o. is_some o && are_there columns names bs) one ∙ there_all columns names bs h.2 k.2

-- ---- the file

no_atom_fault : (bytes : List ℕ) (form : Form) (s : Syntax) (h : HasForm bytes form s) → Good form.columns h.rest → ¬ IsFormFault form s BadCondition
no_atom_fault bytes form s h good (code c) = absurd (omega (arith, code_low c))
no_atom_fault bytes form s h good (of_atom e) =
    let fine = condition_fine form.columns h.is_condition good in
    let there = there_all form.columns _ (atoms_of s) fine (all_have (declared [] (entry_bindings form.entries)) (atoms_of s)) in
    absurd (cc)

pub no_condition_fault : (bytes : List ℕ) (ts : List Lined) (closed : Bool) → HasTokens bytes ts closed → HasNoBadAtom ts → ¬ HasFault bytes BadCondition
no_condition_fault bytes ts closed has none (meaning {form = form} {s = s} h bad) =
    let same = tokens_once bytes ts h.tokens closed true has h.has_tokens in
    no_atom_fault bytes form s h (subst HasNoBadAtom same.0 none form s h.rest h.is_form h.is_condition) bad

pub form_of_fault : {bytes : List ℕ} → HasFault bytes BadCondition → (form : Form) × (s : Syntax) × HasForm bytes form s
form_of_fault (meaning {form = form} {s = s} h bad) = (form, s, h)
