-- The names that a form and its condition declare: each is a name, and no two are the same.
use Rattle.std.proofs.Common.{◌≡◌, ◌≢◌, ℕ, zero, suc, ◌<◌, List, [], ◌∷◌, ◌++◌, Bool, true, false, cond, refl, sym, length, get_or, arith}
use Rattle.std.specs.Prelude.{All, AllPairs}
use Rattle.std.specs.List.{list_any}
use Rattle.std.specs.Str.{bytes_eq}
use Rattle.std.proofs.lemmas.Slice.Eq.{bytes_eq-Decides}
use Rattle.std.proofs.lemmas.List.Folds.{list_any_at}
use Rattle.std.proofs.lemmas.List.Elements.{All-append}
use Rattle.std.proofs.lemmas.List.Quantifiers.{all_pairs_push}
use Rattle.fs_litmus_tokens.specs.Tokens.{Lined}
use Rattle.fs_litmus_tokens.specs.Values.{Target, Register, Location, Value, Number, Address, IsTarget, register, location, bracketed, IsValue, number, minus, address}
use Rattle.fs_litmus_syntax.specs.Init.{Entry, IsInitial, direct, reference, IsBare, bare, alone, IsEntry, untyped, typed, pointer, IsEntries, none, entry, IsEntryEnd, brace, semicolon, IsInit, block}
use Rattle.fs_litmus_syntax.specs.Header.{IsColumns, last, more}
use Rattle.fs_litmus_syntax.specs.Body.{Cell, IsCell, nothing, plain, IsRow, one, cells, IsSkipped, closed, skipped, IsQuantifier, exists, not_exists, forall, IsEnding, bare as unnamed, after_locations, Body, IsBody, ending, row}
use Rattle.fs_litmus_syntax.specs.declared.rows.Quantifier.{Quantifier}
use Rattle.fs_litmus_syntax.specs.Form.{Form, IsForm, form}
use Rattle.fs_litmus_syntax.specs.Grammar.{Syntax, IsEqual, once, twice, IsUnequal, less_greater, bang_equals, IsUnit, atom, other, truth, falsity, tilde, denial, group, IsConjunction, unit, both, IsDisjunction, conjunction, either, ArePremises, premise, another, IsImplication, disjunction, implication, IsCondition, complete}
use Rattle.fs_litmus_syntax.specs.Meaning.{atoms_of}
use Rattle.fs_model.specs.Test.{is_name}
use Rattle.fs_litmus.specs.Locations.{Names, Binding, with_name, with_target, with_value, declared}
use Rattle.fs_litmus.specs.Settings.{entry_bindings}
use Rattle.fs_litmus.proofs.Classed.{AreClassed, classed_is_name}

abbrev IsNamed : List ℕ → Type 0
IsNamed w = is_name w ≡ true

abbrev pub IsTargetNamed : Target → Type 0
IsTargetNamed (Register h r) = Unit {0}
IsTargetNamed (Location w) = IsNamed w

abbrev pub IsValueNamed : Value → Type 0
IsValueNamed (Number n d) = Unit {0}
IsValueNamed (Address w) = IsNamed w

abbrev pub AreNamed : List Binding → Type 0
AreNamed [] = Unit {0}
AreNamed (b ∷ bs) = IsTargetNamed b.0 × IsValueNamed b.1 × AreNamed bs

named_append : (xs ys : List Binding) → AreNamed xs → AreNamed ys → AreNamed (xs ++ ys)
named_append [] ys h k = k
named_append (x ∷ xs) ys h k = (h.0, h.1, named_append xs ys h.2 k)

-- ---- from the tokens

target_named : {ts rest : List Lined} {x : Target} → IsTarget ts x rest → AreClassed ts → IsTargetNamed x × AreClassed rest
target_named register h = (tt, h.1.1.1)
target_named (location p) h = (classed_is_name h.0 p, h.1)
target_named (bracketed p) h = (classed_is_name h.1.0 p, h.1.1.1)

value_named : {ts rest : List Lined} {x : Value} → IsValue ts x rest → AreClassed ts → IsValueNamed x × AreClassed rest
value_named number h = (tt, h.1)
value_named minus h = (tt, h.1.1)
value_named (address p) h = (classed_is_name h.0 p, h.1)

abbrev IsEntryNamed : Entry → Type 0
IsEntryNamed e = IsTargetNamed e.target × IsValueNamed e.value

initial_named : {ts rest : List Lined} {x : Value} → IsInitial ts x rest → AreClassed ts → IsValueNamed x × AreClassed rest
initial_named (direct v) h = value_named v h
initial_named (reference p) h = (classed_is_name h.1.0 p, h.1.1)

bare_named : {ts rest : List Lined} {e : Entry} → IsBare ts e rest → AreClassed ts → IsEntryNamed e × AreClassed rest
bare_named (bare x v) h =
    let t = target_named x h in
    let w = initial_named v t.1.1 in
    ((t.0, w.0), w.1)
bare_named (alone x) h = let t = target_named x h in ((t.0, tt), t.1)

entry_named : {ts rest : List Lined} {e : Entry} → IsEntry ts e rest → AreClassed ts → IsEntryNamed e × AreClassed rest
entry_named (untyped b) h = bare_named b h
entry_named (typed p e) h = entry_named e h.1
entry_named (pointer p e) h = entry_named e h.1.1

mutual
  entries_named : {ts rest : List Lined} {es : List Entry} → IsEntries ts es rest → AreClassed ts → AreNamed (entry_bindings es) × AreClassed rest
  entries_named none h = (tt, h.1)
  entries_named (entry x y) h =
      let e = entry_named x h in
      let es = ends_named y e.1 in
      ((e.0.0, e.0.1, es.0), es.1)

  ends_named : {ts rest : List Lined} {es : List Entry} → IsEntryEnd ts es rest → AreClassed ts → AreNamed (entry_bindings es) × AreClassed rest
  ends_named brace h = (tt, h.1)
  ends_named (semicolon x) h = entries_named x h.1

init_named : {ts rest : List Lined} {es : List Entry} → IsInit ts es rest → AreClassed ts → AreNamed (entry_bindings es) × AreClassed rest
init_named (block x) h = entries_named x h.1

columns_classed : {ts rest : List Lined} {k n : ℕ} → IsColumns k ts n rest → AreClassed ts → AreClassed rest
columns_classed (last e) h = h.1.1
columns_classed (more e x) h = columns_classed x h.1.1

cell_classed : {ts rest : List Lined} {c : Cell} → IsCell ts c rest → AreClassed ts → AreClassed rest
cell_classed nothing h = h
cell_classed (plain p x) h = cell_classed x h.1

row_classed : {ts rest : List Lined} {n : ℕ} {r : List Cell} → IsRow n ts r rest → AreClassed ts → AreClassed rest
row_classed (one x) h = (cell_classed x h).1
row_classed (cells x y) h = row_classed y (cell_classed x h).1

skipped_classed : {ts rest : List Lined} → IsSkipped ts rest → AreClassed ts → AreClassed rest
skipped_classed closed h = h.1
skipped_classed (skipped p x) h = skipped_classed x h.1

quantifier_classed : {ts rest : List Lined} {q : Quantifier} → IsQuantifier ts q rest → AreClassed ts → AreClassed rest
quantifier_classed exists h = h.1
quantifier_classed not_exists h = h.1.1
quantifier_classed forall h = h.1

ending_classed : {ts rest : List Lined} {q : Quantifier} → IsEnding ts q rest → AreClassed ts → AreClassed rest
ending_classed (unnamed x) h = quantifier_classed x h
ending_classed (after_locations x y) h = quantifier_classed y (skipped_classed x h.1.1)

body_classed : {ts rest : List Lined} {n : ℕ} {b : Body} → IsBody n ts b rest → AreClassed ts → AreClassed rest
body_classed (ending x) h = ending_classed x h
body_classed (row p x y) h = body_classed y (row_classed x h)

pub form_named : {ts rest : List Lined} {f : Form} → IsForm ts f rest → AreClassed ts → AreNamed (entry_bindings f.entries) × AreClassed rest
form_named (form x y z) h =
    let es = init_named x h in
    (es.0, body_classed z (columns_classed y es.1))

equal_classed : {ts rest : List Lined} → IsEqual ts rest → AreClassed ts → AreClassed rest
equal_classed once h = h.1
equal_classed twice h = h.1.1

unequal_classed : {ts rest : List Lined} → IsUnequal ts rest → AreClassed ts → AreClassed rest
unequal_classed less_greater h = h.1.1
unequal_classed bang_equals h = h.1.1

mutual
  unit_named : {ts rest : List Lined} {s : Syntax} → IsUnit ts s rest → AreClassed ts → AreNamed (atoms_of s) × AreClassed rest
  unit_named (atom x q v) h =
      let t = target_named x h in
      let w = value_named v (equal_classed q t.1) in
      ((t.0, w.0, tt), w.1)
  unit_named (other x q v) h =
      let t = target_named x h in
      let w = value_named v (unequal_classed q t.1) in
      ((t.0, w.0, tt), w.1)
  unit_named truth h = (tt, h.1)
  unit_named falsity h = (tt, h.1)
  unit_named (tilde x) h = unit_named x h.1
  unit_named (denial x) h = unit_named x h.1
  unit_named (group x) h = let k = implication_named x h.1 in (k.0, k.1.1)

  conjunction_named : {ts rest : List Lined} {s : Syntax} → IsConjunction ts s rest → AreClassed ts → AreNamed (atoms_of s) × AreClassed rest
  conjunction_named (unit x) h = unit_named x h
  conjunction_named (both {a = a} {b = b} x y) h =
      let k = conjunction_named x h in
      let l = unit_named y k.1.1 in
      (named_append (atoms_of a) (atoms_of b) k.0 l.0, l.1)

  disjunction_named : {ts rest : List Lined} {s : Syntax} → IsDisjunction ts s rest → AreClassed ts → AreNamed (atoms_of s) × AreClassed rest
  disjunction_named (conjunction x) h = conjunction_named x h
  disjunction_named (either {a = a} {b = b} x y) h =
      let k = disjunction_named x h in
      let l = conjunction_named y k.1.1 in
      (named_append (atoms_of a) (atoms_of b) k.0 l.0, l.1)

  premises_named : {ts rest : List Lined} {s : Syntax} → ArePremises ts s rest → AreClassed ts → AreNamed (atoms_of s) × AreClassed rest
  premises_named (premise x) h = let k = disjunction_named x h in (k.0, k.1.1.1)
  premises_named (another {p = p} {a = a} x y) h =
      let k = premises_named x h in
      let l = disjunction_named y k.1 in
      (named_append (atoms_of p) (atoms_of a) k.0 l.0, l.1.1.1)

  implication_named : {ts rest : List Lined} {s : Syntax} → IsImplication ts s rest → AreClassed ts → AreNamed (atoms_of s) × AreClassed rest
  implication_named (disjunction x) h = disjunction_named x h
  implication_named (implication {p = p} {s = s} x y) h =
      let k = premises_named x h in
      let l = disjunction_named y k.1 in
      (named_append (atoms_of p) (atoms_of s) k.0 l.0, l.1)

pub condition_named : {ts : List Lined} {s : Syntax} → IsCondition ts s → AreClassed ts → AreNamed (atoms_of s)
condition_named (complete x end) h = (implication_named x h).0

-- ---- what is declared

all_one : (w : List ℕ) → IsNamed w → All IsNamed (w ∷ [])
all_one w h zero d low = h
all_one w h (suc k) d low = absurd (omega (arith, low))

with_if : (P : Names → Type 0) (b : Bool) (xs ys : Names) → P xs → (b ≡ false → P ys) → P (cond b xs ys)
with_if P true xs ys h k = h
with_if P false xs ys h k = k refl

name_named : (names : Names) (w : List ℕ) → IsNamed w → All IsNamed names → All IsNamed (with_name names w)
name_named names w n h = with_if (All IsNamed) (list_any (bytes_eq w) names) names (names ++ w ∷ []) h (λ e. All-append IsNamed names (w ∷ []) h (all_one w n))

target_declared : (names : Names) (x : Target) → IsTargetNamed x → All IsNamed names → All IsNamed (with_target names x)
target_declared names (Register h r) n k = k
target_declared names (Location w) n k = name_named names w n k

value_declared : (names : Names) (x : Value) → IsValueNamed x → All IsNamed names → All IsNamed (with_value names x)
value_declared names (Number n d) p k = k
value_declared names (Address w) p k = name_named names w p k

pub declared_named : (names : Names) (bs : List Binding) → AreNamed bs → All IsNamed names → All IsNamed (declared names bs)
declared_named names [] h k = k
declared_named names (b ∷ bs) h k = declared_named (with_value (with_target names b.0) b.1) bs h.2 (value_declared (with_target names b.0) b.1 h.1 (target_declared names b.0 h.0 k))

abbrev pub AreDistinct : Names → Type 0
AreDistinct names = AllPairs (λ a b. a ≢ b) names

not_among : (names : Names) (w : List ℕ) (k : ℕ) (d : List ℕ) → list_any (bytes_eq w) names ≡ false → k < length names → get_or names k d ≢ w
not_among names w k d e low same =
    let found = list_any_at (bytes_eq w) names k d low ((bytes_eq-Decides w (get_or names k d)).1 (sym same)) in
    cc (e, found)

name_distinct : (names : Names) (w : List ℕ) → AreDistinct names → AreDistinct (with_name names w)
name_distinct names w h = with_if AreDistinct (list_any (bytes_eq w) names) names (names ++ w ∷ []) h (λ e. all_pairs_push (λ a b. a ≢ b) names w h (λ k d low. not_among names w k d e low))

target_distinct : (names : Names) (x : Target) → AreDistinct names → AreDistinct (with_target names x)
target_distinct names (Register h r) k = k
target_distinct names (Location w) k = name_distinct names w k

value_distinct : (names : Names) (x : Value) → AreDistinct names → AreDistinct (with_value names x)
value_distinct names (Number n d) k = k
value_distinct names (Address w) k = name_distinct names w k

pub declared_distinct : (names : Names) (bs : List Binding) → AreDistinct names → AreDistinct (declared names bs)
declared_distinct names [] k = k
declared_distinct names (b ∷ bs) k = declared_distinct (with_value (with_target names b.0) b.1) bs (value_distinct (with_target names b.0) b.1 (target_distinct names b.0 k))
