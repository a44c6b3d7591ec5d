-- The tokens of the initial values and of the header, read.
use Rattle.std.proofs.Common.{◌≡◌, ℕ, zero, suc, ◌+◌, List, [], ◌∷◌, ◌++◌, true, false, map, codes, refl, ap, subst, arith}
use Rattle.std.specs.Fmt.{decimal}
use Rattle.std.specs.List.{flat_map, range_with_len, AllByRecursion}
use Rattle.fs_litmus_tokens.specs.Tokens.{Tok, Sign, Lined, word}
use Rattle.fs_litmus_tokens.specs.Words.{class_of, is_name}
use Rattle.fs_litmus_tokens.specs.Values.{Target, Register, Location, Value, Number, Address, IsTarget, IsValue, register, location, bracketed, number, minus, address}
use Rattle.fs_litmus_tokens.specs.declared.word.Class.TheVariants as class
use Rattle.fs_litmus_tokens.specs.declared.token.Mark.TheVariants as mark
use Rattle.fs_litmus_syntax.specs.Init.{Entry, direct, IsBare, IsEntries, bare, untyped, none, entry, semicolon}
use Rattle.fs_litmus_syntax.specs.Header.{IsColumns, last, more}
use Rattle.fs_litmus.specs.Locations.{Binding}
use Rattle.fs_litmus.specs.Settings.{entry_bindings}
use Rattle.fs_litmus.specs.inner.Written.{target_toks, value_toks, binding_toks, entry_toks, row_toks}
use Rattle.fs_litmus.proofs.PrintedFormLines.{Are, next, regrouped, Begins, first}

-- its words are what they are to be
abbrev pub FitsTarget : Target → Type 0
FitsTarget (Register h r) = class_of h ≡ class.Number
FitsTarget (Location w) = is_name (class_of w) ≡ true

abbrev pub FitsValue : Value → Type 0
FitsValue (Number negative d) = class_of d ≡ class.Number
FitsValue (Address w) = is_name (class_of w) ≡ true

abbrev pub Fits : Binding → Type 0
Fits b = FitsTarget b.0 × FitsValue b.1

pub target : {ts : List Lined} (x : Target) (toks : List Tok) → FitsTarget x → Are ts (target_toks x ++ toks) → Begins IsTarget ts x toks
target (Register h r) toks fits (next (next (next are))) = record { rest = _; is = rw fits register; are = are }
target (Location w) toks fits (next are) = record { rest = _; is = location fits; are = are }

pub value : {ts : List Lined} (v : Value) (toks : List Tok) → FitsValue v → Are ts (value_toks v ++ toks) → Begins IsValue ts v toks
value (Number false d) toks fits (next are) = record { rest = _; is = rw fits number; are = are }
value (Number true d) toks fits (next (next are)) = record { rest = _; is = rw fits minus; are = are }
value (Address w) toks fits (next are) = record { rest = _; is = address fits; are = are }

-- ---- a binding

-- the tokens are a target, =, a value, and then some
pub record BeginsBinding (ts : List Lined) (b : Binding) (toks : List Tok) : Type 0 where
  pub equals_line : ℕ
  pub mid : List Lined
  pub rest : List Lined
  pub is_target : IsTarget ts b.0 ((Sign mark.Equals, equals_line) ∷ mid)
  pub is_value : IsValue mid b.1 rest
  pub are : Are rest toks

pub binding : {ts : List Lined} (b : Binding) (toks : List Tok) → Fits b → Are ts (binding_toks b ++ toks) → BeginsBinding ts b toks
binding {ts = ts} b toks fits are =
    let one = target b.0 _ fits.0 (regrouped (target_toks b.0) (Sign mark.Equals ∷ value_toks b.1) toks are) in
    let equals = first one.are in
    let two = value b.1 toks fits.1 equals.are in
    record { equals_line = equals.line; mid = equals.rest; rest = two.rest; is_target = subst (λ m. IsTarget ts b.0 m) equals.split one.is; is_value = two.is; are = two.are }

-- ---- entries

-- an entry that binds this
record IsBinding (ts : List Lined) (b : Binding) (rest : List Lined) : Type 0 where
  pub entry_line : ℕ
  pub is : IsBare ts (record { line = entry_line; target = b.0; value = b.1 }) rest

bare_of : {ts mid rest : List Lined} {k : ℕ} (b : Binding) → IsTarget ts b.0 ((Sign mark.Equals, k) ∷ mid) → IsValue mid b.1 rest → IsBinding ts b rest
bare_of b register v = record { entry_line = _; is = bare register (direct v) }
bare_of b (location e) v = record { entry_line = _; is = bare (location e) (direct v) }
bare_of b (bracketed e) v = record { entry_line = _; is = bare (bracketed e) (direct v) }

-- the tokens are entries with these bindings and the closing brace, and then some
pub record BeginsEntries (ts : List Lined) (bs : List Binding) (toks : List Tok) : Type 0 where
  pub found : List Entry
  pub rest : List Lined
  pub is : IsEntries ts found rest
  pub bindings : entry_bindings found ≡ bs
  pub are : Are rest toks

pub entries : (bs : List Binding) {ts : List Lined} (toks : List Tok) → AllByRecursion Fits bs → Are ts (flat_map entry_toks bs ++ Sign mark.CloseBrace ∷ toks) → BeginsEntries ts bs toks
entries [] toks fits (next are) = record { found = []; rest = _; is = none; bindings = refl; are = are }
entries (b ∷ bs) {ts = ts} toks fits are =
    let later_toks = flat_map entry_toks bs ++ Sign mark.CloseBrace ∷ toks in
    let whole = regrouped (entry_toks b) (flat_map entry_toks bs) (Sign mark.CloseBrace ∷ toks) are in
    let one = binding b (Sign mark.Semicolon ∷ later_toks) fits.0 (regrouped (binding_toks b) (Sign mark.Semicolon ∷ []) later_toks whole) in
    let bound = bare_of b one.is_target one.is_value in
    let mark_after = first one.are in
    let later = entries bs toks fits.1 mark_after.are in
    let is_bare = subst (λ m. IsBare ts (record { line = bound.entry_line; target = b.0; value = b.1 }) m) mark_after.split bound.is in
    record { found = record { line = bound.entry_line; target = b.0; value = b.1 } ∷ later.found; rest = later.rest; is = entry (untyped is_bare) (semicolon later.is); bindings = ap (λ l. b ∷ l) later.bindings; are = later.are }

-- ---- the header

-- the header of n + 1 columns from column k on
pub columns : (k n : ℕ) {ts : List Lined} (toks : List Tok) → Are ts (row_toks (map (λ hart. word (codes "P" ++ decimal hart) ∷ []) (range_with_len k (suc n))) ++ toks) → Begins (IsColumns k) ts (k + suc n) toks
columns k zero toks (next (next are)) = record { rest = _; is = last refl; are = are }
columns k (suc n) toks (next (next {ts = more_toks} are)) =
    let later = columns (k + 1) n toks are in
    let same : (k + 1) + suc n ≡ k + suc (suc n) = omega arith in
    let is_columns : IsColumns (k + 1) more_toks (k + suc (suc n)) later.rest = subst (λ c. IsColumns (k + 1) more_toks c later.rest) same later.is in
    record { rest = later.rest; is = more refl is_columns; are = later.are }
