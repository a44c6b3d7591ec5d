-- The words and cells of a test's printed form are what the readers ask for.
use Rattle.std.proofs.Common.{◌≡◌, ℕ, zero, suc, ◌+◌, ◌<◌, ◌≤◌, ◌^◌, List, [], ◌∷◌, ◌++◌, Bool, true, false, not, map, filter, length, refl, ap, ◌∙◌, arith, pos, negsuc}
use Rattle.std.specs.Prelude.{All, if◌then◌else◌, IsTrue, slice_index_or, ◌==◌}
use Rattle.std.specs.List.{AllByRecursion, flat_map, enumerate_from, range_with_len, list_all}
use Rattle.std.proofs.lemmas.List.Elements.{All-head, All-tail}
use Rattle.fs_litmus_tokens.specs.Tokens.{Tok}
use Rattle.fs_litmus_tokens.specs.Values.{Location, Value, Address}
use Rattle.fs_litmus_syntax.specs.Body.{is_plain}
use Rattle.fs_instr.specs.OfTable.{IsOfTable}
use Rattle.fs_instr.specs.PrintedTokens.{instr_tokens}
use Rattle.fs_instr.specs.declared.instr.Instr.{Instr}
use Rattle.fs_instr.specs.declared.instr.Instr.TheVariants as instr
use Rattle.fs_model.specs.Condition as condition
use Rattle.fs_model.specs.Condition.{Condition, SpeaksOf}
use Rattle.fs_model.specs.Printed.{set_registers, is_target, name_of}
use Rattle.fs_model.specs.Test as tests
use Rattle.fs_model.specs.Test.{IsStart, address_of}
use Rattle.fs_model.specs.declared.test.Location as locations
use Rattle.fs_litmus.specs.inner.Written.{value_from, location_binding, register_binding, start_bindings, label_toks, cell_toks, end_cells, column_toks, row_cells, syntax_of}
use Rattle.fs_litmus.proofs.PrintedFormClasses.{decimal_class, name_class, label_begins, name_begins}
use Rattle.fs_litmus.proofs.PrintedFormEntries.{Fits, FitsTarget, FitsValue}
use Rattle.fs_litmus.proofs.PrintedFormRows.{FitsCell, FitsRow}
use Rattle.fs_litmus.proofs.PrintedFormCondition.{FitsSyntax}

-- ---- facts of each element

pub each : {X : Type 0} (P : X → Type 0) (xs : List X) → All P xs → AllByRecursion P xs
each P [] all = tt
each P (x ∷ xs) all = (All-head P x xs all, each P xs (All-tail P x xs all))

each_more : {X : Type 0} (P Q : X → Type 0) (xs : List X) → ((x : X) → P x → Q x) → AllByRecursion P xs → AllByRecursion Q xs
each_more P Q [] of all = tt
each_more P Q (x ∷ xs) of all = (of x all.0, each_more P Q xs of all.1)

each_of_both : {X : Type 0} (P Q R : X → Type 0) (xs : List X) → ((x : X) → P x → Q x → R x) → AllByRecursion P xs → AllByRecursion Q xs → AllByRecursion R xs
each_of_both P Q R [] of all also = tt
each_of_both P Q R (x ∷ xs) of all also = (of x all.0 also.0, each_of_both P Q R xs of all.1 also.1)

pub each_append : {X : Type 0} (P : X → Type 0) (xs ys : List X) → AllByRecursion P xs → AllByRecursion P ys → AllByRecursion P (xs ++ ys)
each_append P [] ys all also = also
each_append P (x ∷ xs) ys all also = (all.0, each_append P xs ys all.1 also)

each_map : {X Y : Type 0} (P : Y → Type 0) (f : X → Y) (xs : List X) → AllByRecursion (λ x. P (f x)) xs → AllByRecursion P (map f xs)
each_map P f [] all = tt
each_map P f (x ∷ xs) all = (all.0, each_map P f xs all.1)

each_numbered : {X : Type 0} (P : X → Type 0) (n : ℕ) (xs : List X) → AllByRecursion P xs → AllByRecursion (λ numbered. P numbered.1) (enumerate_from n xs)
each_numbered P n [] all = tt
each_numbered P n (x ∷ xs) all = (all.0, each_numbered P (n + 1) xs all.1)

kept : {X : Type 0} (P : X → Type 0) (b : Bool) (x : X) (xs : List X) → P x → AllByRecursion P xs → AllByRecursion P (if b then x ∷ xs else xs)
kept P true x xs h all = (h, all)
kept P false x xs h all = all

each_filter : {X : Type 0} (P : X → Type 0) (p : X → Bool) (xs : List X) → AllByRecursion P xs → AllByRecursion P (filter p xs)
each_filter P p [] all = tt
each_filter P p (x ∷ xs) all = kept P (p x) x (filter p xs) all.0 (each_filter P p xs all.1)

-- ---- values

abbrev pub AreNamed : List locations.Location → Type 0
AreNamed ls = AllByRecursion (λ x. IsTrue (tests.is_name x.name)) ls

either_fits : (b : Bool) (v w : Value) → FitsValue v → FitsValue w → FitsValue (if b then v else w)
either_fits true v w h k = h
either_fits false v w h k = k

value_fits_from : (location : ℕ) (ls : List locations.Location) (w : ℕ) → AreNamed ls → w < 2 ^ 32 → FitsValue (value_from location ls w)
value_fits_from location [] w named small = decimal_class w small
value_fits_from location (x ∷ xs) w named small =
    either_fits (address_of location == w) (Address x.name) (value_from (location + 1) xs w) (name_class x.name named.0) (value_fits_from (location + 1) xs w named.1 small)

name_fits : (ls : List locations.Location) (location : ℕ) → AreNamed ls → location < length ls → FitsTarget (Location (name_of ls location))
name_fits [] location named here = absurd (omega arith)
name_fits (x ∷ xs) zero named here = name_class x.name named.0
name_fits (x ∷ xs) (suc k) named here = name_fits xs k named.1 (omega (arith, here))

-- ---- initial values

location_fits : (x : locations.Location) → IsTrue (tests.is_name x.name) → x.word < 2 ^ 32 → Fits (location_binding x)
location_fits x named small = (name_class x.name named, decimal_class x.word small)

pub locations_fit : (ls : List locations.Location) → AreNamed ls → AllByRecursion (λ x. x.word < 2 ^ 32) ls → AllByRecursion Fits (map location_binding ls)
locations_fit ls named small = each_map Fits location_binding ls (each_of_both (λ x. IsTrue (tests.is_name x.name)) (λ x. x.word < 2 ^ 32) (λ x. Fits (location_binding x)) ls location_fits named small)

module _ (ls : List locations.Location) (named : AreNamed ls) where
  start_fits : (hart : ℕ) (words : List ℕ) → hart < 2 ^ 32 → AllByRecursion (λ w. w < 2 ^ 32) words → AllByRecursion Fits (start_bindings ls (hart, words))
  start_fits hart words low small =
      let numbered = each_numbered (λ w. w < 2 ^ 32) 0 words small in
      let set = each_filter (λ (n : ℕ × ℕ). n.1 < 2 ^ 32) (λ n. not (n.1 == 0)) (enumerate_from 0 words) numbered in
      each_map Fits (register_binding ls hart) (set_registers words) (each_more (λ (n : ℕ × ℕ). n.1 < 2 ^ 32) (λ n. Fits (register_binding ls hart n)) (set_registers words) (λ n h. (decimal_class hart low, value_fits_from 0 ls n.1 named h)) set)

  pub starts_fit : (n : ℕ) (starts : List (List ℕ)) → n + length starts ≤ 2 ^ 32 → AllByRecursion IsStart starts → AllByRecursion Fits (flat_map (start_bindings ls) (enumerate_from n starts))
  starts_fit n [] low are = tt
  starts_fit n (s ∷ starts) low are =
      each_append Fits (start_bindings ls (n, s)) (flat_map (start_bindings ls) (enumerate_from (n + 1) starts)) (start_fits n s (omega (arith, low)) (each (λ w. w < 2 ^ 32) s are.0.fit)) (starts_fit (n + 1) starts (omega (arith, low)) are.1)

  -- ---- the condition

  pub syntax_fits : (harts : ℕ) (c : Condition) → harts ≤ 8 → SpeaksOf harts (length ls) c → FitsSyntax (syntax_of ls c)
  syntax_fits harts condition.Always few speaks = tt
  syntax_fits harts condition.Never few speaks = tt
  syntax_fits harts (condition.RegisterIs hart reg w) few speaks = (decimal_class hart (omega (arith, few, speaks.0)), value_fits_from 0 ls w named speaks.2)
  syntax_fits harts (condition.LocationIs location w) few speaks = (name_fits ls location named speaks.0, value_fits_from 0 ls w named speaks.1)
  syntax_fits harts (condition.Deny c) few speaks = syntax_fits harts c few speaks
  syntax_fits harts (condition.Both c d) few speaks = (syntax_fits harts c few speaks.0, syntax_fits harts d few speaks.1)
  syntax_fits harts (condition.Either c d) few speaks = (syntax_fits harts c few speaks.0, syntax_fits harts d few speaks.1)

-- ---- cells

instr_plain : (i : Instr) → list_all is_plain (instr_tokens i) ≡ true
instr_plain (instr.Register o d a b) = refl
instr_plain (instr.Immediate o d a (pos n)) = refl
instr_plain (instr.Immediate o d a (negsuc n)) = refl
instr_plain (instr.Shift o d a n) = refl
instr_plain (instr.Lui d n) = refl
instr_plain (instr.Li d n) = refl
instr_plain (instr.Lw ann d a (pos n)) = refl
instr_plain (instr.Lw ann d a (negsuc n)) = refl
instr_plain (instr.Sw ann v a (pos n)) = refl
instr_plain (instr.Sw ann v a (negsuc n)) = refl
instr_plain (instr.Lr ann d a) = refl
instr_plain (instr.Sc ann d v a) = refl
instr_plain (instr.Amo o ann d v a) = refl
instr_plain (instr.Branch o a b t) = refl
instr_plain (instr.Jump t) = refl
instr_plain (instr.Fence p s) = refl
instr_plain instr.FenceTso = refl
instr_plain instr.FenceI = refl

labelled_fits : (b : Bool) (at : ℕ) (i : Instr) → IsOfTable i → FitsCell ((if b then label_toks at else []) ++ instr_tokens i)
labelled_fits true at i h = (instr_plain i, label_begins at)
labelled_fits false at i h = (instr_plain i, name_begins i h)

end_fits : (b : Bool) (at : ℕ) → AllByRecursion FitsCell (if b then label_toks at ∷ [] else [])
end_fits true at = ((refl, label_begins at), tt)
end_fits false at = tt

pub column_fits : (code : List Instr) → AllByRecursion IsOfTable code → AllByRecursion FitsCell (column_toks code)
column_fits code all =
    let numbered = each_more (λ (n : ℕ × Instr). IsOfTable n.1) (λ n. FitsCell (cell_toks code n)) (enumerate_from 0 code) (λ n h. labelled_fits (is_target code n.0) n.0 n.1 h) (each_numbered IsOfTable 0 code all) in
    each_append FitsCell (map (cell_toks code) (enumerate_from 0 code)) (end_cells code) (each_map FitsCell (cell_toks code) (enumerate_from 0 code) numbered) (end_fits (is_target code (length code)) (length code))

-- ---- rows

cell_there : (cells : List (List Tok)) (at : ℕ) → AllByRecursion FitsCell cells → FitsCell (slice_index_or cells at [])
cell_there [] at all = (refl, tt)
cell_there (c ∷ cs) zero all = all.0
cell_there (c ∷ cs) (suc k) all = cell_there cs k all.1

row_fits : (columns : List (List (List Tok))) (at : ℕ) → AllByRecursion (AllByRecursion FitsCell) columns → AllByRecursion FitsCell (row_cells columns at)
row_fits columns at all =
    each_map FitsCell (λ cells. slice_index_or cells at []) columns (each_more (AllByRecursion FitsCell) (λ cells. FitsCell (slice_index_or cells at [])) columns (λ cells h. cell_there cells at h) all)

as_many : (columns : List (List (List Tok))) (at : ℕ) → length (row_cells columns at) ≡ length columns
as_many [] at = refl
as_many (c ∷ cs) at = ap suc (as_many cs at)

pub rows_fit : (n : ℕ) (columns : List (List (List Tok))) → length columns ≡ suc n → AllByRecursion (AllByRecursion FitsCell) columns → (from count : ℕ) → AllByRecursion (FitsRow n) (map (row_cells columns) (range_with_len from count))
rows_fit n columns some all from zero = tt
rows_fit n columns some all from (suc count) = ((as_many columns from ∙ some, row_fits columns from all), rows_fit n columns some all (from + 1) count)

pub columns_fit : (codes_of : List (List Instr)) → AllByRecursion (AllByRecursion IsOfTable) codes_of → AllByRecursion (AllByRecursion FitsCell) (map column_toks codes_of)
columns_fit codes_of all = each_map (AllByRecursion FitsCell) column_toks codes_of (each_more (AllByRecursion IsOfTable) (λ code. AllByRecursion FitsCell (column_toks code)) codes_of column_fits all)

pub each_each : {X : Type 0} (P : X → Type 0) (xss : List (List X)) → All (All P) xss → AllByRecursion (AllByRecursion P) xss
each_each P xss all = each_more (All P) (AllByRecursion P) xss (each P) (each (All P) xss all)
