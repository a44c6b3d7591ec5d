-- The codes of all harts.
use Rattle.std.proofs.Common.{◌≡◌, ◌⊎◌, inl, inr, ℕ, ◌+◌, ◌<◌, ◌≤◌, zero, suc, List, [], ◌∷◌, ◌++◌, length, drop, Option, Some, None, Result, Ok, Err, refl, sym, ap, ◌∙◌, subst, arith, length-append}
use Rattle.std.specs.List.{slice_get}
use Rattle.std.proofs.Math.ListN.{get_or}
use Rattle.std.proofs.lemmas.List.{drop-map}
use Rattle.std.proofs.lemmas.Option.{slice_get-get_or, slice_get_within}
use denote.Ref.{Bor}
use Rattle.fs_litmus_tokens.specs.Tokens.{Lined, views}
use Rattle.fs_litmus_tokens.specs.declared.token.Token.{Token}
use Rattle.fs_instr.specs.declared.instr.Instr.{Instr}
use Rattle.fs_kinds.specs.declared.fault.Fault.{Fault}
use Rattle.std.specs.Result.{IfOk}
use Rattle.fs_litmus_syntax.specs.Cells.{Item, AreCells, AreFaulty, IsListing}
use Rattle.fs_litmus_syntax.specs.Columns.{column, cells_of}
use Rattle.fs_litmus_syntax.specs.Labels.{IsCode, IsLabelFault, instruction_count, resolved}
use Rattle.fs_litmus_syntax.specs.Codes.{IsHart, IsHartFault, of_cell, of_label, AreCodes, IsFault, fault, IsKept, AreKept, ReadsHart, ReadsListing, AreHarts}
use Rattle.fs_kinds.specs.FaultOrder.{IsNoLater, IsFirst, IsFirstOf, earliest}
use Rattle.fs_litmus_syntax.specs.declared.hart.HartCode.{HartCode}
use Rattle.fs_kinds.proofs.FirstFault.{first_join, same_first}
use Rattle.fs_litmus_syntax.proofs.ColumnLemmas.{column-drop, cells_only, cells_clean}
use Rattle.fs_litmus_syntax.proofs.CodeLemmas.{code_only, code_clean, code_is, code_count}

-- ---- one hart

hart_only : {cells : List (List Lined)} {a b : List Instr} → IsHart cells a → IsHart cells b → a ≡ b
hart_only {b = b} h k =
    let same = cells_only h.are k.are in
    code_only h.means (subst (λ l. IsCode l b) (sym same) k.means)

hart_clean : {cells : List (List Lined)} {a : List Instr} {f : Fault} → IsHart cells a → IsHartFault cells f → ⊥
hart_clean h (of_cell k) = cells_clean h.are k
hart_clean {a = a} h (of_label k l) = code_clean (subst (λ x. IsCode x a) (cells_only h.are k) h.means) l

cell_before : {cells : List (List Lined)} {f : Fault} → IsFirst (AreFaulty cells) f → (g : Fault) → IsHartFault cells g → IsNoLater f g
cell_before h g (of_cell k) = h.first g k
cell_before h g (of_label k l) = absurd (cells_clean k h.is)

pub cell_fault : (cells : List (List Lined)) (f : Fault) → IsFirst (AreFaulty cells) f → ReadsHart cells (Err f)
cell_fault cells f h = record { is = of_cell h.is; first = cell_before h }

label_before : {cells : List (List Lined)} {hart : List Item} {f : Fault} → AreCells cells hart → IsFirst (IsLabelFault hart) f → (g : Fault) → IsHartFault cells g → IsNoLater f g
label_before are h g (of_cell k) = absurd (cells_clean are k)
label_before are h g (of_label k l) = h.first g (subst (λ x. IsLabelFault x g) (cells_only k are) l)

pub hart_from : (cells : List (List Lined)) (hart : List Item) (read : Result HartCode Fault) → AreCells cells hart → ReadsListing hart read → ReadsHart cells read
hart_from cells hart (Ok kept) are h = (h.0, record { hart = hart; are = are; means = h.1 }, h.2)
hart_from cells hart (Err f) are h = record { is = of_label are h.is; first = label_before are h }

pub hart_if : {E : Type 0} (cells : List (List Lined)) (hart listing : List Item) (r : Result (Result HartCode Fault) E) → IsListing cells listing None → hart ≡ listing → IfOk r (λ read. ReadsListing hart read) → IfOk r (λ read. ReadsHart cells read)
hart_if cells hart listing (Ok read) are e h = hart_from cells hart read (subst (λ l. AreCells cells l) (sym e) are) h
hart_if cells hart listing (Err f) are e h = h

pub short_is : (hart : List Item) (kept : List Instr) → ((f : Fault) → ¬ IsLabelFault hart f) → kept ≡ resolved hart hart → instruction_count hart ≤ 32 → (code : List Instr) × IsCode hart code × ((length code ≤ 32) × (kept ≡ code))
short_is hart kept h e small =
    let count = code_count hart hart in
    (resolved hart hart, code_is hart h, (omega arith, e))

pub long_is : (hart : List Item) (count : ℕ) → ((f : Fault) → ¬ IsLabelFault hart f) → count ≡ instruction_count hart → 32 < count → (code : List Instr) × IsCode hart code × ((32 < length code) × (count ≡ length code))
long_is hart count h e large =
    let same = code_count hart hart in
    (resolved hart hart, code_is hart h, (omega arith, e ∙ sym same))

-- ---- the first harts

-- the codes of the first harts
pub record AreFirstCodes (columns n : ℕ) (cells : List (List Lined)) (codes : List (List Instr)) : Type 0 where
  pub count : length codes ≡ n
  pub each : (number : ℕ) (code : List Instr) → slice_get codes number ≡ Some code → IsHart (column columns number cells) code

-- a fault of one of the first harts
pub data IsFaultBelow (columns n : ℕ) (cells : List (List Lined)) : Fault → Type 0 where
  below : {number : ℕ} {f : Fault} → number < n → IsHartFault (column columns number cells) f → IsFaultBelow columns n cells f

-- the codes of the first harts, unless one has a fault, and the first fault
pub record HartsRead (columns n : ℕ) (cells : List (List Lined)) (kept : List HartCode) (o : Option Fault) : Type 0 where
  pub codes : o ≡ None → (codes : List (List Instr)) × AreFirstCodes columns n cells codes × AreKept codes kept
  pub first : IsFirstOf (IsFaultBelow columns n cells) o

no_fault : {columns : ℕ} {cells : List (List Lined)} {f : Fault} → IsFaultBelow columns 0 cells f → ⊥
no_fault (below h k) = absurd (omega arith)

pub no_harts : (columns : ℕ) (cells : List (List Lined)) (kept : List HartCode) → kept ≡ [] → HartsRead columns 0 cells kept None
no_harts columns cells kept e = record {
  codes = λ same. ([], record { count = refl; each = λ number code h. absurd (cc) }, subst (λ l. AreKept [] l) (sym e) tt);
  first = λ f h. no_fault h;
}

get_last : {A : Type 0} (xs : List A) (x : A) (i : ℕ) (a : A) → slice_get (xs ++ x ∷ []) i ≡ Some a → (slice_get xs i ≡ Some a) ⊎ ((i ≡ length xs) × (x ≡ a))
get_last [] x zero a e = inr (refl, cc)
get_last [] x (suc i) a e = absurd (cc)
get_last (y ∷ ys) x zero a e = inl e
get_last (y ∷ ys) x (suc i) a e = elim (get_last ys x i a e) [ inl h ↦ inl h | inr h ↦ inr (ap (λ n. suc n) h.0, h.1) ]

kept_more : (codes : List (List Instr)) (kept : List HartCode) (code : List Instr) (k : HartCode) → AreKept codes kept → IsKept code k → AreKept (codes ++ code ∷ []) (kept ++ k ∷ [])
kept_more [] [] code k h l = (l, tt)
kept_more (c ∷ codes) (d ∷ kept) code k h l = (h.0, kept_more codes kept code k h.1 l)
kept_more [] (d ∷ kept) code k h l = absurd h
kept_more (c ∷ codes) [] code k h l = absurd h

each_more : (columns n : ℕ) (cells : List (List Lined)) (codes : List (List Instr)) (code : List Instr) → AreFirstCodes columns n cells codes → IsHart (column columns n cells) code → (number : ℕ) (a : List Instr) → (slice_get codes number ≡ Some a) ⊎ ((number ≡ length codes) × (code ≡ a)) → IsHart (column columns number cells) a
each_more columns n cells codes code h k number a (inl e) = h.each number a e
each_more columns n cells codes code h k number a (inr e) =
    let at : n ≡ number = sym (e.0 ∙ h.count) in
    subst (λ m. IsHart (column columns m cells) a) at (subst (λ l. IsHart (column columns n cells) l) e.1 k)

codes_more : (columns n : ℕ) (cells : List (List Lined)) (codes : List (List Instr)) (code : List Instr) → AreFirstCodes columns n cells codes → IsHart (column columns n cells) code → AreFirstCodes columns (n + 1) cells (codes ++ code ∷ [])
codes_more columns n cells codes code h k = record {
  count = length-append codes (code ∷ []) ∙ ap (λ m. m + 1) h.count;
  each = λ number a e. each_more columns n cells codes code h k number a (get_last codes code number a e);
}

at_or_below : (columns n number : ℕ) (cells : List (List Lined)) (f : Fault) → (number < n) ⊎ (number ≡ n) → IsHartFault (column columns number cells) f → IsFaultBelow columns n cells f ⊎ IsHartFault (column columns n cells) f
at_or_below columns n number cells f (inl h) k = inl (below h k)
at_or_below columns n number cells f (inr h) k = inr (subst (λ m. IsHartFault (column columns m cells) f) h k)

last_or : (a n : ℕ) → a < n + 1 → (a < n) ⊎ (a ≡ n)
last_or a n h = grind arith

fault_before : (columns n : ℕ) (cells : List (List Lined)) (f : Fault) → IsFaultBelow columns (n + 1) cells f → IsFaultBelow columns n cells f ⊎ IsHartFault (column columns n cells) f
fault_before columns n cells f (below {number = number} h k) = at_or_below columns n number cells f (last_or number n h) k

fault_still : (columns n : ℕ) (cells : List (List Lined)) (f : Fault) → IsFaultBelow columns n cells f → IsFaultBelow columns (n + 1) cells f
fault_still columns n cells f (below h k) = below (omega arith) k

fault_new : (columns n : ℕ) (cells : List (List Lined)) (f : Fault) → IsHartFault (column columns n cells) f → IsFaultBelow columns (n + 1) cells f
fault_new columns n cells f k = below (omega arith) k

fault_not_new : (columns n : ℕ) (cells : List (List Lined)) (code : List Instr) (f : Fault) → IsHart (column columns n cells) code → IsFaultBelow columns n cells f ⊎ IsHartFault (column columns n cells) f → IsFaultBelow columns n cells f
fault_not_new columns n cells code f h (inl k) = k
fault_not_new columns n cells code f h (inr k) = absurd (hart_clean h k)

-- the cells of the next hart
pub at_column : (columns n : ℕ) (cells rest : List (Bor (List Token))) → rest ≡ drop n cells → column columns 0 (cells_of rest) ≡ column columns n (cells_of cells)
at_column columns n cells rest e = ap (λ l. column columns 0 (cells_of l)) e ∙ ap (λ l. column columns 0 l) (sym (drop-map (λ c. views c.now) n cells)) ∙ sym (column-drop columns n (cells_of cells))

pub hart_right : (columns n : ℕ) (cells : List (List Lined)) (kept : List HartCode) (o : Option Fault) (k : HartCode) → HartsRead columns n cells kept o → ReadsHart (column columns n cells) (Ok k) → HartsRead columns (n + 1) cells (kept ++ k ∷ []) o
hart_right columns n cells kept o k h r = record {
  codes = λ e. let before = h.codes e in (before.0 ++ r.0 ∷ [], codes_more columns n cells before.0 r.0 before.1 r.1, kept_more before.0 kept r.0 k before.2 r.2);
  first = same_first (IsFaultBelow columns n cells) (IsFaultBelow columns (n + 1) cells) o (λ f b. fault_still columns n cells f b) (λ f b. fault_not_new columns n cells r.0 f r.1 (fault_before columns n cells f b)) h.first;
}

not_none : (o : Option Fault) (f : Fault) → earliest o (Some f) ≡ None → ⊥
not_none None f e = cc
not_none (Some g) f e = cc

pub hart_wrong : (columns n : ℕ) (cells : List (List Lined)) (kept : List HartCode) (o : Option Fault) (f : Fault) → HartsRead columns n cells kept o → ReadsHart (column columns n cells) (Err f) → HartsRead columns (n + 1) cells kept (earliest o (Some f))
hart_wrong columns n cells kept o f h r = record {
  codes = λ e. absurd (not_none o f e);
  first = first_join (IsFaultBelow columns n cells) (IsHartFault (column columns n cells)) (IsFaultBelow columns (n + 1) cells) (λ g b. fault_still columns n cells g b) (λ g b. fault_new columns n cells g b) (λ g b. fault_before columns n cells g b) o (Some f) h.first r;
}

pub harts_same : (columns n : ℕ) (cells : List (List Lined)) (kept kept2 : List HartCode) (o o2 : Option Fault) → kept2 ≡ kept → o2 ≡ o → HartsRead columns n cells kept o → HartsRead columns n cells kept2 o2
harts_same columns n cells kept kept2 o o2 e f h = subst (λ l. HartsRead columns n cells l o2) (sym e) (subst (λ r. HartsRead columns n cells kept r) (sym f) h)

-- ---- all harts

fault_of : {columns : ℕ} {cells : List (List Lined)} {f : Fault} → IsFaultBelow columns columns cells f → IsFault columns cells f
fault_of (below h k) = fault h k

fault_below : {columns : ℕ} {cells : List (List Lined)} {f : Fault} → IsFault columns cells f → IsFaultBelow columns columns cells f
fault_below (fault h k) = below h k

all_read : (columns : ℕ) (cells : List (List Lined)) (kept : List HartCode) (o : Option Fault) → HartsRead columns columns cells kept o → AreHarts columns cells kept o
all_read columns cells kept None h = let codes = h.codes refl in (codes.0, record { count = codes.1.count; each = codes.1.each }, codes.2)
all_read columns cells kept (Some f) h = same_first (IsFaultBelow columns columns cells) (IsFault columns cells) (Some f) (λ g b. fault_of b) (λ g b. fault_below b) h.first

pub harts_end : (columns n : ℕ) (cells : List (List Lined)) (kept : List HartCode) (o : Option Fault) → n ≡ columns → HartsRead columns n cells kept o → AreHarts columns cells kept o
harts_end columns n cells kept o e h = all_read columns cells kept o (subst (λ m. HartsRead columns m cells kept o) e h)

same_lists : {A : Type 0} (xs ys : List A) → ((i : ℕ) → slice_get xs i ≡ slice_get ys i) → xs ≡ ys
same_lists [] [] h = refl
same_lists [] (y ∷ ys) h = absurd (let e = h zero in cc)
same_lists (x ∷ xs) [] h = absurd (let e = h zero in cc)
same_lists (x ∷ xs) (y ∷ ys) h =
    let same : x ≡ y = (let e = h zero in cc) in
    cc (same, same_lists xs ys (λ i. h (suc i)))

same_at : (columns : ℕ) (cells : List (List Lined)) (a b : List (List Instr)) (i : ℕ) (o r : Option (List Instr)) → AreCodes columns cells a → AreCodes columns cells b → slice_get a i ≡ o → slice_get b i ≡ r → o ≡ r
same_at columns cells a b i None None h k e f = refl
same_at columns cells a b i (Some x) (Some y) h k e f = ap Some (hart_only (h.each i x e) (k.each i y f))
same_at columns cells a b i None (Some y) h k e f =
    let within : i < length b = slice_get_within b i y f in
    let count = h.count in
    let same = k.count in
    let inside : i < length a = omega arith in
    let got = slice_get-get_or a i y inside in
    absurd (cc)
same_at columns cells a b i (Some x) None h k e f =
    let within : i < length a = slice_get_within a i x e in
    let count = h.count in
    let same = k.count in
    let inside : i < length b = omega arith in
    let got = slice_get-get_or b i x inside in
    absurd (cc)

-- the rows mean one code for each hart
pub codes_only : (columns : ℕ) (cells : List (List Lined)) (a b : List (List Instr)) → AreCodes columns cells a → AreCodes columns cells b → a ≡ b
codes_only columns cells a b h k = same_lists a b (λ i. same_at columns cells a b i (slice_get a i) (slice_get b i) h k refl refl)

pub kept_only : (columns : ℕ) (cells : List (List Lined)) (kept : List HartCode) → AreHarts columns cells kept None → (codes : List (List Instr)) → AreCodes columns cells codes → AreKept codes kept
kept_only columns cells kept h codes k = subst (λ l. AreKept l kept) (codes_only columns cells h.0 codes h.1 k) h.2

-- and then no hart has a fault
pub codes_clean : (columns : ℕ) (cells : List (List Lined)) (a : List (List Instr)) (f : Fault) → AreCodes columns cells a → IsFault columns cells f → ⊥
codes_clean columns cells a f h (fault {number = n} low k) =
    let count = h.count in
    let inside : n < length a = omega arith in
    hart_clean (h.each n (get_or a n []) (slice_get-get_or a n [] inside)) k
