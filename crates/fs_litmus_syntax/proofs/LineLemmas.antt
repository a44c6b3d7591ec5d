-- The lines of instructions.
use Rattle.std.proofs.Common.{◌≡◌, ◌⊎◌, inl, inr, ℕ, ◌+◌, ◌<◌, List, [], ◌∷◌, ◌++◌, length, take, get_or, Option, Some, None, refl, sym, ap, ◌∙◌, subst, arith, length-append}
use Rattle.std.specs.List.{slice_index_or}
use Rattle.std.proofs.Math.ListN.{get_or-append}
use Rattle.std.proofs.Math.Seq.{get_or-append_seam}
use Rattle.fs_instr.specs.declared.instr.Instr.{Instr}
use Rattle.fs_kinds.specs.declared.fault.Fault.{Fault}
use Rattle.fs_litmus_tokens.specs.Tokens.{Lined}
use Rattle.fs_litmus_syntax.specs.declared.listing.Mark.{Mark}
use Rattle.fs_litmus_syntax.specs.inner.Listings.{item_at, marked}
use Rattle.fs_litmus_syntax.specs.Cells.{Item, Label, Instruction, AreCells, IsListing}
use Rattle.fs_litmus_syntax.specs.Columns.{column}
use Rattle.fs_litmus_syntax.specs.Lines.{lines_of, AreLines}
use Rattle.fs_litmus_syntax.proofs.ColumnLemmas.{cells_only, cells_clean}
use Rattle.fs_litmus_syntax.proofs.LabelLemmas.{items_more}

-- lines of lists in a row
pub lines-append : (xs ys : List Item) → lines_of (xs ++ ys) ≡ lines_of xs ++ lines_of ys
lines-append [] ys = refl
lines-append (Label w k ∷ xs) ys = lines-append xs ys
lines-append (Instruction i t k ∷ xs) ys = ap (λ l. k ∷ l) (lines-append xs ys)

-- one mark more
pub lines_next : (code : List Instr) (seen : List Mark) (i : ℕ) (d x : Mark) → i < length seen → get_or seen i d ≡ x
    → lines_of (marked code (take (i + 1) seen)) ≡ lines_of (marked code (take i seen)) ++ lines_of (item_at code x ∷ [])
lines_next code seen i d x low at =
    ap lines_of (items_more code seen i d x low at) ∙ lines-append (marked code (take i seen)) (item_at code x ∷ [])

-- where the cells are of the form, the listing is what they say
pub lines_if : (cells : List (List Lined)) (listing items : List Item) (o : Option Fault) → IsListing cells listing o → AreCells cells items
    → lines_of listing ≡ lines_of items
lines_if cells listing items None h are = ap lines_of (cells_only h are)
lines_if cells listing items (Some f) h are = absurd (cells_clean are h.is)

-- ---- hart by hart

-- the lines of the first harts
pub record AreFirstLines (columns n : ℕ) (cells : List (List Lined)) (lines : List (List ℕ)) : Type 0 where
  pub count : length lines ≡ n
  pub each : (number : ℕ) (items : List Item) → number < n → AreCells (column columns number cells) items
      → slice_index_or lines number [] ≡ lines_of items

pub no_lines : (columns : ℕ) (cells : List (List Lined)) → AreFirstLines columns 0 cells []
no_lines columns cells = record { count = refl; each = λ number items low are. absurd (omega (arith, low)) }

last_or : (a n : ℕ) → a < n + 1 → (a < n) ⊎ (a ≡ n)
last_or a n h = grind arith

one_more : (columns n : ℕ) (cells : List (List Lined)) (lines : List (List ℕ)) (line : List ℕ) (number : ℕ) (items : List Item)
    → AreFirstLines columns n cells lines
    → ((items : List Item) → AreCells (column columns n cells) items → line ≡ lines_of items)
    → (number < n) ⊎ (number ≡ n) → AreCells (column columns number cells) items
    → slice_index_or (lines ++ line ∷ []) number [] ≡ lines_of items
one_more columns n cells lines line number items h is (inl low) are =
    get_or-append lines (line ∷ []) [] number (let long = h.count in omega (arith, low, long)) ∙ h.each number items low are
one_more columns n cells lines line number items h is (inr same) are =
    ap (λ k. slice_index_or (lines ++ line ∷ []) k []) (same ∙ sym h.count)
    ∙ get_or-append_seam lines line [] []
    ∙ is items (subst (λ k. AreCells (column columns k cells) items) same are)

pub lines_more : (columns n : ℕ) (cells : List (List Lined)) (lines : List (List ℕ)) (line : List ℕ) → AreFirstLines columns n cells lines
    → ((items : List Item) → AreCells (column columns n cells) items → line ≡ lines_of items)
    → AreFirstLines columns (n + 1) cells (lines ++ line ∷ [])
lines_more columns n cells lines line h is = record {
  count = length-append lines (line ∷ []) ∙ ap (λ m. m + 1) h.count;
  each = λ number items low are. one_more columns n cells lines line number items h is (last_or number n low) are;
}

pub all_lines : (columns n : ℕ) (cells : List (List Lined)) (lines : List (List ℕ)) → n ≡ columns → AreFirstLines columns n cells lines → AreLines columns cells lines
all_lines columns n cells lines same h = record {
  count = h.count ∙ same;
  each = λ number items low are. h.each number items (omega (arith, low, same)) are;
}
