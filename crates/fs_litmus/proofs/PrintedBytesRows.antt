-- The header and the rows have the tokens of their cells.
use Rattle.std.proofs.Common.{◌≡◌, ℕ, zero, suc, ◌+◌, ◌<◌, ◌≤◌, ◌^◌, List, [], ◌∷◌, ◌++◌, Bool, true, false, cond, refl, sym, ap, ◌∙◌, subst, append_assoc, append-nil, length, arith}
use Rattle.std.proofs.Math.Nat.{max-zero, zero-max}
use Rattle.std.specs.Prelude.{All, codes, map, max, fold}
use Rattle.std.specs.List.{flat_map, enumerate_from, range_with_len, slice_index_or, AllZip}
use Rattle.std.specs.Fmt.{decimal}
use Rattle.fs_litmus_tokens.specs.Tokens.{Tok, Sign, word}
use Rattle.fs_litmus_tokens.specs.declared.token.Mark.TheVariants as mark
use Rattle.fs_instr.specs.Writing.{instr_text}
use Rattle.fs_instr.specs.PrintedTokens.{instr_tokens}
use Rattle.fs_instr.specs.OfTable.{IsOfTable}
use Rattle.fs_instr.specs.declared.instr.Instr.{Instr}
use Rattle.fs_instr.proofs.PrintedWords.{lettered_word}
use Rattle.fs_model.specs.Printed.{joined, ended, label, cell, end_cells, column, header, row, height, rows_text, is_target}
use Rattle.fs_litmus.specs.inner.Written as written
use Rattle.fs_litmus.specs.inner.Written.{label_toks, cell_toks, column_toks, row_cells, tallest, row_toks, header_cells}
use Rattle.fs_litmus.proofs.PrintedBytes.{Prints, Opens, nothing, nothing_open, opened, then, then_open, closed_by, word_opens, blank, semicolon, colon, bar, ended_line}
use Rattle.fs_litmus.proofs.PrintedBytesInstr.{instr_opens}
use Rattle.fs_litmus.proofs.PrintedBytesValues.{first_of, rest_of}

-- ---- a row of cells

-- each text is of a cell that has these tokens
abbrev pub AreCells : List (List ℕ) → List (List Tok) → Type 0
AreCells = AllZip Opens

cells_print : (a : List ℕ) (x : List Tok) (texts : List (List ℕ)) (cells : List (List Tok)) → Opens a x → AreCells texts cells → Prints ((a ++ flat_map (λ y. codes " | " ++ y) texts) ++ codes " ;") (row_toks (x ∷ cells))
cells_print a x [] [] p h = subst (λ l. Prints (l ++ codes " ;") (x ++ Sign mark.Semicolon ∷ [])) (sym (append-nil a)) (closed_by p (λ rest. refl) (then blank semicolon))
cells_print a x [] (y ∷ cells) p h = absurd h
cells_print a x (b ∷ texts) [] p h = absurd h
cells_print a x (b ∷ texts) (y ∷ cells) p h =
    let later = cells_print b y texts cells h.0 h.1 in
    let between = then (then blank bar) blank in
    subst (λ l. Prints l (x ++ Sign mark.Bar ∷ row_toks (y ∷ cells))) (sym (append_assoc a (flat_map (λ y. codes " | " ++ y) (b ∷ texts)) (codes " ;")))
    (closed_by p (λ rest. refl) (then between later))

pub row_prints : (texts : List (List ℕ)) (cells : List (List Tok)) → AreCells texts cells → Prints (joined (codes " | ") texts ++ codes " ;") (row_toks cells)
row_prints [] [] h = then blank semicolon
row_prints [] (y ∷ cells) h = absurd h
row_prints (b ∷ texts) [] h = absurd h
row_prints (b ∷ texts) (y ∷ cells) h = cells_print b y texts cells h.0 h.1

-- ---- the header

hart_cells : (hart n : ℕ) → hart + n ≤ 2 ^ 32 → AreCells (map (λ hart. codes "P" ++ decimal hart) (range_with_len hart n)) (map (λ hart. word (codes "P" ++ decimal hart) ∷ []) (range_with_len hart n))
hart_cells hart zero few = tt
hart_cells hart (suc n) few = (word_opens (80 ∷ decimal hart) (lettered_word 80 hart refl (omega arith)), hart_cells (hart + 1) n (omega arith))

pub header_prints : (harts : ℕ) → harts ≤ 2 ^ 32 → Prints (header harts) (row_toks (header_cells harts))
header_prints harts few = row_prints (map (λ hart. codes "P" ++ decimal hart) (range_with_len 0 harts)) (header_cells harts) (hart_cells 0 harts (omega arith))

-- ---- columns

label_prints : (at : ℕ) → at < 2 ^ 32 → Prints (label at) (label_toks at)
label_prints at small = closed_by (word_opens (76 ∷ decimal at) (lettered_word 76 at refl small)) (λ rest. refl) colon

labelled : (c : Bool) (a b : List ℕ) (x y : List Tok) → Prints a x → Opens b y → Opens (cond c a [] ++ b) (cond c x [] ++ y)
labelled true a b x y p q = then_open p q
labelled false a b x y p q = q

cell_opens : (code : List Instr) (at : ℕ) (i : Instr) → at < 2 ^ 32 → IsOfTable i → Opens (cell code (at, i)) (cell_toks code (at, i))
cell_opens code at i small h = labelled (is_target code at) (label at ++ codes " ") (instr_text i) (label_toks at) (instr_tokens i) (then (label_prints at small) blank) (instr_opens i h)

end_label : (c : Bool) (at : ℕ) → at < 2 ^ 32 → AreCells (cond c (label at ∷ []) []) (cond c (label_toks at ∷ []) [])
end_label true at small = (opened (label_prints at small), tt)
end_label false at small = tt

code_cells : (whole : List Instr) (at : ℕ) (code : List Instr) → at + length code < 2 ^ 32 → length whole < 2 ^ 32 → All IsOfTable code → AreCells (map (cell whole) (enumerate_from at code) ++ end_cells whole) (map (cell_toks whole) (enumerate_from at code) ++ written.end_cells whole)
code_cells whole at [] small few all = end_label (is_target whole (length whole)) (length whole) few
code_cells whole at (i ∷ code) small few all =
    (cell_opens whole at i (omega arith) (first_of IsOfTable i code all), code_cells whole (at + 1) code (omega arith) few (rest_of IsOfTable i code all))

-- each column of texts is of these cells
abbrev pub AreColumns : List (List (List ℕ)) → List (List (List Tok)) → Type 0
AreColumns = AllZip AreCells

pub columns_open : (codes : List (List Instr)) → All (λ code. length code < 256) codes → All (All IsOfTable) codes → AreColumns (map column codes) (map column_toks codes)
columns_open [] few all = tt
columns_open (code ∷ codes) few all =
    let short : length code < 256 = first_of (λ code. length code < 256) code codes few in
    (code_cells code 0 code (omega arith) (omega arith) (first_of (All IsOfTable) code codes all), columns_open codes (rest_of (λ code. length code < 256) code codes few) (rest_of (All IsOfTable) code codes all))

-- ---- rows

cell_at : (texts : List (List ℕ)) (cells : List (List Tok)) (at : ℕ) → AreCells texts cells → Opens (slice_index_or texts at []) (slice_index_or cells at [])
cell_at [] [] at h = nothing_open
cell_at [] (y ∷ cells) at h = absurd h
cell_at (b ∷ texts) [] at h = absurd h
cell_at (b ∷ texts) (y ∷ cells) zero h = h.0
cell_at (b ∷ texts) (y ∷ cells) (suc at) h = cell_at texts cells at h.1

cells_at : (columns : List (List (List ℕ))) (cells : List (List (List Tok))) (at : ℕ) → AreColumns columns cells → AreCells (map (λ cells. slice_index_or cells at []) columns) (row_cells cells at)
cells_at [] [] at h = tt
cells_at [] (y ∷ cells) at h = absurd h
cells_at (b ∷ columns) [] at h = absurd h
cells_at (b ∷ columns) (y ∷ cells) at h = (cell_at b y at h.0, cells_at columns cells at h.1)

module _ (columns : List (List (List ℕ))) (cells : List (List (List Tok))) (h : AreColumns columns cells) where
  lines_print : (ns : List ℕ) → Prints (flat_map (λ at. ended (row columns at)) ns) (flat_map row_toks (map (row_cells cells) ns))
  lines_print [] = nothing
  lines_print (n ∷ ns) = then (ended_line (opened (row_prints (map (λ cells. slice_index_or cells n []) columns) (row_cells cells n) (cells_at columns cells n h)))) (lines_print ns)

same_length : (texts : List (List ℕ)) (cells : List (List Tok)) → AreCells texts cells → length texts ≡ length cells
same_length [] [] h = refl
same_length [] (y ∷ cells) h = absurd h
same_length (b ∷ texts) [] h = absurd h
same_length (b ∷ texts) (y ∷ cells) h = ap suc (same_length texts cells h.1)

max_regroup : (a b c : ℕ) → max (max a b) c ≡ max a (max b c)
max_regroup a b c = omega arith

height_from : (columns : List (List (List ℕ))) (cells : List (List (List Tok))) (n : ℕ) → AreColumns columns cells → fold (λ rows cells. max rows (length cells)) n columns ≡ max n (tallest cells)
height_from [] [] n h = sym (max-zero n)
height_from [] (y ∷ cells) n h = absurd h
height_from (b ∷ columns) [] n h = absurd h
height_from (b ∷ columns) (y ∷ cells) n h =
    height_from columns cells (max n (length b)) h.1 ∙ ap (λ m. max (max n m) (tallest cells)) (same_length b y h.0) ∙ max_regroup n (length y) (tallest cells)

pub rows_print : (columns : List (List (List ℕ))) (cells : List (List (List Tok))) → AreColumns columns cells → Prints (rows_text columns) (flat_map row_toks (map (row_cells cells) (range_with_len 0 (tallest cells))))
rows_print columns cells h =
    let tall : height columns ≡ tallest cells = height_from columns cells 0 h ∙ zero-max (tallest cells) in
    subst (λ n. Prints (rows_text columns) (flat_map row_toks (map (row_cells cells) (range_with_len 0 n)))) tall (lines_print columns cells h (range_with_len 0 (height columns)))
