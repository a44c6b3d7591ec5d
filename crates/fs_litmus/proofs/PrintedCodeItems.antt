-- The items of a printed code: a label at each position that a branch goes to, and the instructions.
use Rattle.std.proofs.Common.{◌≡◌, ℕ, ◌+◌, ◌<◌, ◌^◌, suc, List, [], ◌∷◌, ◌++◌, map, length, replicate, Bool, true, false, cond, All, refl, subst, arith, suc-le-suc}
use Rattle.std.specs.List.{enumerate_from}
use Rattle.fs_litmus_tokens.specs.Tokens.{Lined, without_lines}
use Rattle.fs_instr.specs.Instructions.{targeted}
use Rattle.fs_instr.specs.OfTable.{IsOfTable}
use Rattle.fs_instr.specs.PrintedTokens.{instr_tokens, label_of}
use Rattle.fs_instr.specs.declared.instr.Instr.{Instr}
use Rattle.fs_litmus_syntax.specs.Cells.{Item, Label, Instruction, AreCells, next}
use Rattle.fs_model.specs.Printed.{is_target}
use Rattle.fs_litmus.specs.inner.Written.{label_toks, cell_toks, end_cells}
use Rattle.fs_litmus.proofs.PrintedCodeCells.{label_name, bare_cell, labelled_cell, end_cell, blank_cells}

-- From position n on the items are those of these instructions.
pub data ArePrinted (code : List Instr) : ℕ → List Instr → List Item → Type 0 where
  finish : {n : ℕ} → is_target code n ≡ false → ArePrinted code n [] []
  end_label : {n line : ℕ} → is_target code n ≡ true → ArePrinted code n [] (Label (label_name n) line ∷ [])
  bare : {n line : ℕ} {i : Instr} {more : List Instr} {xs : List Item} → is_target code n ≡ false → ArePrinted code (n + 1) more xs → ArePrinted code n (i ∷ more) (Instruction (targeted 0 i) (label_of i) line ∷ xs)
  labelled : {n k line : ℕ} {i : Instr} {more : List Instr} {xs : List Item} → is_target code n ≡ true → ArePrinted code (n + 1) more xs → ArePrinted code n (i ∷ more) (Label (label_name n) k ∷ Instruction (targeted 0 i) (label_of i) line ∷ xs)

-- the cells say items of these instructions
pub record HasItems (code : List Instr) (n : ℕ) (instrs : List Instr) (cs : List (List Lined)) : Type 0 where
  pub items : List Item
  pub are : AreCells cs items
  pub printed : ArePrinted code n instrs items

end_items : (code : List Instr) (n m : ℕ) (cs : List (List Lined)) (b : Bool) → n < 2 ^ 32 → is_target code n ≡ b → map without_lines cs ≡ cond b (label_toks n ∷ []) [] ++ replicate m [] → HasItems code n [] cs
end_items code n m [] true small t e = absurd (cc)
end_items code n m (c ∷ cs) true small t e =
    let one = end_cell c n small (cc e) in
    record { items = _; are = next one.is (blank_cells cs m (cc e)) refl; printed = end_label t }
end_items code n m cs false small t e = record { items = []; are = blank_cells cs m e; printed = finish t }

one_item : (code : List Instr) (n : ℕ) (i : Instr) (more : List Instr) (c : List Lined) (cs : List (List Lined)) (b : Bool) → n < 2 ^ 32 → IsOfTable i → is_target code n ≡ b → without_lines c ≡ cond b (label_toks n) [] ++ instr_tokens i → HasItems code (n + 1) more cs → HasItems code n (i ∷ more) (c ∷ cs)
one_item code n i more c cs true small table t e h =
    let one = labelled_cell c n i small table e in
    record { items = _; are = next one.is h.are refl; printed = labelled t h.printed }
one_item code n i more c cs false small table t e h =
    let one = bare_cell c i table e in
    record { items = _; are = next one.is h.are refl; printed = bare t h.printed }

pub items_of_cells : (code instrs : List Instr) (n m : ℕ) (cs : List (List Lined)) → All IsOfTable instrs → n + length instrs ≡ length code → length code < 2 ^ 32 → map without_lines cs ≡ (map (cell_toks code) (enumerate_from n instrs) ++ end_cells code) ++ replicate m [] → HasItems code n instrs cs
items_of_cells code [] n m cs table e small toks =
    let same : length code ≡ n = omega (arith, e) in
    end_items code n m cs (is_target code n) (omega (arith, e, small)) refl (subst (λ k. map without_lines cs ≡ cond (is_target code k) (label_toks k ∷ []) [] ++ replicate m []) same toks)
items_of_cells code (i ∷ more) n m [] table e small toks = absurd (cc)
items_of_cells code (i ∷ more) n m (c ∷ cs) table e small toks =
    let here : without_lines c ≡ cell_toks code (n, i) = cc toks in
    let later = items_of_cells code more (n + 1) m cs (λ k d h. table (suc k) d (suc-le-suc h)) (omega (arith, e)) small (cc toks) in
    one_item code n i more c cs (is_target code n) (omega (arith, e, small)) (table 0 i (omega arith)) refl here later
