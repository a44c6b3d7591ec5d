-- A row of the table, built of its operands.
use Rattle.std.proofs.lemmas.Bool.{false_from_ne_true}
use Rattle.std.proofs.Common.{◌≡◌, ℕ, ◌==◌, List, [], ◌∷◌, Option, Some, false, suc, refl, sym, length, option_map, Ok, eqb-true, arith}
use Rattle.fs_litmus_tokens.specs.Tokens.{Tok}
use Rattle.fs_litmus_tokens.specs.declared.token.Token.{Token}
use Rattle.fs_instr.specs.Operands.{filled, blank, toks, read_parts}
use Rattle.fs_instr.specs.Instructions.{parts_of, instr_of}
use Rattle.fs_instr.specs.Reading.{is_refused, is_alone, is_empty, read_row}
use Rattle.fs_instr.specs.declared.names.Op.{Op}
use Rattle.fs_instr.specs.declared.instr.Instr.{Instr}
use Rattle.fs_instr.specs.declared.operands.Operands.{Operands}
use Rattle.fs_instr.specs.declared.operands.OperandPart.{OperandPart}
use denote.Ref.{Bor}

pub empty_toks : (ts : List Token) → (length ts == 0) ≡ is_empty (toks ts)
empty_toks [] = refl
empty_toks (t ∷ ts) = false_from_ne_true _ (λ same. absurd (omega (arith, eqb-true (suc (length ts)) 0 same)))

pub row_built : (op at : Op) (ts : List Tok) (ps : List OperandPart) (o : Operands) (label : Option (Bor (List ℕ))) (i : Instr) → at ≡ is_alone op (is_empty ts) → ps ≡ parts_of at → Some (filled o label) ≡ read_parts ps blank ts → false ≡ is_refused at → i ≡ instr_of at o → Ok (i, option_map (λ x. x.now) label) ≡ read_row op ts
unfolding read_row
row_built op at ts ps o label i a p r u b = rw (sym a, sym p, sym r, sym u, b) refl
