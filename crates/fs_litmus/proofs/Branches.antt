-- A branch is a cell that ends in its label.
use Rattle.std.proofs.Common.{◌≡◌, ◌⊎◌, inl, inr, ℕ, zero, suc, List, [], ◌∷◌, ◌++◌, drop, Option, Some, None, Bool, true, false, not, ◌&&◌, ◌||◌, if◌then◌else◌, is_some, refl, sym, ap, ◌∙◌, subst}
use Rattle.std.specs.List.{list_any, cons_option}
use Rattle.std.specs.Str.{bytes_eq}
use Rattle.fs_litmus_tokens.specs.Numbers.{number_of}
use Rattle.fs_litmus_tokens.specs.Words.{is_name}
use Rattle.fs_litmus_tokens.specs.Tokens.{Tok, Lined, Word, Sign, Strange}
use Rattle.fs_litmus_tokens.specs.declared.word.Class.TheVariants as class
use Rattle.fs_litmus_tokens.specs.declared.token.Mark.TheVariants.{Minus}
use Rattle.fs_instr.specs.Operands.{Filled}
use Rattle.fs_instr.specs.Instructions.{parts_of}
use Rattle.fs_instr.specs.Reading.{is_alone, is_empty}
use Rattle.fs_instr.specs.Spelled.{IsNumber, plus, minus, IsPart, rd, first, second, x0, sign, imm, no_imm, offset, below, constant, no_offset, zero_offset, label, before, after, AreParts, none, next, Spells, spells}
use Rattle.fs_instr.specs.declared.names.Op.{Op}
use Rattle.fs_instr.specs.declared.names.Op.TheVariants as op
use Rattle.fs_instr.specs.declared.instr.Instr.{Instr}
use Rattle.fs_instr.specs.declared.operands.OperandPart.{OperandPart}
use Rattle.fs_instr.specs.declared.operands.OperandPart.TheVariants as part
use Rattle.fs_litmus_syntax.specs.Numbered.{named, name_or, label_in, name_from, numbered, before_last, begins_digit, operands}
use Rattle.fs_litmus_syntax.specs.Cells.{Item, Label, Instruction, AreLabels, IsCell, labels, instruction, AreCells, empty}
use Rattle.fs_litmus_syntax.specs.Cells.{none as no_label, label as one_label, next as one_cell}
use Rattle.fs_litmus_syntax.specs.Labels.{IsBranch, this, after_label, after_instruction}
use Rattle.fs_litmus.proofs.PrintedMeaningNames.{bytes_refl}
use Rattle.fs_litmus.specs.SiteLabels as sites
use Rattle.fs_litmus.specs.SiteLabels.{word_of, end_word, end_words, is_site}

-- ---- the label is the last operand

false_true : ◌≡◌ {A = Bool} false true → ⊥
false_true e = cc e

abbrev pub tok_word : Tok → Option (List ℕ)
tok_word (Word c w) = Some w
tok_word (Sign m) = None
tok_word Strange = None

-- the last token's word
abbrev pub last_word : List Tok → Option (List ℕ)
last_word [] = None
last_word (t ∷ []) = tok_word t
last_word (t ∷ u ∷ ts) = last_word (u ∷ ts)

none_some : (w : List ℕ) → ◌≡◌ {A = Option (List ℕ)} None (Some w) → ⊥
none_some w e = cc e

more : (t : Tok) (ts : List Tok) (w : List ℕ) → last_word ts ≡ Some w → last_word (t ∷ ts) ≡ Some w
more t [] w e = absurd (none_some w e)
more t (u ∷ ts) w e = e

number_more : {ts rest : List Tok} {m : Bool} {n : ℕ} (w : List ℕ) → IsNumber ts m n rest → last_word rest ≡ Some w → last_word ts ≡ Some w
number_more w (plus {c = c} {w = v} {rest = rest} e) h = more (Word c v) rest w h
number_more w (minus {c = c} {w = v} {rest = rest} e l) h = more (Sign Minus) (Word c v ∷ rest) w (more (Word c v) rest w h)

part_more : {p : OperandPart} {o o1 : Filled} {ts rest : List Tok} (w : List ℕ) → IsPart p o ts o1 rest → last_word rest ≡ Some w → last_word ts ≡ Some w
part_more w (rd {c = c} {w = v} {rest = rest} e) h = more (Word c v) rest w h
part_more w (first {c = c} {w = v} {rest = rest} e) h = more (Word c v) rest w h
part_more w (second {c = c} {w = v} {rest = rest} e) h = more (Word c v) rest w h
part_more w (x0 {c = c} {w = v} {rest = rest} e) h = more (Word c v) rest w h
part_more w (sign {m = m} {rest = rest}) h = more (Sign m) rest w h
part_more w (imm n e) h = number_more w n h
part_more w no_imm h = h
part_more w (offset n e) h = number_more w n h
part_more w (below n e) h = number_more w n h
part_more w (constant n) h = number_more w n h
part_more w no_offset h = h
part_more w (zero_offset n) h = number_more w n h
part_more w (label {c = c} {w = v} {rest = rest} e) h = more (Word c v) rest w h
part_more w (before {c = c} {w = v} {rest = rest} e) h = more (Word c v) rest w h
part_more w (after {c = c} {w = v} {rest = rest} e) h = more (Word c v) rest w h

abbrev is_label_part : OperandPart → Bool
is_label_part part.Label = true
is_label_part _ = false

abbrev no_parts : List OperandPart → Bool
no_parts [] = true
no_parts (p ∷ ps) = false

-- no part but the last is a label
abbrev labels_last : List OperandPart → Bool
labels_last [] = true
labels_last (p ∷ ps) = if is_label_part p then no_parts ps else labels_last ps

each_labels_last : (o : Op) → labels_last (parts_of o) ≡ true
each_labels_last (op.Register o) = refl
each_labels_last (op.Immediate o) = refl
each_labels_last (op.Shift o) = refl
each_labels_last op.Lui = refl
each_labels_last op.Li = refl
each_labels_last (op.Lw ann) = refl
each_labels_last (op.Sw ann) = refl
each_labels_last (op.Lr ann) = refl
each_labels_last (op.Sc ann) = refl
each_labels_last (op.Amo o ann) = refl
each_labels_last (op.Branch o) = refl
each_labels_last op.Jal = refl
each_labels_last op.Fence = refl
each_labels_last op.FenceTso = refl
each_labels_last op.FenceI = refl
each_labels_last op.Nop = refl
each_labels_last op.Mv = refl
each_labels_last op.Seqz = refl
each_labels_last op.Not = refl
each_labels_last (op.OfZero o) = refl
each_labels_last (op.WithZero o) = refl
each_labels_last (op.BranchZero o) = refl
each_labels_last (op.ZeroBranch o) = refl
each_labels_last (op.Swapped o) = refl
each_labels_last op.J = refl
each_labels_last op.FenceAll = refl

nothing_after : {o o2 : Filled} {ts : List Tok} (ps : List OperandPart) → no_parts ps ≡ true → AreParts ps o ts o2 → (ts ≡ []) × (o ≡ o2)
nothing_after [] e none = (refl, refl)
nothing_after (p ∷ ps) e h = absurd (false_true e)

kept : {p : OperandPart} {o o1 : Filled} {ts rest : List Tok} → IsPart p o ts o1 rest → is_label_part p ≡ false → o1.label ≡ o.label
kept (label e) q = absurd (false_true (sym q))
kept (rd e) q = refl
kept (first e) q = refl
kept (second e) q = refl
kept (x0 e) q = refl
kept sign q = refl
kept (imm n e) q = refl
kept no_imm q = refl
kept (offset n e) q = refl
kept (below n e) q = refl
kept (constant n) q = refl
kept no_offset q = refl
kept (zero_offset n) q = refl
kept (before e) q = refl
kept (after e) q = refl

label_alone : {p : OperandPart} {o o1 : Filled} {ts rest : List Tok} (o2 : Filled) (w : List ℕ) → IsPart p o ts o1 rest → is_label_part p ≡ true → (rest ≡ []) × (o1 ≡ o2) → o2.label ≡ Some w → last_word ts ≡ Some w
label_alone o2 w (label {c = c} {w = v} e) q end f = subst (λ r. last_word (Word c v ∷ r) ≡ Some w) (sym end.0) (ap (λ o. o.label) end.1 ∙ f)
label_alone o2 w (rd e) q end f = absurd (false_true q)
label_alone o2 w (first e) q end f = absurd (false_true q)
label_alone o2 w (second e) q end f = absurd (false_true q)
label_alone o2 w (x0 e) q end f = absurd (false_true q)
label_alone o2 w sign q end f = absurd (false_true q)
label_alone o2 w (imm n e) q end f = absurd (false_true q)
label_alone o2 w no_imm q end f = absurd (false_true q)
label_alone o2 w (offset n e) q end f = absurd (false_true q)
label_alone o2 w (below n e) q end f = absurd (false_true q)
label_alone o2 w (constant n) q end f = absurd (false_true q)
label_alone o2 w no_offset q end f = absurd (false_true q)
label_alone o2 w (zero_offset n) q end f = absurd (false_true q)
label_alone o2 w (before e) q end f = absurd (false_true q)
label_alone o2 w (after e) q end f = absurd (false_true q)

by_kind : {p : OperandPart} {ps : List OperandPart} {o o1 o2 : Filled} {ts rest : List Tok} (w : List ℕ) → IsPart p o ts o1 rest → AreParts ps o1 rest o2
    → (b : Bool) → is_label_part p ≡ b → (if b then no_parts ps else labels_last ps) ≡ true → o.label ≡ None → o2.label ≡ Some w
    → (labels_last ps ≡ true → o1.label ≡ None → last_word rest ≡ Some w) → last_word ts ≡ Some w
by_kind {ps = ps} {o2 = o2} w k ks true q l e f later = label_alone o2 w k q (nothing_after ps l ks) f
by_kind w k ks false q l e f later = part_more w k (later l (kept k q ∙ e))

last_label : {ps : List OperandPart} {o o2 : Filled} {ts : List Tok} (w : List ℕ) → AreParts ps o ts o2 → labels_last ps ≡ true → o.label ≡ None → o2.label ≡ Some w → last_word ts ≡ Some w
last_label w none l e f = absurd (none_some w (sym e ∙ f))
last_label w (next {p = p} k ks) l e f = by_kind w k ks (is_label_part p) refl l e f (λ m g. last_label w ks m g f)

pub spelled_last : {ts : List Tok} {i : Instr} {target : Option (List ℕ)} (w : List ℕ) → Spells ts i target → target ≡ Some w → last_word ts ≡ Some w
spelled_last w (spells {c = c} {w = v} {ts = ts} {op = o} known shape fine) e =
    more (Word c v) ts w (last_label w shape (each_labels_last (is_alone o (is_empty ts))) refl e)

-- ---- the cell ends in it

word_same : (t : Tok) (k : ℕ) → tok_word t ≡ word_of (t, k)
word_same (Word c w) k = refl
word_same (Sign m) k = refl
word_same Strange k = refl

is_number_if : (b : Bool) (x u : List ℕ) → is_some (number_of x) ≡ b → (if b then Some x else None) ≡ Some u → is_some (number_of u) ≡ true
is_number_if true x u e f = let same : x ≡ u = cc in ap (λ w. is_some (number_of w)) (sym same) ∙ e
is_number_if false x u e f = absurd (none_some u f)

numbered_is : (o : Option (List ℕ)) (u : List ℕ) → numbered o ≡ Some u → is_some (number_of u) ≡ true
numbered_is None u e = absurd (none_some u e)
numbered_is (Some x) u e = is_number_if (is_some (number_of x)) x u refl e

itself : (v w : List ℕ) (ahead back : Option (List ℕ)) → (ahead ≡ Some w → ⊥) → name_from v ahead back ≡ Some w → Some v ≡ Some w
itself v w (Some n) back never e = absurd (never e)
itself v w None (Some n) never e = e
itself v w None None never e = absurd (none_some w e)

module _ (w : List ℕ) (no_number : number_of w ≡ None) where
  not_numbered : (o : Option (List ℕ)) → numbered o ≡ Some w → ⊥
  not_numbered o e = false_true (sym (ap is_some no_number) ∙ numbered_is o w e)

  digits_first : (b : Bool) (v : List ℕ) → (if b then name_from v (numbered (before_last 102 v)) (numbered (before_last 98 v)) else None) ≡ Some w → Some v ≡ Some w
  digits_first true v e = itself v w (numbered (before_last 102 v)) (numbered (before_last 98 v)) (λ f. not_numbered (before_last 102 v) f) e
  digits_first false v e = absurd (none_some w e)

  other_word : (v : List ℕ) (o : Option (List ℕ)) → label_in v ≡ o → tok_word (name_or v o) ≡ Some w → Some v ≡ Some w
  other_word v None e f = f
  other_word v (Some name) e f = digits_first (begins_digit v) v (e ∙ f)

  named_word : (t : Tok) → tok_word (named t) ≡ Some w → tok_word t ≡ Some w
  named_word (Word class.Other v) e = other_word v (label_in v) refl e
  named_word (Word class.Number v) e = e
  named_word (Word class.LocationsWord v) e = e
  named_word (Word class.ExistsWord v) e = e
  named_word (Word class.ForallWord v) e = e
  named_word (Word class.NotWord v) e = e
  named_word (Word class.TrueWord v) e = e
  named_word (Word class.FalseWord v) e = e
  named_word (Word class.Name v) e = e
  named_word (Sign m) e = e
  named_word Strange e = e

  named_last : (ts : List Lined) → last_word (operands ts) ≡ Some w → end_word ts ≡ Some w
  named_last [] e = e
  named_last ((t, k) ∷ []) e = sym (word_same t k) ∙ named_word t e
  named_last ((t, k) ∷ (u, l) ∷ ts) e = named_last ((u, l) ∷ ts) e

  instruction_last : (t : Tok) (k : ℕ) (ts : List Lined) → last_word (t ∷ operands ts) ≡ Some w → end_word ((t, k) ∷ ts) ≡ Some w
  instruction_last t k [] e = sym (word_same t k) ∙ e
  instruction_last t k ((u, l) ∷ ts) e = named_last ((u, l) ∷ ts) e

  end_more : (t : Lined) (ts : List Lined) → end_word ts ≡ Some w → end_word (t ∷ ts) ≡ Some w
  end_more t [] e = absurd (none_some w e)
  end_more t (u ∷ ts) e = e

  end_dropped : (ts : List Lined) → end_word (drop 2 ts) ≡ Some w → end_word ts ≡ Some w
  end_dropped [] e = e
  end_dropped (t ∷ []) e = absurd (none_some w e)
  end_dropped (t ∷ u ∷ ts) e = end_more t (u ∷ ts) (end_more u ts e)

  labels_end : {ts rest : List Lined} {xs : List Item} → AreLabels ts xs rest → end_word rest ≡ Some w → end_word ts ≡ Some w
  labels_end (no_label f) e = e
  labels_end (one_label {ts = ts} f h) e = end_dropped ts (labels_end h e)

  labels_alone : {ts rest : List Lined} {xs : List Item} {n line : ℕ} → AreLabels ts xs rest → IsBranch w n line xs → ⊥
  labels_alone (no_label f) b = elim b [ ]
  labels_alone (one_label f h) (after_label b) = labels_alone h b

  branch_last : {ts rest : List Lined} {xs : List Item} {n line : ℕ} (i : Instr) (target : Option (List ℕ)) (k : ℕ) → AreLabels ts xs rest → IsBranch w n line (xs ++ Instruction i target k ∷ []) → target ≡ Some w
  branch_last i _ k (no_label f) this = refl
  branch_last i target k (no_label f) (after_instruction b) = elim b [ ]
  branch_last i target k (one_label f h) (after_label b) = branch_last i target k h b

  cell_end : {c : List Lined} {xs : List Item} {n line : ℕ} → IsCell c xs → IsBranch w n line xs → end_word c ≡ Some w
  cell_end (labels h) b = absurd (labels_alone h b)
  cell_end {n = n} {line = line} (instruction {rest = rest} {t = t} {line = k} {i = i} {target = target} h s e) b =
      let to = branch_last i target k h (subst (λ l. IsBranch w n line l) e b) in
      labels_end h (instruction_last t k rest (spelled_last w s to))

  abbrev Found : List (List ℕ) → Type 0
  Found ws = list_any (λ v. bytes_eq v w) ws ≡ true

  or_true : (a b : Bool) → b ≡ true → (a || b) ≡ true
  or_true true b e = refl
  or_true false b e = e

  found_later : (o : Option (List ℕ)) (ws : List (List ℕ)) → Found ws → Found (cons_option o ws)
  found_later None ws h = h
  found_later (Some v) ws h = or_true (bytes_eq v w) (list_any (λ u. bytes_eq u w) ws) h

  found_here : (o : Option (List ℕ)) (ws : List (List ℕ)) → o ≡ Some w → Found (cons_option o ws)
  found_here o ws e = ap (λ p. list_any (λ v. bytes_eq v w) (cons_option p ws)) e ∙ ap (λ b. b || list_any (λ v. bytes_eq v w) ws) (bytes_refl w)

  which : {n line : ℕ} (xs ys : List Item) → IsBranch w n line (xs ++ ys) → ((m : ℕ) × IsBranch w m line xs) ⊎ ((m : ℕ) × IsBranch w m line ys)
  which {n = n} [] ys b = inr (n, b)
  which (Label v k ∷ xs) ys (after_label b) = elim (which xs ys b) [ inl x ↦ inl (x.0, after_label x.1) | inr y ↦ inr y ]
  which (Instruction i t k ∷ xs) ys this = inl (zero, this)
  which (Instruction i t k ∷ xs) ys (after_instruction b) = elim (which xs ys b) [ inl x ↦ inl (suc x.0, after_instruction x.1) | inr y ↦ inr y ]

  -- a cell of a hart with a branch to this label ends in it
  pub branch_found : {cells : List (List Lined)} {items : List Item} {n line : ℕ} → AreCells cells items → IsBranch w n line items → Found (end_words cells)
  branch_found empty b = elim b [ ]
  branch_found {n = n} {line = line} (one_cell {c = c} {cs = cs} {xs = xs} {ys = ys} k ks e) b =
      elim (which xs ys (subst (λ l. IsBranch w n line l) e b)) [
        | inl x ↦ found_here (end_word c) (end_words cs) (cell_end k x.1)
        | inr y ↦ found_later (end_word c) (end_words cs) (branch_found ks y.1)
      ]

and_right : (a b : Bool) → (a && b) ≡ true → b ≡ true
and_right true b e = e
and_right false b e = absurd (false_true e)

-- no branch of a hart goes to a site label of the hart
pub no_branch : (cells : List (List Lined)) (items : List Item) (l : sites.Label) (n line : ℕ) → AreCells cells items → number_of l.word ≡ None → is_site (end_words cells) l ≡ true → IsBranch l.word n line items → ⊥
no_branch cells items l n line are no_number site b =
    false_true (ap not (sym (branch_found l.word no_number are b)) ∙ and_right (is_name l.class) _ site)
