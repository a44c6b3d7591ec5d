-- What a cell says.
use Rattle.std.proofs.Common.{◌≡◌, ℕ, ◌+◌, ◌-◌, ◌≤◌, List, [], ◌∷◌, ◌++◌, length, drop, Option, Some, None, Err, refl, sym, ap, ◌∙◌, subst, append_assoc, append-nil, length-drop, arith}
use Rattle.std.proofs.lemmas.List.{drop-map, drop-drop}
use Rattle.fs_litmus_tokens.specs.Tokens.{Tok, Lined, view, views, kind_of}
use Rattle.fs_litmus_tokens.specs.declared.token.Token.{Token}
use Rattle.fs_instr.specs.Spelled.{Spells, IsUnknown, IsUnsupported, Answers}
use Rattle.fs_instr.proofs.Spelling.{spelled_read, unknown_read, unsupported_read}
use Rattle.fs_instr.specs.declared.instr.Instr.{Instr}
use Rattle.fs_instr.specs.declared.reading.Refused.TheVariants.{Form, Name, Suffix}
use Rattle.fs_kinds.specs.declared.fault.Fault.{Fault}
use Rattle.fs_kinds.specs.declared.fault.Fault.TheVariants.{Syntax, UnknownInstr, BadAnnotation}
use Rattle.fs_litmus_syntax.specs.Numbered.{operands}
use Rattle.fs_litmus_syntax.specs.Cells.{Item, Label, Instruction, front_label, AreLabels, none, label, IsCell, labels, instruction, IsMalformed, IsCellFault, syntax, unknown, annotation, AddsLabels, AddsItems}

pub record SameLabels (xs ys : List Item) (r s : List Lined) : Type 0 where
  pub items : xs ≡ ys
  pub rest : r ≡ s

pub labels_only : {ts r s : List Lined} {xs ys : List Item} → AreLabels ts xs r → AreLabels ts ys s → SameLabels xs ys r s
labels_only (none e) (none f) = record { items = refl; rest = refl }
labels_only (none e) (label f k) = absurd (cc)
labels_only (label e h) (none f) = absurd (cc)
labels_only (label {w = w} {line = l} {xs = xs} e h) (label {w = v} {line = k} f i) =
    let later = labels_only h i in
    let same : ◌≡◌ {A = List ℕ × ℕ} (w, l) (v, k) = cc in
    let same_name : w ≡ v = ap (λ x. x.0) same in
    let same_line : l ≡ k = ap (λ x. x.1) same in
    record { items = cc (later.items, same_name, same_line); rest = later.rest }

spells_only : {ts : List Tok} {i j : Instr} {l m : Option (List ℕ)} → Spells ts i l → Spells ts j m → (i ≡ j) × (l ≡ m)
spells_only {i = i} {j = j} {l = l} {m = m} h k =
    let p = spelled_read h in
    let q = spelled_read k in
    let same : ◌≡◌ {A = Instr × Option (List ℕ)} (i, l) (j, m) = cc (p, q) in
    (ap (λ x. x.0) same, ap (λ x. x.1) same)

-- a cell says one thing
pub cell_only : {ts : List Lined} {xs ys : List Item} → IsCell ts xs → IsCell ts ys → xs ≡ ys
cell_only (labels h) (labels k) = (labels_only h k).items
cell_only (labels h) (instruction k s e) = let p = (labels_only h k).rest in absurd (cc p)
cell_only (instruction h s e) (labels k) = let p = (labels_only h k).rest in absurd (cc p)
cell_only (instruction {rest = r} {xs = xs} {ys = ys} {t = t} {line = l} {i = i} {target = w} h s e) (instruction {rest = q} {xs = xs2} {t = u} {line = k} {i = j} {target = v} g z f) =
    let p = labels_only h g in
    let rest : ◌≡◌ {A = List Lined} ((t, l) ∷ r) ((u, k) ∷ q) = p.rest in
    let front : ◌≡◌ {A = Lined} (t, l) (u, k) = cc rest in
    let same_t : t ≡ u = ap (λ x. x.0) front in
    let same_l : l ≡ k = ap (λ x. x.1) front in
    let same_r : r ≡ q = cc rest in
    let z2 = subst (λ x. Spells (x ∷ operands q) j v) (sym same_t) z in
    let z3 = subst (λ x. Spells (t ∷ operands x) j v) (sym same_r) z2 in
    let same = spells_only s z3 in
    cc (e, f, p.items, same_l, same.0, same.1)

-- ---- a cell of the form has no fault

spells_known : {ts : List Tok} {i : Instr} {l : Option (List ℕ)} → Spells ts i l → IsUnknown ts → ⊥
spells_known h k =
    let p = spelled_read h in
    let q = unknown_read k in
    cc (p, q)

spells_supported : {ts : List Tok} {i : Instr} {l : Option (List ℕ)} → Spells ts i l → IsUnsupported ts → ⊥
spells_supported h k =
    let p = spelled_read h in
    let q = unsupported_read k in
    cc (p, q)

known_or_not : {ts : List Tok} → IsUnknown ts → IsUnsupported ts → ⊥
known_or_not h k =
    let p = unknown_read h in
    let q = unsupported_read k in
    cc (p, q)

-- a fact on what comes after the labels of a cell, which is one list
along : {t u : Tok} {l k : ℕ} {r q : List Lined} (P : List Tok → Type 0) → ◌≡◌ {A = List Lined} ((t, l) ∷ r) ((u, k) ∷ q) → P (u ∷ operands q) → P (t ∷ operands r)
along {t = t} {u = u} {l = l} {k = k} {r = r} {q = q} P e h =
    let front : ◌≡◌ {A = Lined} (u, k) (t, l) = cc e in
    let same_t : u ≡ t = ap (λ x. x.0) front in
    let same_r : q ≡ r = cc e in
    subst (λ x. P (t ∷ operands x)) same_r (subst (λ x. P (x ∷ operands q)) same_t h)

line_along : {t u : Tok} {l k : ℕ} {r q : List Lined} → ◌≡◌ {A = List Lined} ((t, l) ∷ r) ((u, k) ∷ q) → l ≡ k
line_along {t = t} {u = u} {l = l} {k = k} e =
    let front : ◌≡◌ {A = Lined} (t, l) (u, k) = cc e in
    ap (λ x. x.1) front

pub cell_clean : {ts : List Lined} {xs : List Item} {f : Fault} → IsCell ts xs → IsCellFault ts f → ⊥
cell_clean (labels h) (syntax k m) = let p = (labels_only h k).rest in cc p
cell_clean (labels h) (unknown k m) = let p = (labels_only h k).rest in cc p
cell_clean (labels h) (annotation k m) = let p = (labels_only h k).rest in cc p
cell_clean (instruction h s e) (syntax k m) = (along IsMalformed (labels_only h k).rest m).no_instruction _ _ s
cell_clean (instruction h s e) (unknown k m) = spells_known s (along IsUnknown (labels_only h k).rest m)
cell_clean (instruction h s e) (annotation k m) = spells_supported s (along IsUnsupported (labels_only h k).rest m)

-- a cell has one fault
pub fault_only : {ts : List Lined} {f g : Fault} → IsCellFault ts f → IsCellFault ts g → g ≡ f
fault_only (syntax h m) (syntax k n) = refl
fault_only (syntax h m) (unknown k n) = absurd (m.known (along IsUnknown (labels_only h k).rest n))
fault_only (syntax h m) (annotation k n) = absurd (m.supported (along IsUnsupported (labels_only h k).rest n))
fault_only (unknown h m) (syntax k n) = absurd (n.known (along IsUnknown (labels_only k h).rest m))
fault_only (unknown h m) (unknown k n) = ap UnknownInstr (line_along (labels_only k h).rest)
fault_only (unknown h m) (annotation k n) = absurd (known_or_not m (along IsUnsupported (labels_only h k).rest n))
fault_only (annotation h m) (syntax k n) = absurd (n.supported (along IsUnsupported (labels_only k h).rest m))
fault_only (annotation h m) (unknown k n) = absurd (known_or_not n (along IsUnsupported (labels_only k h).rest m))
fault_only (annotation h m) (annotation k n) = ap BadAnnotation (line_along (labels_only k h).rest)

-- ---- what the reader adds to a hart's listing

-- one label more
pub label_more : (cell s : List Token) (taken : ℕ) (added : List Item) (name : List ℕ) (line : ℕ) → s ≡ drop taken cell → Some (name, line) ≡ front_label (views s) → ((xs : List Item) (rest : List Lined) → AreLabels (views (drop taken cell)) xs rest → AreLabels (views cell) (added ++ xs) rest) → (xs : List Item) (rest : List Lined) → AreLabels (views (drop (taken + 2) cell)) xs rest → AreLabels (views cell) ((added ++ Label name line ∷ []) ++ xs) rest
label_more cell s taken added name line at e before xs rest h =
    let found : front_label (views (drop taken cell)) ≡ Some (name, line) = ap (λ l. front_label (views l)) (sym at) ∙ sym e in
    let same : views (drop (taken + 2) cell) ≡ drop 2 (views (drop taken cell)) = sym (drop-map view 2 (drop taken cell) ∙ ap (λ l. views l) (drop-drop 2 taken cell)) in
    subst (λ l. AreLabels (views cell) l rest) (sym (append_assoc added (Label name line ∷ []) xs)) (before (Label name line ∷ xs) rest (label found (subst (λ l. AreLabels l xs rest) same h)))

pub labels_end : (cell s : List Token) (taken : ℕ) (added : List Item) → s ≡ drop taken cell → None ≡ front_label (views s) → ((xs : List Item) (rest : List Lined) → AreLabels (views (drop taken cell)) xs rest → AreLabels (views cell) (added ++ xs) rest) → AreLabels (views cell) added (views (drop taken cell))
labels_end cell s taken added at e before =
    let stop : front_label (views (drop taken cell)) ≡ None = ap (λ l. front_label (views l)) (sym at) ∙ sym e in
    subst (λ l. AreLabels (views cell) l (views (drop taken cell))) (append-nil added) (before [] (views (drop taken cell)) (none stop))

empty_is : {A : Type 0} (xs : List A) → length xs ≡ 0 → xs ≡ []
empty_is [] e = refl
empty_is (x ∷ xs) e = absurd (omega arith)

pub empty_cell : (cell : List Token) (old : List Item) → length cell ≡ 0 → AddsItems (views cell) old old
empty_cell cell old e = record { added = []; is = subst (λ l. IsCell (views l) []) (sym (empty_is cell e)) (labels (none refl)); new_is = sym (append-nil old) }

-- the reading of a cell whose labels end here
pub record AtRest (cell rest : List Token) (old new : List Item) : Type 0 where
  pub added : List Item
  pub are : AreLabels (views cell) added (views rest)
  pub new_is : new ≡ old ++ added

pub at_rest : (cell rest : List Token) (old new : List Item) (taken : ℕ) → rest ≡ drop taken cell → AddsLabels (views cell) old new (views (drop taken cell)) → AtRest cell rest old new
at_rest cell rest old new taken e h = record { added = h.added; are = subst (λ l. AreLabels (views cell) h.added (views l)) (sym e) h.are; new_is = h.new_is }

pub labels_alone : (cell rest : List Token) (old new : List Item) → AtRest cell rest old new → length rest ≡ 0 → AddsItems (views cell) old new
labels_alone cell rest old new h e = record { added = h.added; is = labels (subst (λ l. AreLabels (views cell) h.added (views l)) (empty_is rest e) h.are); new_is = h.new_is }

pub with_instruction : (cell rest : List Token) (old mid new : List Item) (m : Token) (after : List Token) (i : Instr) (target : Option (List ℕ)) → AtRest cell rest old mid → rest ≡ m ∷ after → Spells (kind_of m.kind ∷ operands (views after)) i target → new ≡ mid ++ Instruction i target m.line ∷ [] → AddsItems (views cell) old new
with_instruction cell rest old mid new m after i target h e s n =
    let last : Item = Instruction i target m.line in
    let here : AreLabels (views cell) h.added (views (m ∷ after)) = subst (λ l. AreLabels (views cell) h.added (views l)) e h.are in
    record {
      added = h.added ++ last ∷ [];
      is = instruction here s refl;
      new_is = n ∙ ap (λ l. l ++ last ∷ []) h.new_is ∙ append_assoc old h.added (last ∷ []);
    }

module _ (cell rest : List Token) (old new : List Item) (m : Token) (after : List Token) (h : AtRest cell rest old new) (e : rest ≡ m ∷ after) where
  labels_here : AreLabels (views cell) h.added (views (m ∷ after))
  labels_here = subst (λ l. AreLabels (views cell) h.added (views l)) e h.are

  pub malformed : (f : Token) (more : List Token) → cell ≡ f ∷ more → Answers (kind_of m.kind ∷ operands (views after)) (Err Form) → IsCellFault (views cell) (Syntax f.line)
  malformed f more g a =
      let at : AreLabels (views (f ∷ more)) h.added (views (m ∷ after)) = subst (λ l. AreLabels (views l) h.added (views (m ∷ after))) g labels_here in
      subst (λ l. IsCellFault (views l) (Syntax f.line)) (sym g) (syntax at (record { no_instruction = a.0; known = a.1; supported = a.2 }))

  pub not_known : Answers (kind_of m.kind ∷ operands (views after)) (Err Name) → IsCellFault (views cell) (UnknownInstr m.line)
  not_known a = unknown labels_here a

  pub not_supported : Answers (kind_of m.kind ∷ operands (views after)) (Err Suffix) → IsCellFault (views cell) (BadAnnotation m.line)
  not_supported a = annotation labels_here a

pub room_after : (cell s : List Token) (taken : ℕ) → s ≡ drop taken cell → 2 ≤ length s → taken ≤ length cell → taken + 2 ≤ length cell
room_after cell s taken e h k =
    let left : length s ≡ length cell - taken = ap (λ l. length l) e ∙ length-drop taken cell in
    omega arith
