-- What stands before and after the tokens of a text, and what its tokens mean, is one thing only.
use Rattle.std.proofs.Common.{◌≡◌, ◌≢◌, ℕ, suc, ◌+◌, ◌-◌, ◌<◌, List, [], ◌∷◌, ◌++◌, Bool, true, false, Option, Some, Result, Ok, Err, refl, sym, ap, ◌∙◌, subst, append_assoc, append-nil, arith}
use Rattle.std.specs.List.{list_all}
use Rattle.fs_litmus_tokens.specs.Bytes.{is_blank}
use Rattle.fs_litmus_tokens.specs.Tokens.{Lined, AreTokens}
use Rattle.fs_litmus_tokens.specs.Sections.{Stops, Scanned, scan}
use Rattle.fs_litmus_tokens.proofs.Reading.{tokens_only}
use Rattle.fs_litmus_syntax.specs.Init as init
use Rattle.fs_litmus_syntax.specs.Init.{Entry, IsInit}
use Rattle.fs_litmus_syntax.specs.Header as header
use Rattle.fs_litmus_syntax.specs.declared.header.Position.TheVariants.{BeforeWord}
use Rattle.fs_litmus_syntax.specs.Header.{IsColumns, last, more, IsHeader}
use Rattle.fs_litmus_syntax.specs.Body.{Body, IsBody}
use Rattle.fs_litmus_syntax.specs.Rows as rows
use Rattle.fs_litmus_syntax.specs.Rows.{Flat}
use Rattle.fs_litmus_syntax.specs.Form.{Form, IsForm, form}
use Rattle.fs_litmus_syntax.proofs.InitReading.{scanned_init}
use Rattle.fs_litmus_syntax.proofs.HeaderResidual.{scanned_header}
use Rattle.fs_litmus_syntax.proofs.RowsResidual.{Left, scanned_left}
use Rattle.fs_litmus_syntax.proofs.RowsReading.{flat_of, rows_again, takes_body}
use Rattle.fs_litmus_syntax.specs.Grammar.{Syntax, IsCondition}
use Rattle.fs_litmus_syntax.specs.Machine as machine
use Rattle.fs_litmus_syntax.proofs.Residual.{tree}
use Rattle.fs_litmus_syntax.proofs.ConditionReading.{Scan, Meets, answers}
use Rattle.fs_litmus.specs.Title as title
use Rattle.fs_litmus.specs.Title.{line_of, after_line, unindented, ends_in_blank, begins_with_blank, top_of, IsTrimmed, HasTitle, here, later}
use Rattle.fs_litmus.specs.Reads.{HasTokens, HasForm}
use Rattle.fs_litmus.proofs.Bools.{both}

-- ---- sections

-- a section that a machine scans is one only
pub scanned_once : {T A : Type 0} (L : List T → A → List T → Type 0) (ts : List T) (r : Result (A × List T) (List T)) (a b : A) (m n : List T) → Scanned L ts r → L ts a m → L ts b n → (a ≡ b) × (m ≡ n)
scanned_once L ts (Ok (x, rest)) a b m n h k l =
    let one = h.only rest a m (subst (λ z. L z a m) h.split k) in
    let two = h.only rest b n (subst (λ z. L z b n) h.split l) in
    (one.0 ∙ sym two.0, one.1 ∙ sym two.1)
scanned_once L ts (Err []) a b m n h k l = absurd (h.dead a m (subst (λ z. L z a m) (h.split ∙ append-nil h.front) k))
scanned_once L ts (Err (t ∷ rest)) a b m n h k l = absurd (h.dead rest a m (subst (λ z. L z a m) h.split k))

pub init_once : (ts : List Lined) (a b : List Entry) (m n : List Lined) → IsInit ts a m → IsInit ts b n → (a ≡ b) × (m ≡ n)
init_once ts a b m n h k = scanned_once IsInit ts (scan init.next init.start ts) a b m n (scanned_init ts) h k

header_once : (ts : List Lined) (a b : ℕ) (m n : List Lined) → IsHeader ts a m → IsHeader ts b n → (a ≡ b) × (m ≡ n)
header_once ts a b m n h k = scanned_once IsHeader ts (scan header.next (BeforeWord 0) ts) a b m n (scanned_header ts) h k

-- a header has a column
some_more : {k n : ℕ} {ts m : List Lined} → IsColumns k ts n m → k < n
some_more (last e) = omega arith
some_more (more e h) = let after = some_more h in omega (arith, after)

pub some_columns : {n : ℕ} {ts m : List Lined} → IsHeader ts n m → 0 < n
some_columns h = some_more h

body_scanned : (k : ℕ) (some : 0 < k) (ts : List Lined) (r : Result (Flat × List Lined) (List Lined)) (a b : Body) (m n : List Lined) → Scanned (Left (k - 1) rows.start) ts r → IsBody k ts a m → IsBody k ts b n → (a ≡ b) × (m ≡ n)
body_scanned k some ts (Ok (x, rest)) a b m n h l o =
    scanned_once (IsBody k) ts (Ok (rows_again (k - 1) x, rest)) a b m n (takes_body k some ts rest x h) l o
body_scanned k some ts (Err rest) a b m n h l o =
    let same : suc (k - 1) ≡ k = omega arith in
    let left : Left (k - 1) rows.start ts (flat_of a) m = record { more = a; is_body = subst (λ j. IsBody j ts a m) (sym same) l; all = refl } in
    absurd (none rest h left)
  where
    none : (rest : List Lined) → Stops (Left (k - 1) rows.start) ts rest → Left (k - 1) rows.start ts (flat_of a) m → ⊥
    none [] s left = s.dead (flat_of a) m (subst (λ z. Left (k - 1) rows.start z (flat_of a) m) (s.split ∙ append-nil s.front) left)
    none (t ∷ rest) s left = s.dead rest (flat_of a) m (subst (λ z. Left (k - 1) rows.start z (flat_of a) m) s.split left)

body_once : (k : ℕ) → 0 < k → (ts : List Lined) (a b : Body) (m n : List Lined) → IsBody k ts a m → IsBody k ts b n → (a ≡ b) × (m ≡ n)
body_once k some ts a b m n h l = body_scanned k some ts (scan (rows.next (k - 1)) rows.start ts) a b m n (scanned_left (k - 1) rows.start ts) h l

-- the parts of a form
record Parts (ts : List Lined) (f : Form) (rest : List Lined) : Type 0 where
  header : List Lined
  body : List Lined
  is_init : IsInit ts f.entries header
  is_header : IsHeader header f.columns body
  is_body : IsBody f.columns body (record { rows = f.rows; quantifier = f.quantifier }) rest

parts : {ts rest : List Lined} {f : Form} → IsForm ts f rest → Parts ts f rest
parts (form {header = header} {body = body} x y z) = record { header = header; body = body; is_init = x; is_header = y; is_body = z }

same_form : (f g : Form) → f.entries ≡ g.entries → f.columns ≡ g.columns → ◌≡◌ {A = Body} (record { rows = f.rows; quantifier = f.quantifier }) (record { rows = g.rows; quantifier = g.quantifier }) → f ≡ g
same_form f g e c b =
    ap (λ es. record f { entries = es }) e
    ∙ ap (λ n. record f { entries = g.entries; columns = n }) c
    ∙ ap (λ (x : Body). record { entries = g.entries; columns = g.columns; rows = x.rows; quantifier = x.quantifier }) b

pub form_once : (ts : List Lined) (f g : Form) (m n : List Lined) → IsForm ts f m → IsForm ts g n → (f ≡ g) × (m ≡ n)
form_once ts f g m n h k =
    let p = parts h in
    let q = parts k in
    let one = init_once ts f.entries g.entries p.header q.header p.is_init q.is_init in
    let head = subst (λ z. IsHeader z g.columns q.body) (sym one.1) q.is_header in
    let two = header_once p.header f.columns g.columns p.body q.body p.is_header head in
    let here = subst (λ z. IsBody f.columns z (record { rows = g.rows; quantifier = g.quantifier }) n) (sym two.1) (subst (λ j. IsBody j q.body (record { rows = g.rows; quantifier = g.quantifier }) n) (sym two.0) q.is_body) in
    let three = body_once f.columns (some_columns p.is_header) p.body (record { rows = f.rows; quantifier = f.quantifier }) (record { rows = g.rows; quantifier = g.quantifier }) m n p.is_body here in
    (same_form f g one.0 two.0 three.0, three.1)

-- ---- conditions

condition_from : (ts : List Lined) (r : Scan) (a b : Syntax) → Meets IsCondition ts r → IsCondition ts a → IsCondition ts b → a ≡ b
condition_from ts (Ok x) a b h k l = sym (h.1 a k) ∙ h.1 b l
condition_from ts (Err []) a b h k l = absurd (h.dead a (subst (λ z. IsCondition z a) (h.split ∙ append-nil h.front) k))
condition_from ts (Err (t ∷ rest)) a b h k l = absurd (h.dead (rest, a, subst (λ z. IsCondition z a) (h.split ∙ sym (append_assoc h.front (t ∷ []) rest)) k))

pub condition_once : (ts : List Lined) (a b : Syntax) → IsCondition ts a → IsCondition ts b → a ≡ b
condition_once ts a b h k = condition_from ts (machine.read tree machine.start [] ts) a b (answers ts) h k

-- ---- what stands before the tokens

pub some_same : {A : Type 0} (o : Option A) (a b : A) → o ≡ Some a → o ≡ Some b → a ≡ b
some_same o a b e f = cc

record SameBody (body other : List ℕ) (at line : ℕ) : Type 0 where
  bytes : body ≡ other
  lines : at ≡ line

text_once : {bs body other : List ℕ} {line at next : ℕ} → title.IsBody bs line body at → title.IsBody bs line other next → SameBody body other at next
text_once (here e) (here f) = record { bytes = refl; lines = refl }
text_once (here e) (later f g k) = absurd (cc)
text_once (later e g h) (here f) = absurd (cc)
text_once {other = other} {next = next} (later {bs = bs} {rest = rest} {line = line} e g h) (later {rest = rest2} f i k) =
    text_once h (subst (λ z. title.IsBody z (line + 1) other next) (some_same (after_line bs) rest2 rest i g) k)

pub tokens_once : (bytes : List ℕ) (ts us : List Lined) (c d : Bool) → HasTokens bytes ts c → HasTokens bytes us d → ts ≡ us
tokens_once bytes ts us c d h k =
    let its = h.has_body in
    let other = k.has_body in
    let doc = some_same (after_line (top_of bytes).0) other.doc its.doc other.after_title its.after_title in
    let same = text_once its.is_body (subst (λ z. title.IsBody z ((top_of bytes).1 + 1) k.body k.line) doc other.is_body) in
    let there = subst (λ z. AreTokens z h.line us d) (sym same.bytes) (subst (λ z. AreTokens k.body z us d) (sym same.lines) k.are_tokens) in
    (tokens_only h.are_tokens there).0

-- ---- the title

same_back : (p q t u : List ℕ) → p ++ t ≡ q ++ u → list_all is_blank p ≡ true → list_all is_blank q ≡ true → begins_with_blank t ≡ false → begins_with_blank u ≡ false → t ≡ u
same_back [] [] t u e a b h k = e
same_back [] (y ∷ q) t u e a b h k =
    let blank = (both (is_blank y) (list_all is_blank q) b).0 in
    absurd (let f = sym h ∙ ap begins_with_blank e ∙ blank in cc)
same_back (x ∷ p) [] t u e a b h k =
    let blank = (both (is_blank x) (list_all is_blank p) a).0 in
    absurd (let f = sym k ∙ ap begins_with_blank (sym e) ∙ blank in cc)
same_back (x ∷ p) (y ∷ q) t u e a b h k =
    let rest : p ++ t ≡ q ++ u = cc in
    same_back p q t u rest (both (is_blank x) (list_all is_blank p) a).1 (both (is_blank y) (list_all is_blank q) b).1 h k

end_later : (x : ℕ) (xs : List ℕ) → ends_in_blank (x ∷ xs) ≡ false → ends_in_blank xs ≡ false
end_later x [] e = refl
end_later x (y ∷ ys) e = e

not_blank : (xs ys : List ℕ) → list_all is_blank (xs ++ ys) ≡ true → ends_in_blank xs ≡ false → xs ≡ []
not_blank [] ys a e = refl
not_blank (x ∷ []) ys a e = absurd (let b = (both (is_blank x) (list_all is_blank ys) a).0 in cc)
not_blank (x ∷ y ∷ xs) ys a e =
    let none = not_blank (y ∷ xs) ys (both (is_blank x) (list_all is_blank ((y ∷ xs) ++ ys)) a).1 e in
    absurd (cc)

same_front : (t u a b : List ℕ) → t ++ a ≡ u ++ b → list_all is_blank a ≡ true → list_all is_blank b ≡ true → ends_in_blank t ≡ false → ends_in_blank u ≡ false → t ≡ u
same_front [] u a b e h k s r = sym (not_blank u b (subst (λ l. list_all is_blank l ≡ true) e h) r)
same_front (x ∷ t) [] a b e h k s r = not_blank (x ∷ t) a (subst (λ l. list_all is_blank l ≡ true) (sym e) k) s
same_front (x ∷ t) (y ∷ u) a b e h k s r =
    let one : x ≡ y = cc in
    let rest : t ++ a ≡ u ++ b = cc in
    cc (one, same_front t u a b rest h k (end_later x t s) (end_later y u r))

begins_still : (t a : List ℕ) → t ≢ [] → begins_with_blank t ≡ false → begins_with_blank (t ++ a) ≡ false
begins_still [] a n h = absurd (n refl)
begins_still (x ∷ t) a n h = h

pub trimmed_once : (line t u : List ℕ) → t ≢ [] → u ≢ [] → IsTrimmed line t → IsTrimmed line u → t ≡ u
trimmed_once line t u n m h k =
    let whole = sym (h.split ∙ append_assoc h.before t h.after) ∙ k.split ∙ append_assoc k.before u k.after in
    let rest = same_back h.before k.before (t ++ h.after) (u ++ k.after) whole h.blank_before k.blank_before (begins_still t h.after n h.first) (begins_still u k.after m k.first) in
    same_front t u h.after k.after rest h.blank_after k.blank_after h.last k.last

pub title_once : (bytes name other : List ℕ) → HasTitle bytes name → HasTitle bytes other → name ≡ other
title_once bytes name other h k =
    let all = sym h.line ∙ k.line in
    let words : k.words ≡ h.words = cc in
    trimmed_once h.words name other h.some k.some h.trimmed (subst (λ l. IsTrimmed l other) words k.trimmed)

-- ---- the form and the condition

pub record SameParts (f g : Form) (s r : Syntax) : Type 0 where
  pub form : f ≡ g
  pub condition : s ≡ r

pub parts_once : (bytes : List ℕ) (f g : Form) (s r : Syntax) → HasForm bytes f s → HasForm bytes g r → SameParts f g s r
parts_once bytes f g s r h k =
    let tokens = tokens_once bytes h.tokens k.tokens true true h.has_tokens k.has_tokens in
    let forms = form_once h.tokens f g h.rest k.rest h.is_form (subst (λ ts. IsForm ts g k.rest) (sym tokens) k.is_form) in
    record { form = forms.0; condition = condition_once h.rest s r h.is_condition (subst (λ ts. IsCondition ts r) (sym forms.1) k.is_condition) }
