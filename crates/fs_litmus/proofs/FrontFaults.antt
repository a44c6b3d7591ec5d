-- The faults of a text before its meaning: of its encoding, its title and its form. Each comes before those that
-- its form may have.
use Rattle.std.proofs.Common.{◌≡◌, inl, inr, ℕ, ◌+◌, ◌≤◌, List, Bool, true, false, Some, refl, sym, ap, subst, arith, IsUtf8}
use Rattle.fs_kinds.specs.FaultLine.{number}
use Rattle.fs_kinds.specs.declared.fault.Fault.{Fault}
use Rattle.fs_kinds.specs.declared.fault.Fault.TheVariants.{BadUtf8, NotRiscv, Syntax}
use Rattle.fs_litmus_tokens.specs.Tokens.{Lined, AreTokens}
use Rattle.fs_litmus_tokens.specs.Sections.{BeginsText, StopsText}
use Rattle.fs_litmus_tokens.proofs.Reading.{tokens_only}
use Rattle.fs_litmus_syntax.specs.Form.{Form}
use Rattle.fs_litmus_syntax.specs.Grammar as grammar
use Rattle.fs_litmus_syntax.specs.Grammar.{IsCondition}
use Rattle.fs_litmus_syntax.specs.Cells.{Item, IsCellFault, syntax, unknown, annotation, AreFaulty, here as first_cell, later as later_cell}
use Rattle.fs_litmus_syntax.specs.Labels.{IsTwice, again, later as later_twice, IsStray, missing, behind, IsLabelFault, twice, stray}
use Rattle.fs_litmus_syntax.specs.Codes.{IsHartFault, of_cell, of_label, IsFault, fault}
use Rattle.fs_kinds.specs.FaultOrder.{IsNoLater, IsFirst}
use Rattle.fs_litmus.specs.Title.{after_line, last_line, top_of, HasTitle, IsBody, HasBody}
use Rattle.fs_litmus.specs.Reads.{HasTokens, HasForm}
use Rattle.fs_litmus.specs.Faults.{IsText, line_at, IsBroken, no_block, token, comment, IsFormFault, code, entry, atom, limit, HasFault, encoding, title, form, meaning}
use Rattle.fs_litmus.proofs.CodeFaults.{code_low}
use Rattle.fs_litmus.proofs.Bodies.{body_once}
use Rattle.fs_litmus.proofs.TextStops.{stops_once, stops_at_end, whole_never_stops}

-- ---- a text has one body, one list of tokens and one form

pub same_body : (bytes body its : List ℕ) (line at : ℕ) → HasBody bytes body line → HasBody bytes its at → (body ≡ its) × (line ≡ at)
same_body bytes body its line at h k =
    let below = h.after_title in
    let other : after_line (top_of bytes).0 ≡ Some k.doc = k.after_title in
    let same : k.doc ≡ h.doc = cc in
    body_once h.is_body (subst (λ d. IsBody d ((top_of bytes).1 + 1) its at) same k.is_body)

pub tokens_once : (bytes : List ℕ) (ts us : List Lined) (c d : Bool) → HasTokens bytes ts c → HasTokens bytes us d → (ts ≡ us) × (c ≡ d)
tokens_once bytes ts us c d h k =
    let same = same_body bytes h.body k.body h.line k.line h.has_body k.has_body in
    tokens_only h.are_tokens (subst (λ b. AreTokens b h.line us d) (sym same.0) (subst (λ n. AreTokens k.body n us d) (sym same.1) k.are_tokens))

text_of : (bytes : List ℕ) (f : Form) (s : grammar.Syntax) (h : HasForm bytes f s) → IsText h.tokens s
text_of bytes f s h = (f, h.rest, h.is_form, h.is_condition)

-- ---- one line breaks the form

stop_line : (bytes : List ℕ) (ts us rest other : List Lined) (c d : Bool) → HasTokens bytes ts c → HasTokens bytes us d → StopsText IsText ts rest → StopsText IsText us other → line_at rest (last_line bytes) ≡ line_at other (last_line bytes)
stop_line bytes ts us rest other c d h k s t =
    let same = tokens_once bytes ts us c d h k in
    ap (λ r. line_at r (last_line bytes)) (stops_once IsText ts rest other s (subst (λ l. StopsText IsText l other) (sym same.0) t))

stop_last : (bytes : List ℕ) (ts us rest : List Lined) (c d : Bool) → HasTokens bytes ts c → HasTokens bytes us d → StopsText IsText ts rest → BeginsText IsText us → line_at rest (last_line bytes) ≡ last_line bytes
stop_last bytes ts us rest c d h k s b =
    let same = tokens_once bytes ts us c d h k in
    ap (λ r. line_at r (last_line bytes)) (stops_at_end IsText ts rest (subst (λ l. BeginsText IsText l) (sym same.0) b) s)

no_tokens : (bytes : List ℕ) (ts : List Lined) (c : Bool) → ((body : List ℕ) (line : ℕ) → ¬ HasBody bytes body line) → HasTokens bytes ts c → ⊥
no_tokens bytes ts c none h = none h.body h.line h.has_body

broken_once : (bytes : List ℕ) (m n : ℕ) → IsBroken bytes m → IsBroken bytes n → m ≡ n
broken_once bytes m n (no_block x) (no_block y) = refl
broken_once bytes m n (no_block x) (token {tokens = ts} {closed = c} h s) = absurd (no_tokens bytes ts c x h)
broken_once bytes m n (no_block x) (comment {tokens = ts} h b) = absurd (no_tokens bytes ts false x h)
broken_once bytes m n (token {tokens = ts} {closed = c} h s) (no_block x) = absurd (no_tokens bytes ts c x h)
broken_once bytes m n (comment {tokens = ts} h b) (no_block x) = absurd (no_tokens bytes ts false x h)
broken_once bytes m n (token {tokens = ts} {rest = r} {closed = c} h s) (token {tokens = us} {rest = q} {closed = d} k t) = stop_line bytes ts us r q c d h k s t
broken_once bytes m n (token {tokens = ts} {rest = r} {closed = c} h s) (comment {tokens = us} k b) = stop_last bytes ts us r c false h k s b
broken_once bytes m n (comment {tokens = us} k b) (token {tokens = ts} {rest = r} {closed = c} h s) = sym (stop_last bytes ts us r c false h k s b)
broken_once bytes m n (comment h b) (comment k c) = refl

-- a text that has a form isn't broken
pub unbroken : (bytes : List ℕ) (f : Form) (s : grammar.Syntax) (n : ℕ) → HasForm bytes f s → IsBroken bytes n → ⊥
unbroken bytes f s n h (no_block x) = no_tokens bytes h.tokens true x h.has_tokens
unbroken bytes f s n h (token {tokens = ts} {rest = r} {closed = c} k t) =
    let same = tokens_once bytes ts h.tokens c true k h.has_tokens in
    whole_never_stops IsText ts r s (subst (λ l. IsText l s) (sym same.0) (text_of bytes f s h)) t
unbroken bytes f s n h (comment {tokens = ts} k b) =
    let same = tokens_once bytes ts h.tokens false true k h.has_tokens in
    let wrong : false ≡ true = same.1 in
    cc

-- ---- the faults of a form have numbers from 3 on

cell_high : {ts : List Lined} {f : Fault} → IsCellFault ts f → 3 ≤ number f
cell_high (syntax a m) = omega arith
cell_high (unknown a m) = omega arith
cell_high (annotation a m) = omega arith

faulty_high : {cs : List (List Lined)} {f : Fault} → AreFaulty cs f → 3 ≤ number f
faulty_high (first_cell h) = cell_high h
faulty_high (later_cell h) = faulty_high h

twice_high : {xs : List Item} {f : Fault} → IsTwice xs f → 3 ≤ number f
twice_high (again h) = omega arith
twice_high (later_twice h) = twice_high h

stray_high : {hart xs : List Item} {f : Fault} → IsStray hart xs f → 3 ≤ number f
stray_high (missing b n) = omega arith
stray_high (behind b s l) = omega arith

label_high : {hart : List Item} {f : Fault} → IsLabelFault hart f → 3 ≤ number f
label_high (twice h) = twice_high h
label_high (stray h) = stray_high h

hart_high : {cs : List (List Lined)} {f : Fault} → IsHartFault cs f → 3 ≤ number f
hart_high (of_cell h) = faulty_high h
hart_high (of_label a h) = label_high h

code_high : {columns : ℕ} {cells : List (List Lined)} {f : Fault} → IsFault columns cells f → 3 ≤ number f
code_high (fault n h) = hart_high h

form_high : {form : Form} {s : grammar.Syntax} {f : Fault} → IsFormFault form s f → 3 ≤ number f
form_high (code h) = code_high h
form_high (entry h) = omega arith
form_high (atom h) = omega arith
form_high (limit h) = omega arith

-- ---- the first fault

-- of a text that isn't UTF-8
after_encoding : (bytes : List ℕ) (g : Fault) → HasFault bytes g → IsNoLater BadUtf8 g
after_encoding bytes g (encoding x) = inr (refl, omega arith)
after_encoding bytes g (title x) = inl (omega arith)
after_encoding bytes g (form x) = inl (omega arith)
after_encoding bytes g (meaning h x) = let high = form_high x in inl (omega (arith, high))

pub first_encoding : (bytes : List ℕ) → ¬ IsUtf8 bytes → IsFirst (HasFault bytes) BadUtf8
first_encoding bytes h = record { is = encoding h; first = after_encoding bytes }

-- of a text without a title
after_title_line : (bytes : List ℕ) (g : Fault) → IsUtf8 bytes → HasFault bytes g → IsNoLater NotRiscv g
after_title_line bytes g u (encoding x) = absurd (x u)
after_title_line bytes g u (title x) = inr (refl, omega arith)
after_title_line bytes g u (form x) = inl (omega arith)
after_title_line bytes g u (meaning h x) = let high = form_high x in inl (omega (arith, high))

pub first_title : (bytes : List ℕ) → IsUtf8 bytes → ((name : List ℕ) → ¬ HasTitle bytes name) → IsFirst (HasFault bytes) NotRiscv
first_title bytes u h = record { is = title h; first = λ g. after_title_line bytes g u }

-- of a text that isn't of the form
after_broken : (bytes name : List ℕ) (line : ℕ) (g : Fault) → IsUtf8 bytes → HasTitle bytes name → IsBroken bytes line → HasFault bytes g → IsNoLater (Syntax line) g
after_broken bytes name line g u t b (encoding x) = absurd (x u)
after_broken bytes name line g u t b (title x) = absurd (x name t)
after_broken bytes name line g u t b (form {line = m} x) = let same = broken_once bytes line m b x in inr (refl, omega (arith, same))
after_broken bytes name line g u t b (meaning {form = f} {s = s} h x) = absurd (unbroken bytes f s line h b)

pub first_broken : (bytes name : List ℕ) (line : ℕ) → IsUtf8 bytes → HasTitle bytes name → IsBroken bytes line → IsFirst (HasFault bytes) (Syntax line)
first_broken bytes name line u t b = record { is = form b; first = λ g. after_broken bytes name line g u t b }

-- ---- the faults of a text that has a form are those of its form

of_meaning : (bytes name : List ℕ) (f : Form) (s : grammar.Syntax) (g : Fault) (P : Type 0) → IsUtf8 bytes → HasTitle bytes name → HasForm bytes f s → ((e : Form) (r : grammar.Syntax) → HasForm bytes e r → IsFormFault e r g → P) → HasFault bytes g → P
of_meaning bytes name f s g P u t h k (encoding x) = absurd (x u)
of_meaning bytes name f s g P u t h k (title x) = absurd (x name t)
of_meaning bytes name f s g P u t h k (form {line = n} x) = absurd (unbroken bytes f s n h x)
of_meaning bytes name f s g P u t h k (meaning {form = e} {s = r} i x) = k e r i x

-- the first fault of the form is that of the text
pub first_meaning : (bytes name : List ℕ) (f : Form) (s : grammar.Syntax) (e : Fault) → IsUtf8 bytes → HasTitle bytes name → HasForm bytes f s → ((g : Form) (r : grammar.Syntax) → HasForm bytes g r → IsFirst (IsFormFault g r) e) → IsFirst (HasFault bytes) e
first_meaning bytes name f s e u t h k =
    record { is = meaning h (k f s h).is; first = λ g. of_meaning bytes name f s g (IsNoLater e g) u t h (λ x r i j. (k x r i).first g j) }

-- a text whose form has no fault has none
pub no_fault : (bytes name : List ℕ) (f : Form) (s : grammar.Syntax) (e : Fault) → IsUtf8 bytes → HasTitle bytes name → HasForm bytes f s → ((g : Form) (r : grammar.Syntax) → HasForm bytes g r → ¬ IsFormFault g r e) → ¬ HasFault bytes e
no_fault bytes name f s e u t h k = of_meaning bytes name f s e ⊥ u t h k

-- ---- the faults of a test file have numbers up to 9

form_low : {form : Form} {s : grammar.Syntax} {f : Fault} → IsFormFault form s f → number f ≤ 9
form_low (code h) = let low = code_low h in omega (arith, low)
form_low (entry h) = omega arith
form_low (atom h) = omega arith
form_low (limit h) = omega arith

pub fault_low : {bytes : List ℕ} {f : Fault} → HasFault bytes f → number f ≤ 9
fault_low (encoding x) = omega arith
fault_low (title x) = omega arith
fault_low (form x) = omega arith
fault_low (meaning h x) = form_low x
