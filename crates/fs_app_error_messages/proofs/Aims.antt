-- What a fault is pointed at by, and its line.
use Rattle.std.proofs.Common.{◌≡◌, ◌≢◌, ℕ, ◌+◌, ◌≤◌, ◌<◌, ◌⊎◌, inl, inr, List, Bool, true, false, Option, Some, None, ◌&&◌, nat_le, if◌then◌else◌, refl, sym, ap, ◌∙◌, subst, arith}
use Rattle.std.specs.Str.{IsUtf8}
use Rattle.fs_kinds.specs.FaultLine.{number}
use Rattle.fs_kinds.specs.FaultOrder.{rank_of}
use Rattle.fs_kinds.specs.declared.fault.Fault.{Fault}
use Rattle.fs_kinds.specs.declared.fault.Fault.TheVariants.{BadUtf8, NotRiscv, Syntax, UnknownInstr, BadAnnotation, BadLabel, BadInit, BadCondition, TooBig, BadPrices, NoTop, BadFence, TooManyTraces, Astray, TooManyCandidates, NodeLimit, BadWitness, BadCertificate, Memory, ReadFault, WriteFault, Unmatched, StrangePass, BothWidths, WideWord}
use Rattle.fs_litmus_tokens.specs.Tokens.{Lined}
use Rattle.fs_litmus.specs.Reads.{HasTokens}
use Rattle.fs_litmus.specs.Title.{HasBody}
use Rattle.fs_litmus.specs.Faults.{HasFault, IsTestFault}
use Rattle.fs_litmus.proofs.FrontFaults.{tokens_once}
use Rattle.fs_app_error_messages.specs.Apart.{apart}
use Rattle.fs_app_error_messages.proofs.Fine.{no_condition_fault, form_of_fault}
use Rattle.fs_app_error_messages.specs.Atoms.{HasNoBadAtom, IsBadAtomOf}
use Rattle.fs_app_error_messages.specs.Points.{aim_of, line_of, IsFaultIn, IsFaultOf, IsNowhere, IsPoint, encoding, title, token, atom, finish}
use Rattle.fs_app_error_messages.specs.declared.point.Aim.TheVariants.{Title, InLine, Nowhere}
use Rattle.fs_app_error_messages.specs.declared.point.Point.{Point}

-- ---- the number of a fault says whether it has a line

abbrev lined_by : ℕ → ℕ → Option ℕ
lined_by n rank = if nat_le 3 n && nat_le n 7 then Some rank else None

line_by_number : (f : Fault) → line_of f ≡ lined_by (number f) (rank_of f)
line_by_number BadUtf8 = refl
line_by_number NotRiscv = refl
line_by_number (Syntax line) = refl
line_by_number (UnknownInstr line) = refl
line_by_number (BadAnnotation line) = refl
line_by_number (BadLabel line) = refl
line_by_number (BadInit line) = refl
line_by_number BadCondition = refl
line_by_number (TooBig what) = refl
line_by_number BadPrices = refl
line_by_number NoTop = refl
line_by_number BadFence = refl
line_by_number TooManyTraces = refl
line_by_number (Astray hart at) = refl
line_by_number TooManyCandidates = refl
line_by_number NodeLimit = refl
line_by_number BadWitness = refl
line_by_number BadCertificate = refl
line_by_number Memory = refl
line_by_number ReadFault = refl
line_by_number WriteFault = refl
line_by_number Unmatched = refl
line_by_number StrangePass = refl
line_by_number (BothWidths line) = refl
line_by_number (WideWord hart at) = refl

same_place : (m n r s : ℕ) → (m < n) ⊎ ((m ≡ n) × (r ≤ s)) → (n < m) ⊎ ((n ≡ m) × (s ≤ r)) → (m ≡ n) × (r ≡ s)
same_place m n r s (inl h) (inl k) = absurd (omega (arith, h, k))
same_place m n r s (inl h) (inr k) = absurd (omega (arith, h, k.0))
same_place m n r s (inr h) (inl k) = absurd (omega (arith, h.0, k))
same_place m n r s (inr h) (inr k) = (h.0, omega (arith, h.1, k.1))

-- two first faults have the same number and the same line
first_same : (file : List ℕ) (f g : Fault) → IsTestFault file f → IsTestFault file g → (number f ≡ number g) × (line_of f ≡ line_of g)
first_same file f g h k =
    let same = same_place (number f) (number g) (rank_of f) (rank_of g) (h.first g k.is) (k.first f h.is) in
    (same.0, line_by_number f ∙ ap (λ n. lined_by n (rank_of f)) same.0 ∙ ap (lined_by (number g)) same.1 ∙ sym (line_by_number g))

-- ---- the file whose tokens stand apart

pub no_fault_in : (file : List ℕ) (f : Fault) (n : ℕ) → ((g : Fault) → ¬ HasFault file g) → ¬ IsFaultIn file f n
no_fault_in file f n clean h = clean h.found h.is_fault.is

pub other_fault_in : (file : List ℕ) (found f : Fault) (n : ℕ) → IsTestFault file found → (number found ≡ number f → (m : ℕ) → line_of found ≢ Some (m + 2)) → ¬ IsFaultIn file f n
other_fault_in file found f n is absent h =
    let same = first_same file found h.found is h.is_fault in
    absent (same.0 ∙ h.same_number) n (same.1 ∙ h.in_line)

-- only F2 is pointed at by the title's line
pub titled : (f : Fault) → aim_of f ≡ Title → f ≡ NotRiscv
titled NotRiscv e = refl
titled BadUtf8 e = absurd (cc)
titled (Syntax line) e = absurd (cc)
titled (UnknownInstr line) e = absurd (cc)
titled (BadAnnotation line) e = absurd (cc)
titled (BadLabel line) e = absurd (cc)
titled (BadInit line) e = absurd (cc)
titled BadCondition e = absurd (cc)
titled (TooBig what) e = absurd (cc)
titled BadPrices e = absurd (cc)
titled NoTop e = absurd (cc)
titled BadFence e = absurd (cc)
titled TooManyTraces e = absurd (cc)
titled (Astray hart at) e = absurd (cc)
titled TooManyCandidates e = absurd (cc)
titled NodeLimit e = absurd (cc)
titled BadWitness e = absurd (cc)
titled BadCertificate e = absurd (cc)
titled Memory e = absurd (cc)
titled ReadFault e = absurd (cc)
titled WriteFault e = absurd (cc)
titled Unmatched e = absurd (cc)
titled StrangePass e = absurd (cc)
titled (BothWidths line) e = absurd (cc)
titled (WideWord hart at) e = absurd (cc)

-- ---- where there is no place

in_line_only : (bytes : List ℕ) (f : Fault) → aim_of f ≡ InLine → ((n : ℕ) → ¬ IsFaultOf bytes f n) → (p : Point) → ¬ IsPoint bytes f p
in_line_only bytes f e none p (encoding a b) = absurd (cc)
in_line_only bytes f e none p title = absurd (cc)
in_line_only bytes f e none p (token {n = n} of at) = none n of
in_line_only bytes f e none p (atom of at) = absurd (cc)
in_line_only bytes f e none p (finish {n = n} of past) = none n of

pub no_place_in_line : (bytes : List ℕ) (f : Fault) → aim_of f ≡ InLine → ((n : ℕ) → ¬ IsFaultOf bytes f n) → IsNowhere bytes f
no_place_in_line bytes f e none = record { no_point = in_line_only bytes f e none; encoding = λ same. absurd (cc); condition = λ same. absurd (cc) }

of_atom_only : (bytes : List ℕ) → ((n : ℕ) → ¬ IsBadAtomOf bytes n) → (p : Point) → ¬ IsPoint bytes BadCondition p
of_atom_only bytes none p (token of at) = let wrong = of.has_line in absurd (cc)
of_atom_only bytes none p (atom {n = n} of at) = none n of
of_atom_only bytes none p (finish of past) = let wrong = of.has_line in absurd (cc)

pub no_place_of_atom : (bytes : List ℕ) → ((n : ℕ) → ¬ IsBadAtomOf bytes n) → ¬ HasFault bytes BadCondition → IsNowhere bytes BadCondition
no_place_of_atom bytes none clean = record { no_point = of_atom_only bytes none; encoding = λ same. absurd (cc); condition = λ same. clean }

nowhere_else : (bytes : List ℕ) (f : Fault) → aim_of f ≡ Nowhere → (p : Point) → ¬ IsPoint bytes f p
nowhere_else bytes f e p (encoding a b) = absurd (cc)
nowhere_else bytes f e p title = absurd (cc)
nowhere_else bytes f e p (token of at) = let wrong = of.has_line in absurd (cc)
nowhere_else bytes f e p (atom of at) = absurd (cc)
nowhere_else bytes f e p (finish of past) = let wrong = of.has_line in absurd (cc)

pub nowhere : (bytes : List ℕ) (f : Fault) → aim_of f ≡ Nowhere → IsNowhere bytes f
nowhere bytes f e = record { no_point = nowhere_else bytes f e; encoding = λ same. absurd (cc); condition = λ same. absurd (cc) }

encoded_only : (bytes : List ℕ) → IsUtf8 bytes → (p : Point) → ¬ IsPoint bytes BadUtf8 p
encoded_only bytes utf8 p (encoding a b) = a utf8
encoded_only bytes utf8 p (token of at) = let wrong = of.has_line in absurd (cc)
encoded_only bytes utf8 p (finish of past) = let wrong = of.has_line in absurd (cc)

pub encoded : (bytes : List ℕ) → IsUtf8 bytes → IsNowhere bytes BadUtf8
encoded bytes utf8 = record { no_point = encoded_only bytes utf8; encoding = λ same. utf8; condition = λ same. absurd (cc) }

-- ---- the tokens of a file are these and no others

pub fault_of_these : (bytes : List ℕ) (ts : List Lined) (closed : Bool) (f : Fault) (n : ℕ) → HasTokens bytes ts closed → ¬ IsFaultIn (apart ts closed) f n → ¬ IsFaultOf bytes f n
fault_of_these bytes ts closed f n h none of =
    let same = tokens_once bytes of.tokens ts of.closed closed of.has_tokens h in
    none (subst (λ b. IsFaultIn (apart ts b) f n) same.1 (subst (λ l. IsFaultIn (apart l of.closed) f n) same.0 of.is_fault))

pub atom_of_these : (bytes : List ℕ) (ts : List Lined) (closed : Bool) → HasTokens bytes ts closed → HasNoBadAtom ts → IsNowhere bytes BadCondition
atom_of_these bytes ts closed h none =
    no_place_of_atom bytes
    (λ n of. let bad = of.is_bad_atom in
    let same = tokens_once bytes of.tokens ts true closed of.has_tokens h in
    subst HasNoBadAtom (sym same.0) none bad.form bad.syntax_of bad.rest bad.is_form bad.is_condition bad.before bad.is_bad)
    (no_condition_fault bytes ts closed h none)

open_form : (bytes : List ℕ) (ts : List Lined) → HasTokens bytes ts false → (us : List Lined) → ¬ HasTokens bytes us true
open_form bytes ts h us k =
    let same : true ≡ false = (tokens_once bytes us ts true false k h).1 in
    absurd (cc)

pub open_atom : (bytes : List ℕ) (ts : List Lined) → HasTokens bytes ts false → IsNowhere bytes BadCondition
open_atom bytes ts h =
    no_place_of_atom bytes (λ n of. open_form bytes ts h of.tokens of.has_tokens)
    (λ fault. let has = form_of_fault fault in open_form bytes ts h has.2.tokens has.2.has_tokens)

-- no tokens where no block of initial values begins
pub no_tokens : (bytes : List ℕ) (ts : List Lined) (closed : Bool) → ((body : List ℕ) (line : ℕ) → ¬ HasBody bytes body line) → ¬ HasTokens bytes ts closed
no_tokens bytes ts closed none h = none h.body h.line h.has_body

pub fault_nowhere : (bytes : List ℕ) (f : Fault) (n : ℕ) → ((body : List ℕ) (line : ℕ) → ¬ HasBody bytes body line) → ¬ IsFaultOf bytes f n
fault_nowhere bytes f n none of = no_tokens bytes of.tokens of.closed none of.has_tokens

pub atom_nowhere : (bytes : List ℕ) → ((body : List ℕ) (line : ℕ) → ¬ HasBody bytes body line) → IsNowhere bytes BadCondition
atom_nowhere bytes none =
    no_place_of_atom bytes (λ n of. no_tokens bytes of.tokens true none of.has_tokens)
    (λ fault. let has = form_of_fault fault in no_tokens bytes has.2.tokens true none has.2.has_tokens)
