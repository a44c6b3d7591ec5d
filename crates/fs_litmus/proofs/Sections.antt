-- The sections and the condition of a text, read one after the other.
use Rattle.std.proofs.Common.{◌≡◌, ◌≢◌, ℕ, ◌≤◌, List, [], ◌∷◌, Bool, true, false, sym, ap, subst, append-nil, arith, IsUtf8, Result, Ok, Err, IfOk, IfErr}
use Rattle.fs_kinds.specs.FaultLine.{number}
use Rattle.fs_kinds.specs.declared.fault.Fault.{Fault}
use Rattle.fs_kinds.specs.declared.fault.Fault.TheVariants as fault
use Rattle.fs_litmus_tokens.specs.Tokens.{Lined, Word, AreTokens, views}
use Rattle.fs_litmus_tokens.specs.Sections.{Takes, BeginsText}
use Rattle.fs_litmus_tokens.specs.declared.token.Token.{Token}
use Rattle.fs_litmus_tokens.specs.declared.word.Class.TheVariants as class
use Rattle.fs_litmus_tokens.specs.declared.values.Stop.{Stop}
use Rattle.fs_litmus_tokens.specs.declared.values.Stop.TheVariants.{Memory, At}
use Rattle.fs_litmus_tokens.proofs.Sequences.{stops_first, stops_later}
use Rattle.fs_litmus_syntax.specs.Form.{Form, IsForm}
use Rattle.fs_litmus_syntax.specs.Reading.{Refuses}
use Rattle.fs_litmus_syntax.specs.Grammar.{Syntax, nothing, IsCondition, complete, True, disjunction, conjunction, unit, truth}
use Rattle.fs_litmus_syntax.specs.Answer.{Means, StopsAt}
use Rattle.fs_litmus_syntax.specs.declared.condition.Condition as conditions
use Rattle.fs_model.specs.declared.test.Test.{Test}
use Rattle.fs_kinds.specs.FaultOrder.{IsFirst}
use Rattle.fs_litmus.specs.Title.{last_line, HasTitle, HasBody}
use Rattle.fs_litmus.specs.Reads.{HasTokens, HasForm}
use Rattle.fs_litmus.specs.Faults.{IsText, IsBroken, line_at, token, comment, IsFormFault, HasFault}
use Rattle.fs_litmus.specs.inner.Sections.{AreSections, IsTextStop, fault_of}
use Rattle.fs_litmus.proofs.FrontFaults.{tokens_once, first_broken, first_meaning, no_fault}

-- some condition stands after each form
condition_begins : (f : Form) → BeginsText IsCondition []
condition_begins f = ((Word class.TrueWord [], 0) ∷ [], True, complete (disjunction (conjunction (unit truth))) nothing)

-- the sections stop
pub form_stops : (ts : List Token) (e : Stop) → Refuses IsForm ts e → IsTextStop (views ts) e
form_stops ts Memory h = tt
form_stops ts (At rest) h = stops_first IsForm (λ f. IsCondition) (views ts) (views rest.now) condition_begins h.stops

-- the condition stops
pub condition_stops : (ts mid : List Lined) (f : Form) (e : Stop) → Takes IsForm ts f mid → StopsAt mid e → IsTextStop ts e
condition_stops ts mid f Memory h k = tt
condition_stops ts mid f (At rest) h k = stops_later IsForm (λ g. IsCondition) ts mid (views rest.now) f h k

only_sections : (ts mid m : List Lined) (f g : Form) (c : conditions.Condition) (s : Syntax) → Takes IsForm ts f mid → ((r : Syntax) → IsCondition mid r → Means c r) → IsForm ts g m → IsCondition m s → (g ≡ f) × Means c s
only_sections ts mid m f g c s h k i j =
    let same = h.only mid g m (subst (λ l. IsForm l g m) h.split i) in
    (same.0, k s (subst (λ l. IsCondition l s) same.1 j))

-- both are read
pub sections : (ts mid : List Lined) (f : Form) (c : conditions.Condition) → Takes IsForm ts f mid → (s : Syntax) × IsCondition mid s × Means c s → ((r : Syntax) → IsCondition mid r → Means c r) → AreSections ts f c
sections ts mid f c h x k =
    record {
      rest = mid;
      is_form = subst (λ l. IsForm l f mid) (sym h.split) (h.is mid);
      syntax_of = x.0;
      is_condition = x.1;
      means = x.2;
      only = λ g m s. only_sections ts mid m f g c s h k;
    }

-- ---- the faults of what stops

no_memory : (P : Type 0) (f : Fault) → f ≡ fault.Memory → f ≢ fault.Memory → P
no_memory P f e n = absurd (n e)

pub stop_low : (e : Stop) (last : ℕ) (f : Fault) → f ≡ fault_of e last → f ≢ fault.Memory → number f ≤ 9
stop_low Memory last f e n = no_memory (number f ≤ 9) f e n
stop_low (At rest) last f e n = let three = ap number e in omega (arith, three)

pub stop_first : (bytes name : List ℕ) (ts : List Lined) (closed : Bool) (e : Stop) (f : Fault) → IsUtf8 bytes → HasTitle bytes name → HasTokens bytes ts closed → IsTextStop ts e → f ≡ fault_of e (last_line bytes) → f ≢ fault.Memory → IsFirst (HasFault bytes) f
stop_first bytes name ts closed Memory f u t h s e n = no_memory (IsFirst (HasFault bytes) f) f e n
stop_first bytes name ts closed (At rest) f u t h s e n =
    subst (λ g. IsFirst (HasFault bytes) g) (sym e) (first_broken bytes name (line_at (views rest.now) (last_line bytes)) u t (token h s))

pub open_first : (bytes name : List ℕ) (ts : List Lined) (f : Form) (c : conditions.Condition) → IsUtf8 bytes → HasTitle bytes name → HasTokens bytes ts false → AreSections ts f c → IsFirst (HasFault bytes) (fault.Syntax (last_line bytes))
open_first bytes name ts f c u t h s =
    let whole : IsText ts s.syntax_of = (f, s.rest, s.is_form, s.is_condition) in
    first_broken bytes name (last_line bytes) u t (comment h ([], s.syntax_of, subst (λ l. IsText l s.syntax_of) (sym (append-nil ts)) whole))

-- ---- a text that isn't of the form

pub stop_broken : (bytes : List ℕ) (ts : List Lined) (closed : Bool) (e : Stop) (f : Fault) → HasTokens bytes ts closed → IsTextStop ts e
    → f ≡ fault_of e (last_line bytes) → f ≢ fault.Memory → (line : ℕ) × IsBroken bytes line
stop_broken bytes ts closed Memory f h s e n = no_memory ((line : ℕ) × IsBroken bytes line) f e n
stop_broken bytes ts closed (At rest) f h s e n = (line_at (views rest.now) (last_line bytes), token h s)

pub open_broken : (bytes : List ℕ) (ts : List Lined) (f : Form) (c : conditions.Condition) → HasTokens bytes ts false → AreSections ts f c
    → (line : ℕ) × IsBroken bytes line
open_broken bytes ts f c h s =
    let whole : IsText ts s.syntax_of = (f, s.rest, s.is_form, s.is_condition) in
    (last_line bytes, comment h ([], s.syntax_of, subst (λ l. IsText l s.syntax_of) (sym (append-nil ts)) whole))

-- ---- a text that has been read

pub has_form : (bytes : List ℕ) (ts : List Lined) (f : Form) (c : conditions.Condition) → HasTokens bytes ts true → (s : AreSections ts f c) → HasForm bytes f s.syntax_of
has_form bytes ts f c h s = record { tokens = ts; has_tokens = h; rest = s.rest; is_form = s.is_form; is_condition = s.is_condition }

-- it has no other form, and the condition stands for each of its syntaxes
one_form : (bytes : List ℕ) (ts : List Lined) (f g : Form) (c : conditions.Condition) (r : Syntax) → HasTokens bytes ts true → AreSections ts f c → HasForm bytes g r → (g ≡ f) × Means c r
one_form bytes ts f g c r h s k =
    let same = tokens_once bytes k.tokens ts true true k.has_tokens h in
    s.only g k.rest r (subst (λ l. IsForm l g k.rest) same.0 k.is_form) k.is_condition

pub meaning_first : (bytes name : List ℕ) (ts : List Lined) (f : Form) (c : conditions.Condition) (e : Fault) → IsUtf8 bytes → HasTitle bytes name → HasTokens bytes ts true → AreSections ts f c → ((r : Syntax) → Means c r → IsFirst (IsFormFault f r) e) → IsFirst (HasFault bytes) e
meaning_first bytes name ts f c e u t h s k =
    first_meaning bytes name f s.syntax_of e u t (has_form bytes ts f c h s) (λ g r i. let same = one_form bytes ts f g c r h s i in subst (λ x. IsFirst (IsFormFault x r) e) (sym same.0) (k r same.1))

pub meaning_clean : (bytes name : List ℕ) (ts : List Lined) (f : Form) (c : conditions.Condition) (e : Fault) → IsUtf8 bytes → HasTitle bytes name → HasTokens bytes ts true → AreSections ts f c → ((r : Syntax) → Means c r → ¬ IsFormFault f r e) → ¬ HasFault bytes e
meaning_clean bytes name ts f c e u t h s k =
    no_fault bytes name f s.syntax_of e u t (has_form bytes ts f c h s) (λ g r i. let same = one_form bytes ts f g c r h s i in subst (λ x. ¬ IsFormFault x r e) (sym same.0) (k r same.1))

-- ---- what is known where the reader of a test answers

pub titled : (bytes content name : List ℕ) → content ≡ bytes → HasTitle content name → HasTitle bytes name
titled bytes content name e h = subst (λ b. HasTitle b name) e h

pub tokens_there : (bytes text : List ℕ) (line : ℕ) (items lent : List Token) (closed : Bool) → HasBody bytes text line → lent ≡ items → AreTokens text line (views items) closed → HasTokens bytes (views lent) closed
tokens_there bytes text line items lent closed b e h =
    record { body = text; line = line; has_body = b; are_tokens = subst (λ ts. AreTokens text line (views ts) closed) (sym e) h }

pub test_first : (bytes name : List ℕ) (ts : List Lined) (f : Form) (c : conditions.Condition) (r : Result Test Fault) → IsUtf8 bytes → HasTitle bytes name → HasTokens bytes ts true → AreSections ts f c → IfErr r (λ e. e ≢ fault.Memory → (s : Syntax) → Means c s → IsFirst (IsFormFault f s) e) → IfErr r (λ e. e ≢ fault.Memory → IsFirst (HasFault bytes) e)
test_first bytes name ts f c (Ok t) u h k s first = tt
test_first bytes name ts f c (Err e) u h k s first = λ known. meaning_first bytes name ts f c e u h k s (first known)

pub test_clean : (bytes name : List ℕ) (ts : List Lined) (f : Form) (c : conditions.Condition) (r : Result Test Fault) → IsUtf8 bytes → HasTitle bytes name → HasTokens bytes ts true → AreSections ts f c → IfOk r (λ t. (s : Syntax) → Means c s → (e : Fault) → ¬ IsFormFault f s e) → IfOk r (λ t. (e : Fault) → ¬ HasFault bytes e)
test_clean bytes name ts f c (Ok t) u h k s clean = λ e. meaning_clean bytes name ts f c e u h k s (λ r m. clean r m e)
test_clean bytes name ts f c (Err e) u h k s clean = tt
