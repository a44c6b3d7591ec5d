-- Where a condition has an atom that can't be true or false.
use Rattle.std.proofs.Common.{◌≡◌, ℕ, ◌+◌, ◌-◌, ◌<◌, ◌≤◌, ◌⊎◌, inl, inr, Some, None, List, [], ◌∷◌, ◌++◌, subst, true, false, Bool, refl, sym, ap, ◌∙◌, length, length-drop, take, drop, get_or, arith}
use Rattle.std.specs.Bool.{Decides}
use Rattle.std.proofs.lemmas.List.{length-map, take-map, drop-map, take_more, take_all, map-append}
use Rattle.std.proofs.lemmas.Bool.Decides.{leb_tells}
use Rattle.std.proofs.Math.Nat.{eq-or-lt_of_le}
use Rattle.std.proofs.Math.ListN.{drop_of_length-le}
use Rattle.std.proofs.Math.Logic.{⊎_elim}
use Rattle.fs_litmus_tokens.specs.Words.{is_name}
use Rattle.fs_litmus_tokens.specs.Values.{Target, Register, Location, Value, Number, Address, IsTarget, IsValue, register, location, bracketed, number, minus, address}
use Rattle.fs_litmus_tokens.specs.Tokens.{Tok, Word, Sign, Strange, Lined, kind_of, view, views}
use Rattle.fs_litmus_syntax.specs.Grammar.{IsEqual, once, twice, less_greater, bang_equals}
use Rattle.fs_litmus_tokens.specs.declared.token.Token.{Token}
use Rattle.fs_litmus_tokens.specs.declared.word.Class.{Class}
use Rattle.fs_litmus_tokens.specs.declared.word.Class.TheVariants as class
use Rattle.fs_litmus_tokens.specs.declared.token.Mark.TheVariants.{Colon, OpenBracket, CloseBracket, Minus, Equals, Less, Greater, Bang}
use Rattle.fs_app_error_messages.specs.Atoms.{BeginsBad, BeginsTarget, BeginsValue, IsSign, behind_sign, IsBad, IsBadAfter, opens, ends_open}

register_of_tokens : (h r : List ℕ) (c : Class) (colon name : Tok) (line k m : ℕ) (rest : List Lined) → colon ≡ Sign Colon → name ≡ Word c r → IsTarget ((Word class.Number h, line) ∷ (colon, k) ∷ (name, m) ∷ rest) (Register h r) rest
register_of_tokens h r c colon name line k m rest e f = rw (e, f) register

pub register_taken : (h r : List ℕ) (c : Class) (colon name : Token) (ts more rest : List Token) → ts ≡ colon ∷ more → more ≡ name ∷ rest → kind_of colon.kind ≡ Sign Colon → kind_of name.kind ≡ Word c r → (line : ℕ) → IsTarget ((Word class.Number h, line) ∷ views ts) (Register h r) (views rest)
register_taken h r c colon name ts more rest e f g k line =
    subst (λ l. IsTarget ((Word class.Number h, line) ∷ views l) (Register h r) (views rest)) (sym (e ∙ ap (λ l. colon ∷ l) f)) (register_of_tokens h r c _ _ line colon.line name.line (views rest) g k)

bracketed_of_tokens : (w : List ℕ) (c : Class) (name close : Tok) (line k m : ℕ) (rest : List Lined) → is_name c ≡ true → name ≡ Word c w → close ≡ Sign CloseBracket → IsTarget ((Sign OpenBracket, line) ∷ (name, k) ∷ (close, m) ∷ rest) (Location w) rest
bracketed_of_tokens w c name close line k m rest n e f = rw (e, f) (bracketed n)

pub bracketed_taken : (w : List ℕ) (c : Class) (name close : Token) (ts more rest : List Token) → ts ≡ name ∷ more → more ≡ close ∷ rest → is_name c ≡ true → kind_of name.kind ≡ Word c w → kind_of close.kind ≡ Sign CloseBracket → (line : ℕ) → IsTarget ((Sign OpenBracket, line) ∷ views ts) (Location w) (views rest)
bracketed_taken w c name close ts more rest e f n g k line =
    subst (λ l. IsTarget ((Sign OpenBracket, line) ∷ views l) (Location w) (views rest)) (sym (e ∙ ap (λ l. name ∷ l) f)) (bracketed_of_tokens w c _ _ line name.line close.line (views rest) n g k)

-- a target that begins with this token
pub target_from : (t : Tok) (x : Target) (first : Token) (ts more : List Token) (rest : List Lined) → ts ≡ first ∷ more → kind_of first.kind ≡ t → ((line : ℕ) → IsTarget ((t, line) ∷ views more) x rest) → IsTarget (views ts) x rest
target_from t x first ts more rest e f h =
    subst (λ l. IsTarget (views l) x rest) (sym e) (subst (λ k. IsTarget ((k, first.line) ∷ views more) x rest) (sym f) (h first.line))

pub value_from : (t : Tok) (v : Value) (first : Token) (ts more : List Token) (rest : List Lined) → ts ≡ first ∷ more → kind_of first.kind ≡ t → ((line : ℕ) → IsValue ((t, line) ∷ views more) v rest) → IsValue (views ts) v rest
value_from t v first ts more rest e f h =
    subst (λ l. IsValue (views l) v rest) (sym e) (subst (λ k. IsValue ((k, first.line) ∷ views more) v rest) (sym f) (h first.line))

negative_of_tokens : (w : List ℕ) (t : Tok) (line k : ℕ) (rest : List Lined) → t ≡ Word class.Number w → IsValue ((Sign Minus, line) ∷ (t, k) ∷ rest) (Number true w) rest
negative_of_tokens w t line k rest e = rw e minus

pub negative_taken : (w : List ℕ) (first : Token) (ts more : List Token) → ts ≡ first ∷ more → kind_of first.kind ≡ Word class.Number w → (line : ℕ) → IsValue ((Sign Minus, line) ∷ views ts) (Number true w) (views more)
negative_taken w first ts more e f line =
    subst (λ l. IsValue ((Sign Minus, line) ∷ views l) (Number true w) (views more)) (sym e) (negative_of_tokens w _ line first.line (views more) f)

pub number_taken : (w : List ℕ) (first : Token) (ts more : List Token) → ts ≡ first ∷ more → kind_of first.kind ≡ Word class.Number w → IsValue (views ts) (Number false w) (views more)
number_taken w first ts more e f = value_from (Word class.Number w) (Number false w) first ts more (views more) e f (λ line. number)

pub address_taken : (w : List ℕ) (c : Class) (first : Token) (ts more : List Token) → ts ≡ first ∷ more → kind_of first.kind ≡ Word c w → is_name c ≡ true → IsValue (views ts) (Address w) (views more)
address_taken w c first ts more e f n = value_from (Word c w) (Address w) first ts more (views more) e f (λ line. address n)

pub name_taken : (w : List ℕ) (c : Class) (first : Token) (ts more : List Token) → ts ≡ first ∷ more → kind_of first.kind ≡ Word c w → is_name c ≡ true → IsTarget (views ts) (Location w) (views more)
name_taken w c first ts more e f n = target_from (Word c w) (Location w) first ts more (views more) e f (λ line. location n)

-- ---- where no target and no value begins

pub not_begun : (t : Tok) (first : Token) (ts more : List Token) → ts ≡ first ∷ more → kind_of first.kind ≡ t → ((line : ℕ) → ¬ BeginsTarget ((t, line) ∷ views more)) → ¬ BeginsTarget (views ts)
not_begun t first ts more e f h begun =
    h first.line (subst (λ k. BeginsTarget ((k, first.line) ∷ views more)) f (subst (λ l. BeginsTarget (views l)) e begun))

pub not_valued : (t : Tok) (first : Token) (ts more : List Token) → ts ≡ first ∷ more → kind_of first.kind ≡ t → ((line : ℕ) → ¬ BeginsValue ((t, line) ∷ views more)) → ¬ BeginsValue (views ts)
not_valued t first ts more e f h begun =
    h first.line (subst (λ k. BeginsValue ((k, first.line) ∷ views more)) f (subst (λ l. BeginsValue (views l)) e begun))

-- ---- tokens begin with one target, and one value

target_once : {ts m n : List Lined} {t u : Target} → IsTarget ts t m → IsTarget ts u n → (t ≡ u) × (m ≡ n)
target_once register register = (refl, refl)
target_once register (location e) = absurd (cc)
target_once (location e) register = absurd (cc)
target_once (location e) (location f) = (refl, refl)
target_once (bracketed e) (bracketed f) = (refl, refl)

value_once : {ts m n : List Lined} {v w : Value} → IsValue ts v m → IsValue ts w n → v ≡ w
value_once number number = refl
value_once number (address e) = absurd (cc)
value_once minus minus = refl
value_once (address e) number = absurd (cc)
value_once (address e) (address f) = refl

-- ---- the sign of an atom

sign_found : (ts rest : List Lined) → behind_sign ts ≡ Some rest → IsSign ts rest
sign_found [] rest e = absurd (cc)
sign_found ((Word c w, k) ∷ ts) rest e = absurd (cc)
sign_found ((Strange, k) ∷ ts) rest e = absurd (cc)
sign_found ((Sign Equals, j) ∷ (Sign Equals, k) ∷ ts) rest e = let same : ts ≡ rest = cc in subst (λ m. IsSign ((Sign Equals, j) ∷ (Sign Equals, k) ∷ ts) m) same (inl twice)
sign_found ((Sign Equals, j) ∷ ts) rest e = let same : ts ≡ rest = cc in subst (λ m. IsSign ((Sign Equals, j) ∷ ts) m) same (inl once)
sign_found ((Sign Less, j) ∷ (Sign Greater, k) ∷ ts) rest e = let same : ts ≡ rest = cc in subst (λ m. IsSign ((Sign Less, j) ∷ (Sign Greater, k) ∷ ts) m) same (inr less_greater)
sign_found ((Sign Bang, j) ∷ (Sign Equals, k) ∷ ts) rest e = let same : ts ≡ rest = cc in subst (λ m. IsSign ((Sign Bang, j) ∷ (Sign Equals, k) ∷ ts) m) same (inr bang_equals)
sign_found _ rest e = absurd (cc)

-- where a value follows it, it is the longest
equal_longest : {ts m after : List Lined} {v : Value} → IsEqual ts m → IsValue m v after → behind_sign ts ≡ Some m
equal_longest once number = refl
equal_longest once minus = refl
equal_longest once (address e) = refl
equal_longest twice v = refl

sign_longest : {ts m after : List Lined} {v : Value} → IsSign ts m → IsValue m v after → behind_sign ts ≡ Some m
sign_longest (inl q) v = equal_longest q v
sign_longest (inr less_greater) v = refl
sign_longest (inr bang_equals) v = refl

module _ (columns : ℕ) (ts : List Lined) (t : Target) (rest : List Token) (is_target : IsTarget ts t (views rest)) where
  -- what stands behind the sign of a bad atom
  bad_sign : (b : BeginsBad columns ts) → (t ≡ b.target) × (behind_sign (views rest) ≡ Some b.middle)
  bad_sign b =
      let same = target_once is_target b.is_target in
      (same.0, ap behind_sign same.1 ∙ sign_longest b.is_sign b.is_value)

  pub no_sign : behind_sign (views rest) ≡ None → Decides false (BeginsBad columns ts)
  no_sign none = (λ yes. absurd (cc), λ b. let found = (bad_sign b).1 in cc)

  pub no_value : (more : List Token) → behind_sign (views rest) ≡ Some (views more) → ¬ BeginsValue (views more) → Decides false (BeginsBad columns ts)
  no_value more is none = (
    λ yes. absurd (cc),
    λ b.
        let found = (bad_sign b).1 in
        let same : b.middle ≡ views more = cc in
        absurd (none (b.value, b.after, subst (λ l. IsValue l b.value b.after) same b.is_value)),
  )

  pub begins_decides : (more : List Token) (v : Value) (after : List Lined) (r : Bool) → behind_sign (views rest) ≡ Some (views more) → IsValue (views more) v after → Decides r (IsBad columns t v) → Decides r (BeginsBad columns ts)
  begins_decides more v after r is is_value d = (
    λ yes. record { target = t; value = v; sign = views rest; middle = views more; after = after; is_target = is_target; is_sign = sign_found (views rest) (views more) is; is_value = is_value; is_bad = d.0 yes },
    λ b. let same = bad_sign b in
        let below : b.middle ≡ views more = let s = same.1 in cc in
        let value = value_once is_value (subst (λ l. IsValue l b.value b.after) below b.is_value) in
        d.1 (subst (λ v. IsBad columns t v) (sym value) (subst (λ t. IsBad columns t b.value) (sym same.0) b.is_bad)),
  )

-- ---- a walk over a condition

ends_with : (xs : List Lined) (t : Lined) → ends_open (xs ++ t ∷ []) ≡ opens t.0
ends_with [] t = refl
ends_with (x ∷ []) t = refl
ends_with (x ∷ y ∷ ys) t = ends_with (y ∷ ys) t

pub walked_on : (ts : List Token) (i : ℕ) (d : Token) (r : Bool) → i < length ts → r ≡ opens (kind_of (get_or ts i d).kind) → r ≡ ends_open (take (i + 1) (views ts))
walked_on ts i d r h e =
    let front = take-map view (i + 1) ts ∙ ap views (take_more ts i d h) ∙ map-append view (take i ts) (get_or ts i d ∷ []) in
    e ∙ sym (ap ends_open front ∙ ends_with (views (take i ts)) (view (get_or ts i d)))

lent_end : (ts : List Token) (i : ℕ) → views (take (length ts - i) (drop i ts)) ≡ drop i (views ts)
lent_end ts i =
    let lent : take (length ts - i) (drop i ts) ≡ drop i ts = take_all (length ts - i) (drop i ts) (omega (arith, length-drop i ts)) in
    ap views lent ∙ sym (drop-map view i ts)

pub found_at : (columns : ℕ) (ts : List Token) (i : ℕ) (open_before : Bool) → open_before ≡ ends_open (take i (views ts)) → (open_before ≡ false) × BeginsBad columns (views (take (length ts - i) (drop i ts))) → IsBadAfter columns (views ts) i
found_at columns ts i open_before e h = record { whole = sym e ∙ h.0; begins = subst (BeginsBad columns) (lent_end ts i) h.1 }

abbrev pub NoneBefore : ℕ → List Token → ℕ → Type 0
NoneBefore columns ts i = (j : ℕ) → j < i → ¬ IsBadAfter columns (views ts) j

not_at : (columns : ℕ) (ts : List Token) (i : ℕ) (open_before r : Bool) → open_before ≡ ends_open (take i (views ts)) → Decides r ((open_before ≡ false) × BeginsBad columns (views (take (length ts - i) (drop i ts)))) → r ≡ false → ¬ IsBadAfter columns (views ts) i
not_at columns ts i open_before r e d wrong bad =
    let yes = d.1 (e ∙ bad.whole, subst (BeginsBad columns) (sym (lent_end ts i)) bad.begins) in
    cc

earlier_or_this : (i j : ℕ) → j < i + 1 → (j ≡ i) ⊎ (j < i)
earlier_or_this i j h = eq-or-lt_of_le (omega (arith, h))

pub none_yet : (columns : ℕ) (ts : List Token) (i : ℕ) (open_before r : Bool) → open_before ≡ ends_open (take i (views ts)) → Decides r ((open_before ≡ false) × BeginsBad columns (views (take (length ts - i) (drop i ts)))) → r ≡ false → NoneBefore columns ts i → NoneBefore columns ts (i + 1)
none_yet columns ts i open_before r e d wrong before j h bad =
    ⊎_elim (λ same. not_at columns ts i open_before r e d wrong (subst (IsBadAfter columns (views ts)) same bad)) (λ low. before j low bad) (earlier_or_this i j h)

no_target : {t : Target} {m : List Lined} → IsTarget [] t m → ⊥
no_target h = elim h [ ]

none_past : (columns : ℕ) (ts : List Lined) (j : ℕ) → length ts ≤ j → ¬ IsBadAfter columns ts j
none_past columns ts j h bad =
    no_target (subst (λ l. IsTarget l bad.begins.target bad.begins.sign) (drop_of_length-le ts h) bad.begins.is_target)

pub none_at_all : (columns : ℕ) (ts : List Token) (i : ℕ) → length ts ≤ i → NoneBefore columns ts i → (j : ℕ) → ¬ IsBadAfter columns (views ts) j
none_at_all columns ts i all before j bad =
    ⊎_elim (λ past. none_past columns (views ts) j past.1 bad) (λ low. before j (omega (arith, low.1, all, length-map ts view)) bad) (leb_tells (length (views ts)) j)
