-- The tokens so far and those of the rest are the tokens of the text; and a text has no others.
use Rattle.std.proofs.Common.{◌≡◌, ℕ, List, [], ◌∷◌, ◌++◌, map, Bool, refl, sym, ap, ◌∙◌, subst, append_assoc, append-nil, length, arith}
use Rattle.std.proofs.lemmas.List.{map-append}
use Rattle.fs_litmus_tokens.specs.declared.token.Token.{Token}
use Rattle.fs_litmus_tokens.specs.Tokens.{Lined, Skip, Take, piece, AreTokens, none, skip, token, unclosed, view}

pub skips : (bs bytes : List ℕ) (b : ℕ) (after rest : List ℕ) (line next : ℕ) (ts : List Lined) (closed : Bool) → bytes ≡ b ∷ after → Skip rest next ≡ piece b after line → AreTokens rest next ts closed → AreTokens bytes line ts closed
skips bs bytes b after rest line next ts closed split e h = subst (λ l. AreTokens l line ts closed) (sym split) (skip (sym e) h)

pub takes : (start : ℕ) (text bytes : List ℕ) (b : ℕ) (after rest : List ℕ) (line : ℕ) (out new : List Token) (x : Token) (ts : List Lined) (closed : Bool) → ((us : List Lined) (d : Bool) → AreTokens bytes line us d → AreTokens text start (map view out ++ us) d) → bytes ≡ b ∷ after → Take (view x).0 rest ≡ piece b after line → x.line ≡ line → new ≡ out ++ x ∷ [] → AreTokens rest line ts closed → AreTokens text start (map view new ++ ts) closed
takes start text bytes b after rest line out new x ts closed before split e at pushed h =
    let one : AreTokens (b ∷ after) line (((view x).0, line) ∷ ts) closed = token (sym e) h in
    let two = subst (λ n. AreTokens (b ∷ after) line (((view x).0, n) ∷ ts) closed) (sym at) one in
    let all = before (view x ∷ ts) closed (subst (λ l. AreTokens l line (view x ∷ ts) closed) (sym split) two) in
    let same : map view out ++ view x ∷ ts ≡ map view new ++ ts =
    sym (append_assoc (map view out) (view x ∷ []) ts) ∙ ap (λ l. l ++ ts) (sym (ap (map view) pushed ∙ map-append view out (x ∷ []))) in
    subst (λ l. AreTokens text start l closed) same all

pub ends : (start : ℕ) (text bytes : List ℕ) (line : ℕ) (out : List Lined) (closed : Bool) → ((us : List Lined) (d : Bool) → AreTokens bytes line us d → AreTokens text start (out ++ us) d) → AreTokens bytes line [] closed → AreTokens text start out closed
ends start text bytes line out closed before h = subst (λ l. AreTokens text start l closed) (append-nil out) (before [] closed h)

pub no_bytes : (bs : List ℕ) → length bs ≡ 0 → [] ≡ bs
no_bytes [] e = refl
no_bytes (b ∷ bs) e = absurd (omega arith)

-- a text has these tokens and no others
pub tokens_only : {bs : List ℕ} {line : ℕ} {ts us : List Lined} {c d : Bool} → AreTokens bs line ts c → AreTokens bs line us d → (ts ≡ us) × (c ≡ d)
tokens_only none none = (refl, refl)
tokens_only {us = us} {d = d} (skip {next = n} {rest = r} e h) (skip {next = m} {rest = q} f k) =
    let same_rest : q ≡ r = cc in
    let same_line : m ≡ n = cc in
    tokens_only h (subst (λ l. AreTokens l n us d) same_rest (subst (λ l. AreTokens q l us d) same_line k))
tokens_only (skip e h) (token f k) = absurd (cc)
tokens_only (skip e h) (unclosed f) = absurd (cc)
tokens_only (token e h) (skip f k) = absurd (cc)
tokens_only {d = d} (token {line = line} {rest = r} {t = t} {ts = vs} e h) (token {rest = q} {t = u} {ts = us} f k) =
    let same_rest : q ≡ r = cc in
    let same_token : t ≡ u = cc in
    let later = tokens_only h (subst (λ l. AreTokens l line us d) same_rest k) in
    (ap (λ x. (x, line) ∷ vs) same_token ∙ ap (λ l. (u, line) ∷ l) later.0, later.1)
tokens_only (token e h) (unclosed f) = absurd (cc)
tokens_only (unclosed e) (skip f k) = absurd (cc)
tokens_only (unclosed e) (token f k) = absurd (cc)
tokens_only (unclosed e) (unclosed f) = (refl, refl)
