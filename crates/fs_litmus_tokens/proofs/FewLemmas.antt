-- One more token.
use Rattle.std.proofs.Common.{◌≡◌, ℕ, ◌+◌, ◌<◌, ◌≤◌, List, [], ◌∷◌, ◌++◌, length, map, take, refl, sym, ap, ◌∙◌, subst, arith, ◌⊎◌, inl, inr}
use Rattle.std.proofs.lemmas.Grind.{common_steps}
use Rattle.std.proofs.Math.ListN.{set}
use Rattle.std.proofs.Math.Seq.{take-suc-set}
use Rattle.std.proofs.lemmas.List.{take-set, take_all, take-append-le, length-set, map-append}
use Rattle.std.proofs.Common.{length-append, append_assoc, suc, Bool, true, false, ◌&&◌, ltb, ltb-true}
use Rattle.std.proofs.Math.Bool.{and-true}
use Rattle.std.proofs.lemmas.List.Folds.{list_all-append}
use Rattle.std.proofs.lemmas.Bool.Decides.{nat_tests}
use Rattle.fs_litmus_tokens.specs.Tokens.{Take, piece, token, AreTokens, without_lines}
use Rattle.fs_litmus_tokens.specs.Tokens.{Lined, view}
use Rattle.fs_litmus_tokens.specs.declared.token.Token.{Token}
use Rattle.fs_litmus_tokens.specs.Few.{AreFirst, is_plain, are_plain}

pub none_first : (xs : List Token) → length xs ≡ 20 → AreFirst xs 0 []
none_first xs h = record { count = refl; room = h; kept = grind (arith, common_steps) }

kept_low : (xs : List Token) (n : ℕ) (t : Token) (seen : List Lined) → n < 20 → length seen ≡ n → length xs ≡ 20 → map view (take n xs) ≡ take 20 seen → map view (take (n + 1) (set xs n t)) ≡ take 20 (seen ++ view t ∷ [])
kept_low xs n t seen low count room kept =
    let next : n + 1 ≡ suc n = omega arith in
    let below : n < length xs = omega arith in
    let front = ap (λ k. take k (set xs n t)) next ∙ take-suc-set xs n t below in
    let whole = take_all 20 seen (omega arith) in
    let longer : length (seen ++ view t ∷ []) ≤ 20 = simp length-append (omega arith) in
    ap (map view) front ∙ map-append view (take n xs) (t ∷ []) ∙ ap (λ l. l ++ view t ∷ []) (kept ∙ whole) ∙ sym (take_all 20 (seen ++ view t ∷ []) longer)

kept_high : (xs : List Token) (n : ℕ) (t : Token) (seen : List Lined) → 20 ≤ n → length seen ≡ n → length xs ≡ 20 → map view (take n xs) ≡ take 20 seen → map view (take (n + 1) (set xs n t)) ≡ take 20 (seen ++ view t ∷ [])
kept_high xs n t seen high count room kept =
    let same : length (set xs n t) ≡ 20 = length-set xs n t ∙ room in
    let one = take_all (n + 1) (set xs n t) (omega arith) in
    let two = take_all n (set xs n t) (omega arith) in
    let front = one ∙ sym two ∙ take-set xs n t in
    ap (map view) front ∙ kept ∙ sym (take-append-le 20 seen (view t ∷ []) (omega arith))

kept_next : (xs : List Token) (n : ℕ) (t : Token) (seen : List Lined) → (n < 20) ⊎ (20 ≤ n) → AreFirst xs n seen → map view (take (n + 1) (set xs n t)) ≡ take 20 (seen ++ view t ∷ [])
kept_next xs n t seen (inl low) h = kept_low xs n t seen low h.count h.room h.kept
kept_next xs n t seen (inr high) h = kept_high xs n t seen high h.count h.room h.kept

pub next_first : (xs ys : List Token) (n : ℕ) (t : Token) (seen : List Lined) → (n < 20) ⊎ (20 ≤ n) → ys ≡ set xs n t → AreFirst xs n seen → AreFirst ys (n + 1) (seen ++ view t ∷ [])
next_first xs ys n t seen side e h =
    let count : length (seen ++ view t ∷ []) ≡ n + 1 = simp length-append (omega (arith, h.count)) in
    let all : AreFirst (set xs n t) (n + 1) (seen ++ view t ∷ []) = record { count = count; room = length-set xs n t ∙ h.room; kept = kept_next xs n t seen side h } in
    subst (λ l. AreFirst l (n + 1) (seen ++ view t ∷ [])) (sym e) all

side : (n : ℕ) (b : Bool) → ltb n 20 ≡ b → (n < 20) ⊎ (20 ≤ n)
side n true e = inl (ltb-true n 20 e)
side n false e = let h : 20 ≤ n = grind (arith, nat_tests) in inr h

pub sides : (n : ℕ) → (n < 20) ⊎ (20 ≤ n)
sides n = side n (ltb n 20) refl

pub next_plain : (before after : Bool) (seen : List Lined) (x : Lined) → before ≡ are_plain (without_lines seen) → after ≡ is_plain x.0 → (before && after) ≡ are_plain (without_lines (seen ++ x ∷ []))
next_plain before after seen x h k =
    let split = ap are_plain (map-append (λ (t : Lined). t.0) seen (x ∷ [])) ∙ list_all-append is_plain (without_lines seen) (x.0 ∷ []) in
    let one = ap (λ b. are_plain (without_lines seen) && b) (and-true (is_plain x.0)) in
    ap (λ b. b && after) h ∙ ap (λ b. are_plain (without_lines seen) && b) k ∙ sym (split ∙ one)

-- a token with what comes after it
pub more_takes : (text bytes : List ℕ) (b : ℕ) (after rest : List ℕ) (line : ℕ) (seen : List Lined) (x : Token) (ts : List Lined) (closed : Bool) → ((us : List Lined) (d : Bool) → AreTokens bytes line us d → AreTokens text 0 (seen ++ us) d) → bytes ≡ b ∷ after → Take (view x).0 rest ≡ piece b after line → x.line ≡ line → AreTokens rest line ts closed → AreTokens text 0 ((seen ++ view x ∷ []) ++ ts) closed
more_takes text bytes b after rest line seen x ts closed before split e at h =
    let one : AreTokens (b ∷ after) line (((view x).0, line) ∷ ts) closed = token (sym e) h in
    let two = subst (λ n. AreTokens (b ∷ after) line (((view x).0, n) ∷ ts) closed) (sym at) one in
    let all = before (view x ∷ ts) closed (subst (λ l. AreTokens l line (view x ∷ ts) closed) (sym split) two) in
    subst (λ l. AreTokens text 0 l closed) (sym (append_assoc seen (view x ∷ []) ts)) all
