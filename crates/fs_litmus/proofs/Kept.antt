-- Codes that are kept whole.
use Rattle.std.proofs.Common.{◌≡◌, ℕ, ◌≤◌, ◌+◌, ◌<◌, ◌⊎◌, inl, inr, List, [], ◌∷◌, ◌++◌, Bool, true, false, ◌&&◌, refl, sym, ap, ◌∙◌, length, map, take, get_or, zero, suc, arith}
use Rattle.std.specs.Prelude.{All}
use Rattle.std.specs.List.{Any, list_all}
use Rattle.std.proofs.lemmas.List.{take_more, map-append}
use Rattle.fs_instr.specs.declared.instr.Instr.{Instr}
use Rattle.fs_litmus_syntax.specs.declared.hart.HartCode.{HartCode}
use Rattle.fs_litmus_syntax.specs.declared.hart.HartCode.TheVariants.{Short, Long}
use Rattle.fs_litmus_syntax.specs.Codes.{AreKept, IsKept}
use Rattle.fs_litmus.specs.inner.Kept.{instrs_of, is_short}

both : (a b : Bool) → (a && b) ≡ true → (a ≡ true) × (b ≡ true)
both true b e = (refl, e)
both false b e = absurd (cc)

and_true : (a b : Bool) → a ≡ true → b ≡ true → (a && b) ≡ true
and_true a b h e = rw h e

all-push : (xs : List HartCode) (x : HartCode) → list_all is_short xs ≡ true → is_short x ≡ true → list_all is_short (xs ++ x ∷ []) ≡ true
all-push [] x h e = rw e refl
all-push (y ∷ ys) x h e =
    let s = both (is_short y) (list_all is_short ys) h in
    and_true (is_short y) (list_all is_short (ys ++ x ∷ [])) s.0 (all-push ys x s.1 e)

pub short_more : (xs : List HartCode) (i : ℕ) (d : HartCode) → i < length xs → list_all is_short (take i xs) ≡ true → is_short (get_or xs i d) ≡ true → list_all is_short (take (i + 1) xs) ≡ true
short_more xs i d within h e = rw (take_more xs i d within) (all-push (take i xs) (get_or xs i d) h e)

pub codes_more : (xs : List HartCode) (i : ℕ) (d : HartCode) (codes new : List (List Instr)) (c : List Instr) → i < length xs → new ≡ codes ++ c ∷ [] → codes ≡ map instrs_of (take i xs) → c ≡ instrs_of (get_or xs i d) → new ≡ map instrs_of (take (i + 1) xs)
codes_more xs i d codes new c within pushed before same =
    pushed ∙ ap (λ l. l ++ c ∷ []) before ∙ ap (λ x. map instrs_of (take i xs) ++ x ∷ []) same ∙ sym (ap (map instrs_of) (take_more xs i d within) ∙ map-append instrs_of (take i xs) (get_or xs i d ∷ []))

one_kept : (code : List Instr) (k : HartCode) → IsKept code k → is_short k ≡ true → (instrs_of k ≡ code) × (length code ≤ 32)
one_kept code (Short kept) h e = (h.1, h.0)
one_kept code (Long n) h e = absurd (cc)

pub kept_same : (codes : List (List Instr)) (kept : List HartCode) → AreKept codes kept → list_all is_short kept ≡ true → map instrs_of kept ≡ codes
kept_same [] [] h e = refl
kept_same (c ∷ cs) (k ∷ ks) h e =
    let s = both (is_short k) (list_all is_short ks) e in
    let one = one_kept c k h.0 s.0 in
    let rest = kept_same cs ks h.1 s.1 in
    ap (λ x. x ∷ map instrs_of ks) one.0 ∙ ap (λ l. c ∷ l) rest
kept_same [] (k ∷ ks) h e = absurd h
kept_same (c ∷ cs) [] h e = absurd h

all_cons : (c : List Instr) (cs : List (List Instr)) → length c ≤ 32 → All (λ code. length code ≤ 32) cs → All (λ code. length code ≤ 32) (c ∷ cs)
all_cons c cs h t zero d lt = h
all_cons c cs h t (suc k) d lt = let lower : k < length cs = omega arith in t k d lower

pub kept_within : (codes : List (List Instr)) (kept : List HartCode) → AreKept codes kept → list_all is_short kept ≡ true → All (λ code. length code ≤ 32) codes
kept_within [] [] h e = λ k d lt. absurd (omega arith)
kept_within (c ∷ cs) (k ∷ ks) h e =
    let s = both (is_short k) (list_all is_short ks) e in
    all_cons c cs (one_kept c k h.0 s.0).1 (kept_within cs ks h.1 s.1)
kept_within [] (k ∷ ks) h e = absurd h
kept_within (c ∷ cs) [] h e = absurd h

-- ---- codes that are too long

either_false : (a b : Bool) → (a && b) ≡ false → (a ≡ false) ⊎ (b ≡ false)
either_false true b e = inr e
either_false false b e = inl refl

one_long : (code : List Instr) (k : HartCode) → IsKept code k → is_short k ≡ false → 32 < length code
one_long code (Short kept) h e = absurd (cc)
one_long code (Long n) h e = h.0

any_later : (c : List Instr) (cs : List (List Instr)) → Any (λ code. 32 < length code) cs → Any (λ code. 32 < length code) (c ∷ cs)
any_later c cs (k, x, within, is, long) = (suc k, x, omega arith, is, long)

pub kept_long : (codes : List (List Instr)) (kept : List HartCode) → AreKept codes kept → list_all is_short kept ≡ false → Any (λ code. 32 < length code) codes
kept_long [] [] h e = absurd (cc)
kept_long (c ∷ cs) (k ∷ ks) h e =
    elim (either_false (is_short k) (list_all is_short ks) e) [
      | inl long ↦ (0, c, omega arith, refl, one_long c k h.0 long)
      | inr later ↦ any_later c cs (kept_long cs ks h.1 later)
    ]
kept_long [] (k ∷ ks) h e = absurd h
kept_long (c ∷ cs) [] h e = absurd h

-- no code is short and too long
pub none_long : (codes : List (List Instr)) → All (λ code. length code ≤ 32) codes → Any (λ code. 32 < length code) codes → ⊥
none_long codes short long =
    let at = short long.0 long.1 long.2 in
    let same = ap length long.3 in
    let more = long.4 in
    omega arith
