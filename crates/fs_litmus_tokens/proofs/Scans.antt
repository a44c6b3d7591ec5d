-- A machine that follows the residual languages scans the language.
use Rattle.std.proofs.Common.{◌≡◌, List, [], ◌∷◌, Result, Ok, Err, refl, ap}
use Rattle.fs_litmus_tokens.specs.Sections.{Move, Go, Finish, Bad, moved, scan, IsAlive, Scanned}

-- what the tokens after one more must be: of the next state, nothing, or no matter
abbrev pub Follows : {T S A : Type 0} → (S → List T → A → List T → Type 0) → (List T → A → List T → Type 0) → Move S A → Type 0
Follows {T = T} {A = A} L M (Go s) = ((ts : List T) (a : A) (m : List T) → M ts a m → L s ts a m) × ((ts : List T) (a : A) (m : List T) → L s ts a m → M ts a m)
Follows {T = T} {A = A} L M (Finish a) = ((ts : List T) (b : A) (m : List T) → M ts b m → (b ≡ a) × (m ≡ ts)) × ((ts : List T) → M ts a ts)
Follows {T = T} {A = A} L M Bad = (ts : List T) (a : A) (m : List T) → M ts a m → ⊥

scanned_later : {T A : Type 0} (L M : List T → A → List T → Type 0) (t : T) (ts : List T) (r : Result (A × List T) (List T)) → ((us : List T) (a : A) (m : List T) → M (t ∷ us) a m → L us a m) → ((us : List T) (a : A) (m : List T) → L us a m → M (t ∷ us) a m) → Scanned L ts r → Scanned M (t ∷ ts) r
scanned_later L M t ts (Ok (a, rest)) to from h =
    record { front = t ∷ h.front; split = ap (λ l. t ∷ l) h.split; is = λ q. from _ a q (h.is q); only = λ q b m l. h.only q b m (to _ b m l) }
scanned_later L M t ts (Err []) to from h =
    record { front = t ∷ h.front; split = ap (λ l. t ∷ l) h.split; alive = (h.alive.0, h.alive.1, λ q. from _ _ q (h.alive.2 q)); dead = λ a m l. h.dead a m (to _ a m l) }
scanned_later L M t ts (Err (u ∷ us)) to from h =
    record { front = t ∷ h.front; split = ap (λ l. t ∷ l) h.split; alive = (h.alive.0, h.alive.1, λ q. from _ _ q (h.alive.2 q)); dead = λ more a m l. h.dead more a m (to _ a m l) }

scanned_move : {T S A : Type 0} (step : S → T → Move S A) (L : S → List T → A → List T → Type 0) (s : S) (t : T) (ts : List T) (move : Move S A) → IsAlive (L s) [] → Follows L (λ us. L s (t ∷ us)) move → ((s' : S) → Scanned (L s') ts (scan step s' ts)) → Scanned (L s) (t ∷ ts) (moved move (λ s'. scan step s' ts) t ts)
scanned_move step L s t ts (Go s') alive f later = scanned_later (L s') (L s) t ts _ f.0 f.1 (later s')
scanned_move step L s t ts (Finish a) alive f later =
    record { front = t ∷ []; split = refl; is = f.1; only = f.0 }
scanned_move step L s t ts Bad alive f later =
    record { front = []; split = refl; alive = alive; dead = f }

pub scanned : {T S A : Type 0} (step : S → T → Move S A) (L : S → List T → A → List T → Type 0) → ((s : S) (t : T) → Follows L (λ us. L s (t ∷ us)) (step s t)) → ((s : S) → IsAlive (L s) []) → ((s : S) (a : A) (m : List T) → L s [] a m → ⊥) → (s : S) (ts : List T) → Scanned (L s) ts (scan step s ts)
scanned step L follows alive ends s [] =
    record { front = []; split = refl; alive = alive s; dead = ends s }
scanned step L follows alive ends s (t ∷ ts) =
    scanned_move step L s t ts (step s t) (alive s) (follows s t) (λ s'. scanned step L follows alive ends s' ts)
