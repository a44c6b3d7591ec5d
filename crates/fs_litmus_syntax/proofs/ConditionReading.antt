-- Reading from the start meets the grammar.
use Rattle.std.proofs.Common.{◌≡◌, List, [], ◌∷◌, ◌++◌, Option, Some, None, Result, Ok, Err, refl, ap}
use Rattle.fs_litmus_tokens.specs.Tokens.{Lined}
use Rattle.fs_litmus_tokens.specs.Values.{Target, Value}
use Rattle.fs_litmus_tokens.specs.Sections.{StopsText}
use Rattle.fs_litmus_syntax.specs.Grammar.{Syntax, IsCondition}
use Rattle.fs_litmus_syntax.specs.Machine.{State, atoms_at, next, end_of, ended, went, read, start}
use Rattle.fs_litmus_syntax.proofs.Residual.{tree, Left, LeftOf, start_forward, start_backward, forward, backward, end_forward, end_backward, live}

-- what reading the syntax gives: it, with its atoms, or the tokens from the first bad one on
abbrev pub Scan : Type 0
Scan = Result (Syntax × List (Target × Value)) (List Lined)

-- Ok: the tokens mean c and nothing else; Err: they stop there.
abbrev pub Meets : (List Lined → Syntax → Type 0) → List Lined → Scan → Type 0
Meets L ts (Ok x) = L ts x.0 × ((d : Syntax) → L ts d → x.0 ≡ d)
Meets L ts (Err rest) = StopsText L ts rest

meets_later : (L M : List Lined → Syntax → Type 0) (x : Lined) (ts : List Lined) (r : Scan) → ((us : List Lined) (c : Syntax) → L (x ∷ us) c → M us c) → ((us : List Lined) (c : Syntax) → M us c → L (x ∷ us) c) → Meets M ts r → Meets L (x ∷ ts) r
meets_later L M x ts (Ok r) to from h = (from ts r.0 h.0, λ d l. h.1 d (to ts d l))
meets_later L M x ts (Err []) to from h =
    record { front = x ∷ h.front; split = ap (λ l. x ∷ l) h.split; begins = (h.begins.0, h.begins.1, from _ _ h.begins.2); dead = λ c l. h.dead c (to _ c l) }
meets_later L M x ts (Err (u ∷ us)) to from h =
    record { front = x ∷ h.front; split = ap (λ l. x ∷ l) h.split; begins = (h.begins.0, h.begins.1, from _ _ h.begins.2); dead = λ b. h.dead (b.0, b.1, to _ _ b.2) }

meets_end : (s : State Syntax) (found : List (Target × Value)) (o : Option Syntax) → end_of tree s ≡ o → Meets (Left s) [] (ended tree o found)
meets_end s found (Some c) e = (
  end_backward s.place s.frame s.below c e,
  λ d l. let e2 = end_forward s.place s.frame s.below d l in cc,
)
meets_end s found None e = record {
  front = [];
  split = refl;
  begins = live s.place s.frame s.below;
  dead = λ c l. let e2 = end_forward s.place s.frame s.below c l in cc;
}

meets_went : (s : State Syntax) (x : Lined) (ts : List Lined) (o : Option (State Syntax)) (go : State Syntax → Scan) → ((us : List Lined) (c : Syntax) → Left s (x ∷ us) c → LeftOf o us c) → ((us : List Lined) (c : Syntax) → LeftOf o us c → Left s (x ∷ us) c) → ((s' : State Syntax) → Meets (Left s') ts (go s')) → Meets (Left s) (x ∷ ts) (went tree o go (x ∷ ts))
meets_went s x ts (Some s') go to from later = meets_later (Left s) (Left s') x ts (go s') to from (later s')
meets_went s x ts None go to from later = record {
  front = [];
  split = refl;
  begins = live s.place s.frame s.below;
  dead = λ b. to _ _ b.2;
}

meets : (s : State Syntax) (found : List (Target × Value)) (ts : List Lined) → Meets (Left s) ts (read tree s found ts)
meets s found [] = meets_end s found _ refl
meets s found (x ∷ ts) =
    meets_went s x ts (next tree s x.0) (λ s'. read tree s' (found ++ atoms_at s.place x.0) ts) (λ us c. forward s.place s.frame s.below x us c) (λ us c. backward s.place s.frame s.below x.0 x.1 us c) (λ s'. meets s' (found ++ atoms_at s.place x.0) ts)

meets_same : (L M : List Lined → Syntax → Type 0) (ts : List Lined) (r : Scan) → ((us : List Lined) (c : Syntax) → L us c → M us c) → ((us : List Lined) (c : Syntax) → M us c → L us c) → Meets M ts r → Meets L ts r
meets_same L M ts (Ok r) to from h = (from ts r.0 h.0, λ d l. h.1 d (to ts d l))
meets_same L M ts (Err []) to from h =
    record { front = h.front; split = h.split; begins = (h.begins.0, h.begins.1, from _ _ h.begins.2); dead = λ c l. h.dead c (to _ c l) }
meets_same L M ts (Err (u ∷ us)) to from h =
    record { front = h.front; split = h.split; begins = (h.begins.0, h.begins.1, from _ _ h.begins.2); dead = λ b. h.dead (b.0, b.1, to _ _ b.2) }

pub answers : (ts : List Lined) → Meets IsCondition ts (read tree start [] ts)
answers ts = meets_same IsCondition (Left start) ts (read tree start [] ts) start_forward start_backward (meets start [] ts)
