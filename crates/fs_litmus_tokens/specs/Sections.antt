-- Sections of a text: L ts a rest says that the tokens ts are a section that means a, and then rest.
use Rattle.std.specs.Prelude.{◌≡◌, List, [], ◌∷◌, ◌++◌, Result, Ok, Err}

-- what one more token does: the state after it, the end of the section, or that it can't stand there
pub data Move (S A : Type 0) : Type 0 where
  Go : S → Move S A
  Finish : A → Move S A
  Bad : Move S A

abbrev pub moved : {T S A : Type 0} → Move S A → (S → Result (A × List T) (List T)) → T → List T → Result (A × List T) (List T)
moved (Go s) go t ts = go s
moved (Finish a) go t ts = Ok (a, ts)
moved Bad go t ts = Err (t ∷ ts)

-- the section's meaning and the tokens after it, or the tokens from the first bad one on
abbrev pub scan : {T S A : Type 0} → (S → T → Move S A) → S → List T → Result (A × List T) (List T)
scan step s [] = Err []
scan step s (t ∷ ts) = moved (step s t) (λ s'. scan step s' ts) t ts

-- The tokens begin with a section that means a, whatever stands in rest's place, and with no other.
pub record Takes {T A : Type 0} (L : List T → A → List T → Type 0) (ts : List T) (a : A) (rest : List T) : Type 0 where
  pub front : List T
  pub split : ts ≡ front ++ rest
  pub is : (q : List T) → L (front ++ q) a q
  pub only : (q : List T) (b : A) (m : List T) → L (front ++ q) b m → (b ≡ a) × (m ≡ q)

-- No section begins with the front and the next token; at the end, the front is too short.
abbrev pub IsDead : {T A : Type 0} → (List T → A → List T → Type 0) → List T → List T → Type 0
IsDead {T} {A} L front [] = (a : A) (m : List T) → L front a m → ⊥
IsDead {T} {A} L front (t ∷ rest) = (more : List T) (a : A) (m : List T) → L (front ++ t ∷ more) a m → ⊥

-- Some section begins with the front, whatever follows it.
abbrev pub IsAlive : {T A : Type 0} → (List T → A → List T → Type 0) → List T → Type 0
IsAlive {T} {A} L front = (more : List T) × (a : A) × ((q : List T) → L (front ++ (more ++ q)) a q)

-- The first bad token is the first of rest; where rest is empty the tokens end too soon.
pub record Stops {T A : Type 0} (L : List T → A → List T → Type 0) (ts rest : List T) : Type 0 where
  pub front : List T
  pub split : ts ≡ front ++ rest
  pub alive : IsAlive L front
  pub dead : IsDead L front rest

abbrev pub Scanned : {T A : Type 0} → (List T → A → List T → Type 0) → List T → Result (A × List T) (List T) → Type 0
Scanned L ts (Ok (a, rest)) = Takes L ts a rest
Scanned L ts (Err rest) = Stops L ts rest

-- ---- whole texts: K ts b says that the tokens are a text that means b

-- a section, and then a text whose form its meaning may decide
abbrev pub Then : {T A B : Type 0} → (List T → A → List T → Type 0) → (A → List T → B → Type 0) → List T → B → Type 0
Then {T = T} {A = A} L K ts b = (a : A) × (mid : List T) × L ts a mid × K a mid b

-- the tokens begin a text
abbrev pub BeginsText : {T B : Type 0} → (List T → B → Type 0) → List T → Type 0
BeginsText {T = T} {B = B} K ts = (more : List T) × (b : B) × K (ts ++ more) b

abbrev pub IsDeadText : {T B : Type 0} → (List T → B → Type 0) → List T → List T → Type 0
IsDeadText {T = T} {B = B} K front [] = (b : B) → K front b → ⊥
IsDeadText K front (t ∷ rest) = BeginsText K (front ++ t ∷ []) → ⊥

-- The first token of rest is the first with which the tokens so far begin no text; where rest is empty the text ends
-- too soon.
pub record StopsText {T B : Type 0} (K : List T → B → Type 0) (ts rest : List T) : Type 0 where
  pub front : List T
  pub split : ts ≡ front ++ rest
  pub begins : BeginsText K front
  pub dead : IsDeadText K front rest
