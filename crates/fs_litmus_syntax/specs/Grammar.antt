-- Conditions as they are written (herd7's format of litmus tests).
-- L ts s rest says that the tokens ts are an L with the syntax s, and then rest.
use Rattle.std.specs.Prelude.{ℕ, List, [], ◌∷◌}
use Rattle.fs_litmus_tokens.specs.Tokens.{Lined, Word, Sign}
use Rattle.fs_litmus_tokens.specs.Values.{Target, Value, IsTarget, IsValue}
use Rattle.fs_litmus_tokens.specs.declared.word.Class.TheVariants.{NotWord, TrueWord, FalseWord}
use Rattle.fs_litmus_tokens.specs.declared.token.Mark.TheVariants.{Equals, Less, Greater, Bang, Tilde, OpenParen, CloseParen, And, Or, Semicolon}

-- a condition as it is written; a group stands in parentheses
pub data Syntax : Type 0 where
  Atom : Target → Value → Syntax
  True : Syntax
  False : Syntax
  Deny : Syntax → Syntax
  Group : Syntax → Syntax
  Both : Syntax → Syntax → Syntax
  Either : Syntax → Syntax → Syntax

-- = or ==: the target has the value
pub data IsEqual : List Lined → List Lined → Type 0 where
  once : {k : ℕ} {rest : List Lined} → IsEqual ((Sign Equals, k) ∷ rest) rest
  twice : {j k : ℕ} {rest : List Lined} → IsEqual ((Sign Equals, j) ∷ (Sign Equals, k) ∷ rest) rest

-- <> or !=: it has another
pub data IsUnequal : List Lined → List Lined → Type 0 where
  less_greater : {j k : ℕ} {rest : List Lined} → IsUnequal ((Sign Less, j) ∷ (Sign Greater, k) ∷ rest) rest
  bang_equals : {j k : ℕ} {rest : List Lined} → IsUnequal ((Sign Bang, j) ∷ (Sign Equals, k) ∷ rest) rest

mutual
  pub data IsUnit : List Lined → Syntax → List Lined → Type 0 where
    atom : {t : Target} {v : Value} {ts mid after rest : List Lined} → IsTarget ts t mid → IsEqual mid after → IsValue after v rest → IsUnit ts (Atom t v) rest
    other : {t : Target} {v : Value} {ts mid after rest : List Lined} → IsTarget ts t mid → IsUnequal mid after → IsValue after v rest → IsUnit ts (Deny (Atom t v)) rest
    truth : {w : List ℕ} {k : ℕ} {rest : List Lined} → IsUnit ((Word TrueWord w, k) ∷ rest) True rest
    falsity : {w : List ℕ} {k : ℕ} {rest : List Lined} → IsUnit ((Word FalseWord w, k) ∷ rest) False rest
    tilde : {s : Syntax} {k : ℕ} {ts rest : List Lined} → IsUnit ts s rest → IsUnit ((Sign Tilde, k) ∷ ts) (Deny s) rest
    denial : {s : Syntax} {w : List ℕ} {k : ℕ} {ts rest : List Lined} → IsUnit ts s rest → IsUnit ((Word NotWord w, k) ∷ ts) (Deny s) rest
    group : {s : Syntax} {j k : ℕ} {ts rest : List Lined} → IsImplication ts s ((Sign CloseParen, k) ∷ rest) → IsUnit ((Sign OpenParen, j) ∷ ts) (Group s) rest

  -- units joined by /\, to the left
  pub data IsConjunction : List Lined → Syntax → List Lined → Type 0 where
    unit : {s : Syntax} {ts rest : List Lined} → IsUnit ts s rest → IsConjunction ts s rest
    both : {a b : Syntax} {k : ℕ} {ts mid rest : List Lined} → IsConjunction ts a ((Sign And, k) ∷ mid) → IsUnit mid b rest → IsConjunction ts (Both a b) rest

  -- conjunctions joined by \/, to the left
  pub data IsDisjunction : List Lined → Syntax → List Lined → Type 0 where
    conjunction : {s : Syntax} {ts rest : List Lined} → IsConjunction ts s rest → IsDisjunction ts s rest
    either : {a b : Syntax} {k : ℕ} {ts mid rest : List Lined} → IsDisjunction ts a ((Sign Or, k) ∷ mid) → IsConjunction mid b rest → IsDisjunction ts (Either a b) rest

  -- disjunctions, each with => behind it: their denials are joined by \/, to the left
  pub data ArePremises : List Lined → Syntax → List Lined → Type 0 where
    premise : {a : Syntax} {j k : ℕ} {ts rest : List Lined} → IsDisjunction ts a ((Sign Equals, j) ∷ (Sign Greater, k) ∷ rest) → ArePremises ts (Deny a) rest
    another : {p a : Syntax} {j k : ℕ} {ts mid rest : List Lined} → ArePremises ts p mid → IsDisjunction mid a ((Sign Equals, j) ∷ (Sign Greater, k) ∷ rest) → ArePremises ts (Either p (Deny a)) rest

  -- a disjunction, before which premises may stand: A => B is ~A \/ B, and A => B => C is ~A \/ ~B \/ C
  pub data IsImplication : List Lined → Syntax → List Lined → Type 0 where
    disjunction : {s : Syntax} {ts rest : List Lined} → IsDisjunction ts s rest → IsImplication ts s rest
    implication : {p s : Syntax} {ts mid rest : List Lined} → ArePremises ts p mid → IsDisjunction mid s rest → IsImplication ts (Either p s) rest

-- nothing, or a semicolon
pub data IsTextEnd : List Lined → Type 0 where
  nothing : IsTextEnd []
  semicolon : {k : ℕ} → IsTextEnd ((Sign Semicolon, k) ∷ [])

-- the tokens are a condition, and nothing but a semicolon follows it
pub data IsCondition : List Lined → Syntax → Type 0 where
  complete : {s : Syntax} {ts rest : List Lined} → IsImplication ts s rest → IsTextEnd rest → IsCondition ts s
