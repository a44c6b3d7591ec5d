-- The judged relation of a candidate with fences: what a global memory order of it must respect. It is the union of
-- preserved program order, external reads-from, coherence order and from-reads, in the field's letters ppo, rfe, co and
-- fr. Of a showing candidate the memory model has an execution exactly where this union has no cycle (a law of
-- fs_verdict_laws).
use Rattle.std.specs.Prelude.{ℕ, ◌==◌, Bool, false, ◌&&◌, ◌||◌, not, Option, None, Some, List, [], ◌∷◌, ◌++◌, map}
use Rattle.fs_kinds.specs.declared.placement.Entry.{Entry}
use Rattle.fs_model.specs.Numbers.{is_same}
use Rattle.fs_model.specs.Operations.{PreExecution, same_hart}
use Rattle.fs_model.specs.Preserved.{Rule, all_rules, rule, ppo}
use Rattle.fs_cert_evidence.specs.Candidates.{Candidate, rf, co}

-- b returns what a wrote, and a is of another hart or an initial store
abbrev pub rfe : PreExecution → Candidate → ℕ → ℕ → Bool
rfe x c a b = is_same (rf c b) (Some a) && not (same_hart x a b)

-- b is later in coherence order than the source, where there is one
abbrev pub is_later : Candidate → Option ℕ → ℕ → Bool
is_later c None b = false
is_later c (Some s) b = co c s b

-- from-reads: b is a store, other than a, that is later in coherence order than the source of a
abbrev pub fr : Candidate → ℕ → ℕ → Bool
fr c a b = not (a == b) && is_later c (rf c a) b

-- a must come before b, in a candidate c of these runs with these fences
abbrev pub is_judged : PreExecution → List Entry → Candidate → ℕ → ℕ → Bool
is_judged x p c a b = ppo x p (rf c) a b || (rfe x c a b || (co c a b || fr c a b))

-- Why a must come before b: by a rule of preserved program order; b returns what a wrote, and a is of another hart or
-- an initial store (the field's rfe); both store to one location, a earlier in coherence order; or a loads, and b
-- stores later than what a returns.
pub data Cause : Type 0 where
  Preserved : Rule → Cause
  ReadsFrom : Cause
  Coherence : Cause
  FromReads : Cause

abbrev pub all_causes : List Cause
all_causes = map Preserved all_rules ++ ReadsFrom ∷ Coherence ∷ FromReads ∷ []

-- a must come before b for this cause
abbrev pub is_edge : PreExecution → List Entry → Candidate → ℕ → ℕ → Cause → Bool
is_edge x p c a b (Preserved r) = rule x p (rf c) a b r
is_edge x p c a b ReadsFrom = rfe x c a b
is_edge x p c a b Coherence = co c a b
is_edge x p c a b FromReads = fr c a b
