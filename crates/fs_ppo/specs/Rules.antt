-- What is so of a candidate's runs, and the rules by their numbers.
use Rattle.std.specs.Prelude.{ℕ, ◌==◌, ◌&&◌, Bool, false, Option, None, Some, List, []}
use Rattle.std.specs.List.{find}
use Rattle.fs_model.specs.Operations.{PreExecution, po}
use Rattle.fs_model.specs.Preserved.{Rule, case_of, Rule1, Rule2, Rule3, Rule4, Rule5, Rule6, Rule7, Rule8, Rule9, Rule10, Rule11, Rule12, Rule13, all_rules}
use Rattle.fs_cand.specs.declared.candidate.Candidate.{Candidate}
use Rattle.fs_cand.specs.Candidates.{runs_of, IsMade}

-- it is so of the candidate's runs, where its operations and dependencies are made of them
abbrev pub OfRuns : Candidate → (PreExecution → Type 0) → Type 0
OfRuns c P = (words : List ℕ) → IsMade words c → P (runs_of c words)

abbrev pub number_of : Rule → ℕ
number_of Rule1 = 1
number_of Rule2 = 2
number_of Rule3 = 3
number_of Rule4 = 4
number_of Rule5 = 5
number_of Rule6 = 6
number_of Rule7 = 7
number_of Rule8 = 8
number_of Rule9 = 9
number_of Rule10 = 10
number_of Rule11 = 11
number_of Rule12 = 12
number_of Rule13 = 13

-- the manual's rule of this number
unfoldable pub rule_of : ℕ → Option Rule
rule_of n = find (λ r. number_of r == n) all_rules

-- what the rule asks besides program order; rule 4 asks for the fences too, and is left out here
abbrev pub asked : PreExecution → (ℕ → Option ℕ) → ℕ → ℕ → Option Rule → Bool
asked x rf a b None = false
asked x rf a b (Some Rule4) = false
asked x rf a b (Some r) = case_of x [] rf a b r

abbrev pub numbered_case : ℕ → PreExecution → (ℕ → Option ℕ) → ℕ → ℕ → Bool
numbered_case n x rf a b = asked x rf a b (rule_of n)

-- a before b is a case of the rule of this number, which isn't 4
abbrev pub numbered_rule : ℕ → PreExecution → (ℕ → Option ℕ) → ℕ → ℕ → Bool
numbered_rule n x rf a b = po x a b && numbered_case n x rf a b
