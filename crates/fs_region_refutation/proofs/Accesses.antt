-- A run by itself has few operations.
use Rattle.std.proofs.Common.{◌≡◌, ℕ, zero, suc, ◌+◌, ◌<◌, ◌≤◌, ◌==◌, Bool, true, false, cond, List, [], ◌∷◌, map, filter, length, refl, ap, arith}
use Rattle.std.specs.Prelude.{is_some, if◌then◌else◌}
use Rattle.std.specs.List.{enumerate_from, flat_map, range_with_len}
use Rattle.std.proofs.lemmas.Bool.{eqb-true}
use Rattle.std.proofs.lemmas.List.{length-append, length-map}
use Rattle.std.proofs.lemmas.List.Concat.{flat_map-cons}
use Rattle.fs_model.specs.declared.step.Step.{Step}
use Rattle.fs_model.specs.declared.test.Test.{Test}
use Rattle.fs_model.specs.Operations.{access_of, accesses_of, operations}
use Rattle.fs_model.proofs.WhichOperation.{length_operations}
use Rattle.fs_cert_evidence.specs.Musts.{alone}

kept : (k : ℕ) (steps : List Step) → length (filter (λ numbered. is_some numbered.1.address) (enumerate_from k steps)) ≤ length steps
kept k [] = omega arith
kept k (s ∷ ss) = by_case (is_some s.address) (kept (k + 1) ss)
  where
    by_case : (b : Bool) → length (filter (λ numbered. is_some numbered.1.address) (enumerate_from (k + 1) ss)) ≤ length ss
        → length (cond b ((k, s) ∷ filter (λ numbered. is_some numbered.1.address) (enumerate_from (k + 1) ss)) (filter (λ numbered. is_some numbered.1.address) (enumerate_from (k + 1) ss))) ≤ length (s ∷ ss)
    by_case true few = omega (arith, few)
    by_case false few = omega (arith, few)

of_one : (hart : ℕ) (steps : List Step) → length (accesses_of (hart, steps)) ≤ length steps
of_one hart steps =
    let same = length-map (filter (λ numbered. is_some numbered.1.address) (enumerate_from 0 steps)) (access_of hart) in
    let few = kept 0 steps in
    omega (arith, same, few)

abbrev ran : ℕ → List Step → ℕ → List Step
ran hart run h = if h == hart then run else []

abbrev made_from : ℕ → List Step → ℕ → ℕ → List (List Step)
made_from hart run a n = map (ran hart run) (range_with_len a n)

-- past the hart there is none
none_later : (hart : ℕ) (run : List Step) (m a n : ℕ) → hart < a → length (flat_map accesses_of (enumerate_from m (made_from hart run a n))) ≤ 0
none_later hart run m a zero past = omega arith
none_later hart run m a (suc n) past =
    let parts = ap (λ os. length os) (flat_map-cons accesses_of (m, ran hart run a) (enumerate_from (m + 1) (made_from hart run (a + 1) n))) in
    let both = length-append (accesses_of (m, ran hart run a)) (flat_map accesses_of (enumerate_from (m + 1) (made_from hart run (a + 1) n))) in
    let rest = none_later hart run (m + 1) (a + 1) n (omega (arith, past)) in
    let here = of_one m (ran hart run a) in
    let empty = idle_there (a == hart) refl in
    omega (arith, parts, both, rest, here, empty)
  where
    idle_there : (b : Bool) → (a == hart) ≡ b → length (ran hart run a) ≤ 0
    idle_there true e = absurd (let same = eqb-true a hart e in omega (arith, same, past))
    idle_there false e = rw e (omega arith)

few_from : (hart : ℕ) (run : List Step) (m a n : ℕ) → length (flat_map accesses_of (enumerate_from m (made_from hart run a n))) ≤ length run
few_from hart run m a zero = omega arith
few_from hart run m a (suc n) =
    let parts = ap (λ os. length os) (flat_map-cons accesses_of (m, ran hart run a) (enumerate_from (m + 1) (made_from hart run (a + 1) n))) in
    let both = length-append (accesses_of (m, ran hart run a)) (flat_map accesses_of (enumerate_from (m + 1) (made_from hart run (a + 1) n))) in
    let all = by_case (few_from hart run (m + 1) (a + 1) n) (a == hart) refl in
    omega (arith, parts, both, all)
  where
    by_case : length (flat_map accesses_of (enumerate_from (m + 1) (made_from hart run (a + 1) n))) ≤ length run → (b : Bool) → (a == hart) ≡ b
        → length (accesses_of (m, ran hart run a)) + length (flat_map accesses_of (enumerate_from (m + 1) (made_from hart run (a + 1) n))) ≤ length run
    by_case later true e =
        let here = of_one m (ran hart run a) in
        let is : length (ran hart run a) ≡ length run = rw e refl in
        let none = none_later hart run (m + 1) (a + 1) n (let same = eqb-true a hart e in omega (arith, same)) in
        omega (arith, here, is, none)
    by_case later false e =
        let here = of_one m (ran hart run a) in
        let is : length (ran hart run a) ≡ 0 = rw e refl in
        omega (arith, here, is, later)

pub few_alone : (t : Test) (hart : ℕ) (run : List Step) → length run ≤ 32 → length t.locations ≤ 8 → length (operations (alone t hart run)) ≤ 40
few_alone t hart run short locations =
    let long = length_operations (alone t hart run) in
    let few = few_from hart run 0 0 (length t.codes) in
    let words = length-map t.locations (λ location. location.word) in
    omega (arith, long, few, words, short, locations)
