-- A link of a cycle, by a rule that looks at the run alone, is there exactly where the rule holds by names; and a set
-- of runs serves.
use Rattle.std.proofs.Common.{◌≡◌, ℕ, zero, suc, ◌==◌, ◌<◌, Bool, true, false, ◌&&◌, not, Option, Some, None, option_map, option_and_then, unwrap_or, List, [], ◌∷◌, length, refl, sym, ◌∙◌, ap, arith}
use Rattle.std.specs.Prelude.{All, ◌↔◌, slice_get}
use Rattle.std.specs.List.{Contains, list_all, slice_index_or}
use Rattle.std.proofs.lemmas.Bool.{false≢true, and_parts, and_from, eqb-true}
use Rattle.std.proofs.lemmas.List.Quantifiers.{position-Some}
use Rattle.std.proofs.lemmas.Option.{get_or_from_slice_get}
use Rattle.fs_kinds.specs.declared.placement.Entry.{Entry}
use Rattle.fs_kinds.specs.declared.reason.OperationName.{OperationName as Name}
use Rattle.fs_model.specs.declared.test.Test.{Test}
use Rattle.fs_model.specs.Test.{GoesForward}
use Rattle.fs_model.specs.declared.step.Step.{Step}
use Rattle.fs_model.specs.Operations.{PreExecution, operation, place, steps_of}
use Rattle.fs_model.specs.Preserved.{Rule, Rule2, Rule3, Rule12}
use Rattle.fs_model.specs.Numbers.{is_same}
use Rattle.fs_model.proofs.OptionalNumbers.{same_is, same_from}
use Rattle.fs_cand.proofs.Distinct.{one_named, named}
use Rattle.fs_model.specs.Witness.{name_of, step_name}
use Rattle.fs_cert_evidence.specs.Candidates.{Candidate, IsRaw, runs_of, rf}
use Rattle.fs_cert_evidence.specs.Judged.{Preserved, is_edge}
use Rattle.fs_verdict_laws.specs.Local.{accesses_at, local_rule, is_local, place_of, both_there, named_rule, always, never, source_name, named_through, always_through, HasLink}
use Rattle.fs_verdict_laws.proofs.Sources.{number_at, step_with, part_of}
use Rattle.fs_verdict_laws.proofs.Named.{named_is, edge_named, edge_two, edge_three, edge_twelve}
use Rattle.fs_verdict_laws.proofs.Named.{runs as runs_forward}

-- ---- operations by names

pub both_parts : (test : ℕ → ℕ → Bool) (o u : Option ℕ) → both_there test o u ≡ true → (i j : ℕ) × (o ≡ Some i) × (u ≡ Some j) × (test i j ≡ true)
both_parts test None u h = absurd (false≢true h)
both_parts test (Some i) None h = absurd (false≢true h)
both_parts test (Some i) (Some j) h = (i, j, refl, refl, h)

name_from : (traces : List (List Step)) (k : ℕ) (u : Option ℕ) (hart : ℕ) (s : Step) → u ≡ Some hart → slice_get (steps_of traces hart) k ≡ Some s
    → option_and_then (λ hart. option_map (step_name hart) (slice_get (unwrap_or (option_map (steps_of traces) u) []) k)) u ≡ Some (step_name hart s)
name_from traces k u hart s e r = rw (e, r) refl

-- where the run executes the instruction and it accesses memory, an operation has its name
pub record IsNumbered (x : PreExecution) (h at : ℕ) : Type 0 where
  pub number : ℕ
  pub name : name_of x number ≡ Some (record { hart = h; at = at })

pub numbered : (x : PreExecution) (h at i : ℕ) → place_of (steps_of x.traces h) at ≡ Some i → accesses_at (steps_of x.traces h) i ≡ true → IsNumbered x h at
numbered x h at i e there =
    let found = number_at x h i there in
    let step = step_with (slice_get (steps_of x.traces h) i) there in
    let s = step.0 in
    let parts = position-Some (λ (s : Step). s.at == at) (steps_of x.traces h) i s e in
    let same : s.at ≡ at = eqb-true s.at at (ap (λ (u : Step). u.at == at) (sym (get_or_from_slice_get (steps_of x.traces h) i s s step.1)) ∙ parts.1) in
    let here : slice_get (steps_of x.traces h) (place x found.number) ≡ Some s = ap (slice_get (steps_of x.traces h)) found.place_is ∙ step.1 in
    record {
      number = found.number;
      name = name_from x.traces (place x found.number) (operation x found.number).hart h s found.hart here ∙ ap (λ (k : ℕ). Some (record { hart = h; at = k })) same;
    }

-- operations of both names, where the run executes both instructions
pub record HasEnds (x : PreExecution) (n m : Name) : Type 0 where
  pub first : ℕ
  pub second : ℕ
  pub first_named : name_of x first ≡ Some n
  pub second_named : name_of x second ≡ Some m

pub ends : (x : PreExecution) (p : List Entry) (n m : Name) (r : Rule) → m.hart ≡ n.hart → named_rule n.hart (steps_of x.traces n.hart) p n.at m.at r ≡ true
    → HasEnds x n m
ends x p n m r one holds =
    let steps = steps_of x.traces n.hart in
    let parts = both_parts (λ i j. accesses_at steps i && accesses_at steps j && local_rule n.hart steps p i j r) (place_of steps n.at) (place_of steps m.at) holds in
    let there = and_parts _ _ (and_parts _ _ parts.4).0 in
    let first = numbered x n.hart n.at parts.0 parts.2 there.0 in
    let second = numbered x n.hart m.at parts.1 parts.3 there.1 in
    record {
      first = first.number;
      second = second.number;
      first_named = first.name;
      second_named = second.name ∙ ap (λ (h : ℕ). Some (record { hart = h; at = m.at })) (sym one);
    }

module _ (t : Test) (p : List Entry) (c : Candidate) (forward : All GoesForward t.codes) (raw : IsRaw t c) (n m : Name) (one : m.hart ≡ n.hart) (r : Rule) (l : is_local r ≡ true) where
  to_run : HasLink t p c n m (Preserved r) → named_rule n.hart (steps_of c.traces n.hart) p n.at m.at r ≡ true
  to_run link = sym (edge_named t p c forward raw link.0 link.1 n m r link.2 link.3 one l) ∙ link.4

  from_run : named_rule n.hart (steps_of c.traces n.hart) p n.at m.at r ≡ true → HasLink t p c n m (Preserved r)
  from_run holds =
      let e = ends (runs_of t c) p n m r one holds in
      (e.first, e.second, e.first_named, e.second_named, edge_named t p c forward raw e.first e.second n m r e.first_named e.second_named one l ∙ holds)

  pub link_by_run : HasLink t p c n m (Preserved r) ↔ (named_rule n.hart (steps_of c.traces n.hart) p n.at m.at r ≡ true)
  link_by_run = (to_run, from_run)

-- ---- a set of runs

pub passes_in : {X : Type 0} (f : X → Bool) (xs : List X) (k : ℕ) (x : X) → list_all f xs ≡ true → k < length xs → slice_index_or xs k x ≡ x → f x ≡ true
passes_in f [] k x all low e = absurd (omega (arith, low))
passes_in f (y ∷ ys) zero x all low e = ap f (sym e) ∙ (and_parts (f y) (list_all f ys) all).0
passes_in f (y ∷ ys) (suc k) x all low e = passes_in f ys k x (and_parts (f y) (list_all f ys) all).1 (omega (arith, low)) e

-- what each run of a set has, the run of a candidate has that is in the set
pub always_holds : (h : ℕ) (runs : List (List Step)) (steps : List Step) (p : List Entry) (first second : ℕ) (r : Rule) → always h runs p first second r ≡ true → Contains runs steps
    → named_rule h steps p first second r ≡ true
always_holds h runs steps p first second r all there =
    passes_in (λ (ss : List Step). named_rule h ss p first second r) runs there.0 steps all there.1 there.2

module _ (t : Test) (p : List Entry) (c : Candidate) (forward : All GoesForward t.codes) (raw : IsRaw t c) (n m : Name) (one : m.hart ≡ n.hart) (r : Rule) (l : is_local r ≡ true) (runs : List (List Step)) where
  pub link_by_runs : always n.hart runs p n.at m.at r ≡ true → Contains runs (steps_of c.traces n.hart) → HasLink t p c n m (Preserved r)
  link_by_runs all there = from_run t p c forward raw n m one r l (always_holds n.hart runs (steps_of c.traces n.hart) p n.at m.at r all there)

  pub edge_by_runs : always n.hart runs p n.at m.at r ≡ true → Contains runs (steps_of c.traces n.hart) → (a b : ℕ)
      → name_of (runs_of t c) a ≡ Some n → name_of (runs_of t c) b ≡ Some m → is_edge (runs_of t c) p c a b (Preserved r) ≡ true
  edge_by_runs all there a b ea eb =
      edge_named t p c forward raw a b n m r ea eb one l ∙ always_holds n.hart runs (steps_of c.traces n.hart) p n.at m.at r all there

-- what holds of no run of a set, the candidate has not
never_holds : {X : Type 0} (f : X → Bool) (x : X) → not (f x) ≡ true → f x ≡ true → ⊥
never_holds f x none holds = by_case (f x) none holds
  where
    by_case : (b : Bool) → not b ≡ true → b ≡ true → ⊥
    by_case true e h = false≢true e
    by_case false e h = false≢true h

module _ (t : Test) (p : List Entry) (c : Candidate) (forward : All GoesForward t.codes) (raw : IsRaw t c) (n m : Name) (one : m.hart ≡ n.hart) (r : Rule) where
  -- of any rule, a link asks the run for its local part
  pub link_part : HasLink t p c n m (Preserved r) → named_rule n.hart (steps_of c.traces n.hart) p n.at m.at r ≡ true
  link_part link =
      let x = runs_of t c in
      named_is x p link.0 link.1 n m r (runs_forward t p c forward raw) link.2 link.3 one
      ∙ part_of x n.hart link.0 link.1 (named x link.0 n link.2).hart ((named x link.1 m link.3).hart ∙ ap Some one) p (rf c) r link.4

  pub no_link_by_runs : (runs : List (List Step)) → never n.hart runs p n.at m.at r ≡ true → Contains runs (steps_of c.traces n.hart)
      → HasLink t p c n m (Preserved r) → ⊥
  no_link_by_runs runs none there link =
      never_holds (λ (ss : List Step). named_rule n.hart ss p n.at m.at r) (steps_of c.traces n.hart)
      (passes_in (λ (ss : List Step). not (named_rule n.hart ss p n.at m.at r)) runs there.0 (steps_of c.traces n.hart) none there.1 there.2)
      (link_part link)

-- candidates with the same run of the hart have the same edges by name
pub edge_alike : (t : Test) (p : List Entry) (c d : Candidate) → All GoesForward t.codes → IsRaw t c → IsRaw t d → (a b i j : ℕ) (n m : Name) (r : Rule) → is_local r ≡ true
    → m.hart ≡ n.hart → steps_of c.traces n.hart ≡ steps_of d.traces n.hart → name_of (runs_of t c) a ≡ Some n → name_of (runs_of t c) b ≡ Some m
    → name_of (runs_of t d) i ≡ Some n → name_of (runs_of t d) j ≡ Some m
    → is_edge (runs_of t c) p c a b (Preserved r) ≡ is_edge (runs_of t d) p d i j (Preserved r)
edge_alike t p c d forward raw raw' a b i j n m r l one same ea eb ei ej =
    edge_named t p c forward raw a b n m r ea eb one l
    ∙ ap (λ (steps : List Step). named_rule n.hart steps p n.at m.at r) same
    ∙ sym (edge_named t p d forward raw' i j n m r ei ej one l)

-- ---- a set of runs, and sources

source_parts : (x : PreExecution) (o : Option ℕ) (k : Name) → option_and_then (name_of x) o ≡ Some k → (s : ℕ) × (o ≡ Some s) × (name_of x s ≡ Some k)
source_parts x None k e = absurd (let none : None ≡ Some k = e in cc)
source_parts x (Some s) k e = (s, refl, e)

pub not_same : (x : PreExecution) (o u : Option ℕ) → (option_and_then (name_of x) o ≡ option_and_then (name_of x) u → ⊥) → not (is_same o u) ≡ true
not_same x o u apart = by_case (is_same o u) refl
  where
    by_case : (b : Bool) → is_same o u ≡ b → not b ≡ true
    by_case true e = absurd (apart (ap (option_and_then (name_of x)) (same_is o u e)))
    by_case false e = refl

module _ (t : Test) (p : List Entry) (c : Candidate) (forward : All GoesForward t.codes) (raw : IsRaw t c) (n m : Name) (one : m.hart ≡ n.hart) (runs : List (List Step)) (there : Contains runs (steps_of c.traces n.hart)) where
  in_run : (r : Rule) → always n.hart runs p n.at m.at r ≡ true → named_rule n.hart (steps_of c.traces n.hart) p n.at m.at r ≡ true
  in_run r all = always_holds n.hart runs (steps_of c.traces n.hart) p n.at m.at r all there

  -- rule 2: the two loads never return from one store
  pub link_two : always n.hart runs p n.at m.at Rule2 ≡ true
      → ((a b : ℕ) → name_of (runs_of t c) a ≡ Some n → name_of (runs_of t c) b ≡ Some m → source_name (runs_of t c) c a ≡ source_name (runs_of t c) c b → ⊥)
      → HasLink t p c n m (Preserved Rule2)
  link_two all apart =
      let holds = in_run Rule2 all in
      let e = ends (runs_of t c) p n m Rule2 one holds in (
        e.first,
        e.second,
        e.first_named,
        e.second_named,
        edge_two t p c forward raw e.first e.second n m e.first_named e.second_named one
            ∙ and_from _ _ holds (not_same (runs_of t c) (rf c e.first) (rf c e.second) (apart e.first e.second e.first_named e.second_named)),
      )

  -- rule 3: the load returns from the first
  pub link_three : always n.hart runs p n.at m.at Rule3 ≡ true
      → ((b : ℕ) → name_of (runs_of t c) b ≡ Some m → source_name (runs_of t c) c b ≡ Some n)
      → HasLink t p c n m (Preserved Rule3)
  link_three all source =
      let holds = in_run Rule3 all in
      let e = ends (runs_of t c) p n m Rule3 one holds in
      let from = source_parts (runs_of t c) (rf c e.second) n (source e.second e.second_named) in
      let same : from.0 ≡ e.first = one_named (runs_of t c) from.0 e.first n (runs_forward t p c forward raw) from.2 e.first_named in (
        e.first,
        e.second,
        e.first_named,
        e.second_named,
        edge_three t p c forward raw e.first e.second n m e.first_named e.second_named one
            ∙ and_from _ _ holds (same_from (rf c e.second) (Some e.first) from.0 from.1 (ap Some (sym same))),
      )

  -- rule 12: whatever it returns from is such a store between, in each run
  pub link_twelve : always n.hart runs p n.at m.at Rule12 ≡ true
      → ((b : ℕ) → name_of (runs_of t c) b ≡ Some m
      → (k : Name) × (source_name (runs_of t c) c b ≡ Some k) × (k.hart ≡ n.hart) × (always_through runs n.at k.at m.at ≡ true))
      → HasLink t p c n m (Preserved Rule12)
  link_twelve all source =
      let holds = in_run Rule12 all in
      let e = ends (runs_of t c) p n m Rule12 one holds in
      let k = source e.second e.second_named in
      let from = source_parts (runs_of t c) (rf c e.second) k.0 k.1 in (
        e.first,
        e.second,
        e.first_named,
        e.second_named,
        edge_twelve t p c forward raw e.first e.second from.0 n m k.0 e.first_named e.second_named one from.1 from.2 k.2
            ∙ passes_in (λ (ss : List Step). named_through ss n.at k.0.at m.at) runs there.0 (steps_of c.traces n.hart) k.3 there.1 there.2,
      )
