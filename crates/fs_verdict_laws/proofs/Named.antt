-- By names: in runs of code that branches forward a name has one place, and the run alone says which.
use Rattle.std.proofs.Common.{◌≡◌, ℕ, ◌==◌, ◌<◌, Bool, true, ◌&&◌, not, Option, Some, is_some, option_and_then, List, [], length, get_or, refl, sym, ◌∙◌, ap, subst, arith}
use Rattle.std.specs.Prelude.{All, slice_get}
use Rattle.std.proofs.lemmas.Bool.{eq-eqb, ne_eqb, lt-ltb}
use Rattle.std.proofs.lemmas.List.Elements.{All-get_or}
use Rattle.std.proofs.lemmas.List.Sums.{position_or_len_is}
use Rattle.std.proofs.lemmas.Option.{slice_get_within, slice_get-get_or, get_or_from_slice_get}
use Rattle.fs_kinds.specs.declared.placement.Entry.{Entry}
use Rattle.fs_kinds.specs.declared.reason.OperationName.{OperationName as Name}
use Rattle.fs_model.specs.declared.test.Test.{Test}
use Rattle.fs_model.specs.Test.{GoesForward}
use Rattle.fs_model.specs.declared.step.Step.{Step}
use Rattle.fs_model.specs.Numbers.{is_same}
use Rattle.fs_model.specs.Operations.{PreExecution, operation, place, steps_of}
use Rattle.fs_model.specs.Execution.{code_of, registers_of}
use Rattle.fs_model.specs.Trace.{start_with}
use Rattle.fs_model.specs.Preserved.{Rule, Rule2, Rule3, Rule12}
use Rattle.fs_model.specs.Witness.{name_of}
use Rattle.fs_cert_evidence.specs.Candidates.{Candidate, IsRaw, runs_of, rf}
use Rattle.fs_cert_evidence.specs.Judged.{Preserved, is_edge}
use Rattle.fs_model.proofs.WhichOperation.{of_hart}
use Rattle.fs_model.proofs.HartOperations.{in_list}
use Rattle.fs_cand.proofs.Distinct.{AreRuns, named, rises}
use Rattle.fs_verdict_laws.specs.Local.{accesses_at, local_rule, is_local, through, place_of, both_there, all_there, named_rule, named_through}
use Rattle.fs_verdict_laws.proofs.Places.{rule_local}
use Rattle.fs_verdict_laws.proofs.Sources.{rule_two, rule_three, rule_twelve}

-- ---- the place of a name

-- the first step that executes an instruction is the only one
only_place : (steps : List Step) (at k : ℕ) (s : Step) → slice_get steps k ≡ Some s → s.at ≡ at
    → ((i : ℕ) (u : Step) → i < k → slice_get steps i ≡ Some u → u.at < s.at) → place_of steps at ≡ Some k
only_place steps at k s e is earlier =
    let low = slice_get_within steps k s e in
    let here : (get_or steps k s).at == at ≡ true = ap (λ (u : Step). u.at == at) (get_or_from_slice_get steps k s s e) ∙ eq-eqb s.at at is in
    let first = position_or_len_is (λ (u : Step). u.at == at) steps k s (omega (arith, low))
    (λ i less.
    let before = earlier i (get_or steps i s) less (slice_get-get_or steps i s (omega (arith, less, low))) in
    ne_eqb (get_or steps i s).at at (λ same. omega (arith, before, same, is)))
    (λ small. here) in
    rw (first, lt-ltb k (length steps) low) refl

module _ (x : PreExecution) (runs : AreRuns x.traces) where
  pub place_named : (a : ℕ) (n : Name) → name_of x a ≡ Some n → place_of (steps_of x.traces n.hart) n.at ≡ Some (place x a)
  place_named a n e =
      let is = named x a n e in
      let s = is.step in
      let run = runs n.hart (in_list x.traces n.hart (place x a) s.0 s.1) in
      only_place (steps_of x.traces n.hart) n.at (place x a) s.0 s.1 s.2
      (λ i u less there. rises run.0 run.2 (start_with run.1) (steps_of x.traces n.hart) i (place x a) u s.0 run.3 run.4 less there s.1)

pub accessing : (x : PreExecution) (a h : ℕ) → (operation x a).hart ≡ Some h → accesses_at (steps_of x.traces h) (place x a) ≡ true
accessing x a h e =
    let of = of_hart x a h e in
    ap (λ (o : Option Step). is_some (option_and_then (λ s. s.address) o)) of.there ∙ of.accessing

-- operations of these names are in the rule exactly where the run says so
pub named_is : (x : PreExecution) (p : List Entry) (a b : ℕ) (n m : Name) (r : Rule) → AreRuns x.traces → name_of x a ≡ Some n → name_of x b ≡ Some m → m.hart ≡ n.hart
    → named_rule n.hart (steps_of x.traces n.hart) p n.at m.at r ≡ local_rule n.hart (steps_of x.traces n.hart) p (place x a) (place x b) r
named_is x p a b n m r runs ea eb one =
    let first = place_named x runs a n ea in
    let second : place_of (steps_of x.traces n.hart) m.at ≡ Some (place x b) = subst (λ (h : ℕ). place_of (steps_of x.traces h) m.at ≡ Some (place x b)) one (place_named x runs b m eb) in
    let there = accessing x a n.hart (named x a n ea).hart in
    let there' = accessing x b n.hart ((named x b m eb).hart ∙ ap Some one) in
    ap (λ o. both_there test o (place_of (steps_of x.traces n.hart) m.at)) first ∙ ap (λ o. both_there test (Some (place x a)) o) second
    ∙ ap (λ (c : Bool). c && accesses_at (steps_of x.traces n.hart) (place x b) && local_rule n.hart (steps_of x.traces n.hart) p (place x a) (place x b) r) there
    ∙ ap (λ (c : Bool). c && local_rule n.hart (steps_of x.traces n.hart) p (place x a) (place x b) r) there'
  where
    test : ℕ → ℕ → Bool
    test i j = accesses_at (steps_of x.traces n.hart) i && accesses_at (steps_of x.traces n.hart) j && local_rule n.hart (steps_of x.traces n.hart) p i j r

-- and through a store of this name
through_is : (x : PreExecution) (a b s : ℕ) (n m k : Name) → AreRuns x.traces → name_of x a ≡ Some n → name_of x b ≡ Some m → m.hart ≡ n.hart
    → name_of x s ≡ Some k → k.hart ≡ n.hart
    → named_through (steps_of x.traces n.hart) n.at k.at m.at ≡ through (steps_of x.traces n.hart) (place x a) (place x s) (place x b)
through_is x a b s n m k runs ea eb one es own =
    let steps = steps_of x.traces n.hart in
    let first = place_named x runs a n ea in
    let last : place_of steps m.at ≡ Some (place x b) = subst (λ (h : ℕ). place_of (steps_of x.traces h) m.at ≡ Some (place x b)) one (place_named x runs b m eb) in
    let middle : place_of steps k.at ≡ Some (place x s) = subst (λ (h : ℕ). place_of (steps_of x.traces h) k.at ≡ Some (place x s)) own (place_named x runs s k es) in
    let there = accessing x a n.hart (named x a n ea).hart in
    let there' = accessing x b n.hart ((named x b m eb).hart ∙ ap Some one) in
    let there'' = accessing x s n.hart ((named x s k es).hart ∙ ap Some own) in
    ap (λ o. all_there test o (place_of steps k.at) (place_of steps m.at)) first
    ∙ ap (λ o. all_there test (Some (place x a)) o (place_of steps m.at)) middle
    ∙ ap (λ o. all_there test (Some (place x a)) (Some (place x s)) o) last
    ∙ ap (λ (d : Bool). d && accesses_at steps (place x s) && accesses_at steps (place x b) && through steps (place x a) (place x s) (place x b)) there
    ∙ ap (λ (d : Bool). d && accesses_at steps (place x b) && through steps (place x a) (place x s) (place x b)) there''
    ∙ ap (λ (d : Bool). d && through steps (place x a) (place x s) (place x b)) there'
  where
    test : ℕ → ℕ → ℕ → Bool
    test i q j = accesses_at (steps_of x.traces n.hart) i && accesses_at (steps_of x.traces n.hart) q && accesses_at (steps_of x.traces n.hart) j && through (steps_of x.traces n.hart) i q j

-- ---- of a candidate

forward_runs : (t : Test) (c : Candidate) → All GoesForward t.codes → IsRaw t c → AreRuns c.traces
forward_runs t c forward raw hart low =
    let harts = raw.runs.harts in
    let inside : hart < length t.codes = omega (arith, low, harts) in (
      length t.locations,
      registers_of t hart,
      code_of t hart,
      All-get_or GoesForward t.codes hart [] inside forward,
      (raw.runs.runs hart inside).0,
    )

module _ (t : Test) (p : List Entry) (c : Candidate) (forward : All GoesForward t.codes) (raw : IsRaw t c) where
  pub runs : AreRuns c.traces
  runs = forward_runs t c forward raw

  pub place_in : (a : ℕ) (n : Name) → name_of (runs_of t c) a ≡ Some n → place_of (steps_of c.traces n.hart) n.at ≡ Some (place (runs_of t c) a)
  place_in a n e = place_named (runs_of t c) runs a n e

  pub edge_named : (a b : ℕ) (n m : Name) (r : Rule) → name_of (runs_of t c) a ≡ Some n → name_of (runs_of t c) b ≡ Some m → m.hart ≡ n.hart → is_local r ≡ true
      → is_edge (runs_of t c) p c a b (Preserved r) ≡ named_rule n.hart (steps_of c.traces n.hart) p n.at m.at r
  edge_named a b n m r ea eb one l =
      rule_local (runs_of t c) p (rf c) n.hart a b (named (runs_of t c) a n ea).hart ((named (runs_of t c) b m eb).hart ∙ ap Some one) r l
      ∙ sym (named_is (runs_of t c) p a b n m r runs ea eb one)

  pub edge_two : (a b : ℕ) (n m : Name) → name_of (runs_of t c) a ≡ Some n → name_of (runs_of t c) b ≡ Some m → m.hart ≡ n.hart
      → is_edge (runs_of t c) p c a b (Preserved Rule2) ≡ (named_rule n.hart (steps_of c.traces n.hart) p n.at m.at Rule2 && not (is_same (rf c a) (rf c b)))
  edge_two a b n m ea eb one =
      rule_two (runs_of t c) n.hart a b (named (runs_of t c) a n ea).hart ((named (runs_of t c) b m eb).hart ∙ ap Some one) p (rf c)
      ∙ ap (λ (o : Bool). o && not (is_same (rf c a) (rf c b))) (sym (named_is (runs_of t c) p a b n m Rule2 runs ea eb one))

  pub edge_three : (a b : ℕ) (n m : Name) → name_of (runs_of t c) a ≡ Some n → name_of (runs_of t c) b ≡ Some m → m.hart ≡ n.hart
      → is_edge (runs_of t c) p c a b (Preserved Rule3) ≡ (named_rule n.hart (steps_of c.traces n.hart) p n.at m.at Rule3 && is_same (rf c b) (Some a))
  edge_three a b n m ea eb one =
      rule_three (runs_of t c) n.hart a b (named (runs_of t c) a n ea).hart ((named (runs_of t c) b m eb).hart ∙ ap Some one) p (rf c)
      ∙ ap (λ (o : Bool). o && is_same (rf c b) (Some a)) (sym (named_is (runs_of t c) p a b n m Rule3 runs ea eb one))

  -- through the store of name k, from which the load returns
  pub edge_twelve : (a b s : ℕ) (n m k : Name) → name_of (runs_of t c) a ≡ Some n → name_of (runs_of t c) b ≡ Some m → m.hart ≡ n.hart
      → rf c b ≡ Some s → name_of (runs_of t c) s ≡ Some k → k.hart ≡ n.hart
      → is_edge (runs_of t c) p c a b (Preserved Rule12) ≡ named_through (steps_of c.traces n.hart) n.at k.at m.at
  edge_twelve a b s n m k ea eb one source es own =
      rule_twelve (runs_of t c) n.hart a b (named (runs_of t c) a n ea).hart ((named (runs_of t c) b m eb).hart ∙ ap Some one) p (rf c) s source
      ((named (runs_of t c) s k es).hart ∙ ap Some own)
      ∙ sym (through_is (runs_of t c) a b s n m k runs ea eb one es own)
