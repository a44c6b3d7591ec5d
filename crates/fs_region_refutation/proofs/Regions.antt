-- What a region in code stands for, where it is made of another.
use Rattle.std.proofs.Common.{◌≡◌, ◌≢◌, ℕ, ◌<◌, ◌≤◌, Bool, true, false, Some, Option, List, [], ◌∷◌, length, filter, cond, get_or-set_same, get_or-set_other, inl, inr, refl, sym, ◌∙◌, ap, subst}
use Rattle.std.specs.Prelude.{if◌then◌else◌, ◌==◌, not}
use Rattle.std.specs.Arc.{arc_value}
use Rattle.std.specs.Borrow.{Bor}
use Rattle.std.proofs.Math.ListN.{set}
use Rattle.std.proofs.Math.Path.{fun_ext}
use Rattle.std.proofs.lemmas.Bool.{false≢true, cases_lt, eqb-true, eq-eqb}
use Rattle.std.proofs.lemmas.List.{get_or_past, set_past}
use Rattle.std.proofs.lemmas.List.Elements.{All-filter}
use Rattle.fs_kinds.specs.declared.reason.OperationName.{OperationName as Name}
use Rattle.fs_model.specs.declared.test.Test.{Test}
use Rattle.fs_model.specs.declared.step.Step.{Step}
use Rattle.fs_model.specs.Condition.{Condition}
use Rattle.fs_cert_evidence.specs.Regions.{Region, Source, same_name}
use Rattle.fs_cert_evidence.specs.Splits.{keep, with_source, with_order, with_wanted}
use Rattle.fs_region_refutation.specs.Alone.{RunOf, source_of}
use Rattle.fs_region_refutation.specs.declared.region.Sourced.{Sourced}
use Rattle.fs_region_refutation.specs.declared.region.Region.{Region as CodeRegion}
use Rattle.fs_region_refutation.specs.Views.{region_of, runs_of, at_hart, list_at, lists_in, source_in, source_after, is_in_order, all_wanted, with_runs, Shares, IsOf, AreRunsOf}
use Rattle.fs_verdict_laws.proofs.Names.{name_is}
use Rattle.fs_region_refutation.proofs.Lists.{filter_seen}

abbrev made : (ℕ → List (List Step)) → (Name → Option Source) → (Name → Name → Bool) → List (Condition × Bool) → Region
made runs source before wanted = record { runs = runs; source = source; before = before; wanted = wanted }

-- regions are the same where they say the same of each hart and name
pub same_region : (r s : Region) → ((h : ℕ) → r.runs h ≡ s.runs h) → ((n : Name) → r.source n ≡ s.source n)
    → ((a b : Name) → r.before a b ≡ s.before a b) → r.wanted ≡ s.wanted → r ≡ s
same_region r s runs source before wanted =
    ap (λ f. made f r.source r.before r.wanted) (fun_ext runs)
    ∙ ap (λ f. made s.runs f r.before r.wanted) (fun_ext source)
    ∙ ap (λ f. made s.runs s.source f r.wanted) (fun_ext (λ a. fun_ext (before a)))
    ∙ ap (made s.runs s.source s.before) wanted

-- ---- runs

at_hart_set : (lists : List (List (Bor RunOf))) (hart : ℕ) (runs : List (Bor RunOf)) (h : ℕ) (b : Bool) → (h == hart) ≡ b → hart < length lists
    → at_hart (set lists hart runs) h ≡ (if b then runs else at_hart lists h)
at_hart_set lists hart runs h true e low =
    ap (at_hart (set lists hart runs)) (eqb-true h hart e) ∙ get_or-set_same lists hart runs [] low
at_hart_set lists hart runs h false e low =
    let other : h ≢ hart = λ same. false≢true (sym e ∙ eq-eqb h hart same) in
    get_or-set_other lists hart h runs [] other

seen_if : (b : Bool) (xs ys : List (Bor RunOf)) → runs_of (if b then xs else ys) ≡ (if b then runs_of xs else runs_of ys)
seen_if true xs ys = refl
seen_if false xs ys = refl

of_if : (t : Test) (h : ℕ) (b : Bool) (xs ys : List (Bor RunOf)) → (b ≡ true → AreRunsOf t h xs) → AreRunsOf t h ys → AreRunsOf t h (if b then xs else ys)
of_if t h true xs ys first other = first refl
of_if t h false xs ys first other = other

module _ (old new : CodeRegion) (shares : Shares old new) where
  pub same_runs : lists_in new.runs.items ≡ lists_in old.runs.items → region_of new ≡ region_of old
  same_runs same =
      same_region (region_of new) (region_of old)
      (λ h. ap (λ lists. runs_of (at_hart lists h)) same)
      (λ n. ap (λ known. source_in known n) shares.sources)
      (λ a b. ap (λ known. is_in_order known a b) shares.orders)
      (ap all_wanted shares.wanted)

  pub set_runs : (hart : ℕ) (runs : List (Bor RunOf)) → hart < length (lists_in old.runs.items)
      → lists_in new.runs.items ≡ set (lists_in old.runs.items) hart runs
      → region_of new ≡ with_runs hart (runs_of runs) (region_of old)
  set_runs hart runs low same =
      same_region (region_of new) (with_runs hart (runs_of runs) (region_of old))
      (λ h. ap (λ lists. runs_of (at_hart lists h)) same
      ∙ ap runs_of (at_hart_set (lists_in old.runs.items) hart runs h (h == hart) refl low)
      ∙ seen_if (h == hart) runs (list_at old h))
      (λ n. ap (λ known. source_in known n) shares.sources)
      (λ a b. ap (λ known. is_in_order known a b) shares.orders)
      (ap all_wanted shares.wanted)

pub same_of : (t : Test) (old new : CodeRegion) → lists_in new.runs.items ≡ lists_in old.runs.items → IsOf t old → IsOf t new
same_of t old new same of hart = subst (λ lists. AreRunsOf t hart (at_hart lists hart)) (sym same) (of hart)

pub set_of : (t : Test) (old new : CodeRegion) (hart : ℕ) (runs : List (Bor RunOf)) → hart < length (lists_in old.runs.items)
    → lists_in new.runs.items ≡ set (lists_in old.runs.items) hart runs → IsOf t old → AreRunsOf t hart runs → IsOf t new
set_of t old new hart runs low same of are h =
    subst (λ lists. AreRunsOf t h (at_hart lists h)) (sym same)
    (subst (AreRunsOf t h) (sym (at_hart_set (lists_in old.runs.items) hart runs h (h == hart) refl low))
    (of_if t h (h == hart) runs (list_at old h) (λ e. subst (λ n. AreRunsOf t n runs) (sym (eqb-true h hart e)) are) (of h)))

-- the same, whether the hart is one or not
pub set_or_past_of : (t : Test) (old new : CodeRegion) (hart : ℕ) (runs : List (Bor RunOf)) → lists_in new.runs.items ≡ set (lists_in old.runs.items) hart runs
    → IsOf t old → AreRunsOf t hart runs → IsOf t new
set_or_past_of t old new hart runs same of are = elim (cases_lt hart (length (lists_in old.runs.items))) [
  | inl low ↦ set_of t old new hart runs low same of are
  | inr high ↦ same_of t old new (same ∙ set_past (lists_in old.runs.items) hart runs high) of
]

-- ---- runs that are kept

module _ (old : CodeRegion) (hart : ℕ) (test : List Step → Bool) (kept : List (Bor RunOf)) (is : kept ≡ filter (λ run. test run.now.steps) (list_at old hart)) where
  kept_at : (h : ℕ) (b : Bool) → (h == hart) ≡ b
      → (if b then runs_of kept else runs_of (list_at old h)) ≡ (if b then filter test (runs_of (list_at old h)) else runs_of (list_at old h))
  kept_at h true e =
      ap runs_of is ∙ filter_seen (λ run. run.now.steps) test (list_at old hart)
      ∙ ap (λ n. filter test (runs_of (list_at old n))) (sym (eqb-true h hart e))
  kept_at h false e = refl

  pub keep_is : with_runs hart (runs_of kept) (region_of old) ≡ keep hart test (region_of old)
  keep_is =
      same_region (with_runs hart (runs_of kept) (region_of old)) (keep hart test (region_of old))
      (λ h. kept_at h (h == hart) refl) (λ n. refl) (λ a b. refl) refl

  pub kept_of : (t : Test) → IsOf t old → AreRunsOf t hart kept
  kept_of t of =
      subst (AreRunsOf t hart) (sym is) (All-filter (λ run. test run.now.steps) (λ run. (run.now.test ≡ t) × (run.now.hart ≡ hart)) (list_at old hart) (of hart))

past_at : (old : CodeRegion) (hart : ℕ) (test : List Step → Bool) → length (lists_in old.runs.items) ≤ hart
    → (h : ℕ) (b : Bool) → (h == hart) ≡ b
    → runs_of (list_at old h) ≡ (if b then filter test (runs_of (list_at old h)) else runs_of (list_at old h))
past_at old hart test high h true e =
    let none : list_at old h ≡ [] = ap (list_at old) (eqb-true h hart e) ∙ get_or_past (lists_in old.runs.items) hart [] high in
    ap runs_of none ∙ sym (ap (λ runs. filter test (runs_of runs)) none)
past_at old hart test high h false e = refl

-- of a hart that isn't there no run is kept, since there is none
pub keep_past : (old : CodeRegion) (hart : ℕ) (test : List Step → Bool) → length (lists_in old.runs.items) ≤ hart
    → region_of old ≡ keep hart test (region_of old)
keep_past old hart test high =
    same_region (region_of old) (keep hart test (region_of old))
    (λ h. past_at old hart test high h (h == hart) refl) (λ n. refl) (λ a b. refl) refl

-- ---- sources, orders and wanted conditions

if_same : (b : Bool) (s : Source) (xs ys : Option Source) → xs ≡ ys → (if b then Some s else xs) ≡ (if b then Some s else ys)
if_same true s xs ys e = refl
if_same false s xs ys e = e

not_else : (b : Bool) (s : Source) (xs : Option Source) → b ≡ false → xs ≡ (if b then Some s else xs)
not_else b s xs e = rw e refl

module _ (load : Name) where
  abbrev others_of : List Sourced → List Sourced
  others_of = filter (λ known. not (same_name known.load load))

  left_out : (name : Name) (known : Sourced) (all : List Sourced) (b : Bool) → same_name known.load load ≡ b → same_name name load ≡ false
      → source_in (others_of all) name ≡ source_in all name
      → source_in (cond (not b) (known ∷ others_of all) (others_of all)) name ≡ source_in (known ∷ all) name
  left_out name known all true e other rest =
      let differ = ap (same_name name) (name_is known.load load e) ∙ other in
      rest ∙ not_else (same_name name known.load) (source_of known.source) (source_in all name) differ
  left_out name known all false e other rest =
      if_same (same_name name known.load) (source_of known.source) (source_in (others_of all) name) (source_in all name) rest

  same_others : (name : Name) (all : List Sourced) → same_name name load ≡ false → source_in (others_of all) name ≡ source_in all name
  same_others name [] other = refl
  same_others name (known ∷ all) other = left_out name known all (same_name known.load load) refl other (same_others name all other)

  put_at : (source : Source) (name : Name) (all : List Sourced) (b : Bool) → same_name name load ≡ b
      → (if b then Some source else source_in (others_of all) name) ≡ (if b then Some source else source_in all name)
  put_at source name all true e = refl
  put_at source name all false e = same_others name all e

  -- the new source stands first, and the load has no other
  pub put_is : (known : Sourced) (all : List Sourced) → known.load ≡ load → (name : Name)
      → source_in (known ∷ others_of all) name ≡ source_after load (source_of known.source) all name
  put_is known all is name =
      ap (λ (n : Name). if same_name name n then Some (source_of known.source) else source_in (others_of all) name) is
      ∙ put_at (source_of known.source) name all (same_name name load) refl

-- what a region is in which a load has a source
pub source_is : (old new : CodeRegion) (load : Name) (source : Source) → lists_in new.runs.items ≡ lists_in old.runs.items
    → ((name : Name) → source_in (arc_value new.sources) name ≡ source_after load source (arc_value old.sources) name)
    → arc_value new.orders ≡ arc_value old.orders → arc_value new.wanted ≡ arc_value old.wanted
    → region_of new ≡ with_source load source (region_of old)
source_is old new load source runs sources orders wanted =
    same_region (region_of new) (with_source load source (region_of old))
    (λ h. ap (λ lists. runs_of (at_hart lists h)) runs)
    sources
    (λ a b. ap (λ known. is_in_order known a b) orders)
    (ap all_wanted wanted)

pub order_is : (old new : CodeRegion) (first second : Name) → lists_in new.runs.items ≡ lists_in old.runs.items
    → arc_value new.sources ≡ arc_value old.sources
    → arc_value new.orders ≡ record { first = first; second = second } ∷ arc_value old.orders
    → arc_value new.wanted ≡ arc_value old.wanted
    → region_of new ≡ with_order first second (region_of old)
order_is old new first second runs sources orders wanted =
    same_region (region_of new) (with_order first second (region_of old))
    (λ h. ap (λ lists. runs_of (at_hart lists h)) runs)
    (λ n. ap (λ known. source_in known n) sources)
    (λ a b. ap (λ known. is_in_order known a b) orders)
    (ap all_wanted wanted)

pub wanted_is : (old new : CodeRegion) (wanted : List (Condition × Bool)) → lists_in new.runs.items ≡ lists_in old.runs.items
    → arc_value new.sources ≡ arc_value old.sources → arc_value new.orders ≡ arc_value old.orders
    → all_wanted (arc_value new.wanted) ≡ wanted
    → region_of new ≡ with_wanted wanted (region_of old)
wanted_is old new wanted runs sources orders same =
    same_region (region_of new) (with_wanted wanted (region_of old))
    (λ h. ap (λ lists. runs_of (at_hart lists h)) runs)
    (λ n. ap (λ known. source_in known n) sources)
    (λ a b. ap (λ known. is_in_order known a b) orders)
    same
