-- The ends of a refutation as chains of operations, with what is so of these in each run that is left there.
use Rattle.std.specs.Prelude.{Bool, true, false, ◌&&◌, ◌==◌, nat_lt, Option, None, Some, List, [], ◌∷◌, map, slice_get}
use Rattle.std.specs.Prelude.{if◌then◌else◌}
use Rattle.std.specs.List.{flat_map}
use Rattle.fs_kinds.specs.declared.placement.Entry.{Entry}
use Rattle.fs_kinds.specs.declared.reason.OperationName.{OperationName as Name}
use Rattle.fs_model.specs.declared.test.Test.{Test}
use Rattle.fs_model.specs.Preserved as rule
use Rattle.fs_cert_evidence.specs.Certificate.{Inference, Link, Cycle, Stale, Reversed, Parted}
use Rattle.fs_cert_evidence.specs.Judged.{Cause, Preserved, ReadsFrom, Coherence, FromReads}
use Rattle.fs_cert_evidence.specs.declared.evidence.Cause.{Cause as CodeCause}
use Rattle.fs_cert_evidence.specs.declared.evidence.Cause.TheVariants as cause
use Rattle.fs_cert_evidence.specs.Regions.{Region, Source, Initial, From}
use Rattle.fs_app_why.specs.declared.chain.Arrow.{Arrow}
use Rattle.fs_app_why.specs.declared.chain.Arrow.TheVariants.{Because, Forgotten, Pair, End}
use Rattle.fs_app_why.specs.declared.chain.Chain.{Chain}
use Rattle.fs_app_why.specs.declared.chain.ChainLink.{ChainLink}
use Rattle.fs_app_why.specs.declared.chain.Leading.{Leading}
use Rattle.fs_app_why.specs.declared.chain.Shape.{Shape}
use Rattle.fs_app_why.specs.declared.chain.Shape.TheVariants as kind
use Rattle.fs_app_why.specs.declared.fences.Fence.{Fence}
use Rattle.fs_app_why.specs.Fences.{ordering}
use Rattle.fs_app_why.specs.Known.{known_of}

-- a cause as the code has it
abbrev pub code_cause : Cause → CodeCause
code_cause (Preserved rule.Rule1) = cause.Rule1
code_cause (Preserved rule.Rule2) = cause.Rule2
code_cause (Preserved rule.Rule3) = cause.Rule3
code_cause (Preserved rule.Rule4) = cause.Rule4
code_cause (Preserved rule.Rule5) = cause.Rule5
code_cause (Preserved rule.Rule6) = cause.Rule6
code_cause (Preserved rule.Rule7) = cause.Rule7
code_cause (Preserved rule.Rule8) = cause.Rule8
code_cause (Preserved rule.Rule9) = cause.Rule9
code_cause (Preserved rule.Rule10) = cause.Rule10
code_cause (Preserved rule.Rule11) = cause.Rule11
code_cause (Preserved rule.Rule12) = cause.Rule12
code_cause (Preserved rule.Rule13) = cause.Rule13
code_cause ReadsFrom = cause.ReadsFrom
code_cause Coherence = cause.Coherence
code_cause FromReads = cause.FromReads

-- the only one of them
abbrev pub sole_of : List Fence → Option Fence
sole_of [] = None
sole_of (fence ∷ []) = Some fence
sole_of (fence ∷ other ∷ others) = None

-- the operation of the first of these links; of none the first of all
abbrev pub next_of : (first : Name) → List Link → Name
next_of first [] = first
next_of first (link ∷ links) = link.operation

abbrev pub leading : Name → Arrow → (next : Name) → Leading
leading name arrow next = record { name = name; arrow = arrow; next = next }

-- the pair's store would come before what its load returns, which that comes after
abbrev pub reversed_by : (load store : Name) → Option Source → List Leading
reversed_by load store (Some (From source)) =
    leading store (Because cause.Coherence) source ∷ leading source (Because cause.ReadsFrom) load
    ∷ leading load (Because cause.Rule8) store ∷ []
reversed_by load store (Some Initial) =
    leading store (Because cause.Coherence) load ∷ leading load (Because cause.Rule8) store ∷ []
reversed_by load store None =
    leading store (Because cause.Coherence) load ∷ leading load (Because cause.Rule8) store ∷ []

abbrev pub reversed_steps : Region → (load store : Name) → List Leading
reversed_steps region load store = reversed_by load store (region.source load)

abbrev pub parted_steps : (load store other : Name) → List Leading
parted_steps load store other =
    leading load (Because cause.FromReads) other ∷ leading other (Because cause.Coherence) store
    ∷ leading store (Pair load) store ∷ []

abbrev pub stale_steps : (load store : Name) → List Leading
stale_steps load store = leading store Forgotten load ∷ leading load End load ∷ []

abbrev pub is_from_reads : Cause → Bool
is_from_reads FromReads = true
is_from_reads cause = false

-- does the link go to an own store that stands before its load in the code?
abbrev pub goes_back : Link → (next : Name) → Bool
goes_back link next =
    is_from_reads link.cause && ((next.hart == link.operation.hart) && nat_lt next.at link.operation.at)

-- the first of these links that does, with that store: its load is stale, whatever the other links are
abbrev pub stale_in : (first : Name) → List Link → Option (Name × Name)
stale_in first [] = None
stale_in first (link ∷ links) =
    if goes_back link (next_of first links) then Some (link.operation, next_of first links) else stale_in first links

abbrev pub stale_of : List Link → Option (Name × Name)
stale_of [] = None
stale_of (link ∷ links) = stale_in link.operation (link ∷ links)

module _ (t : Test) (p : List Entry) (region : Region) where
  -- the fences to which an arrow is due: those of rule 4
  abbrev pub due : Arrow → Name → Name → List Fence
  due (Because cause.Rule4) name next = ordering t p (region.runs name.hart) name next
  due arrow name next = []

  abbrev pub link_of : Name → Arrow → (next : Name) → ChainLink
  link_of name arrow next = record {
    name = name;
    next = next;
    known = known_of region name;
    arrow = arrow;
    fence = slice_get (due arrow name next) 0;
    sole = sole_of (due arrow name next);
  }

  -- the links from these operations on; behind the last of them comes the first of all
  abbrev pub links_to : (first : Name) → List Link → List ChainLink
  links_to first [] = []
  links_to first (link ∷ links) =
      link_of link.operation (Because (code_cause link.cause)) (next_of first links) ∷ links_to first links

  abbrev pub cycle_links : List Link → List ChainLink
  cycle_links [] = []
  cycle_links (link ∷ links) = links_to link.operation (link ∷ links)

  abbrev pub step_link : Leading → ChainLink
  step_link step = link_of step.name step.arrow step.next

  abbrev pub chain_by : Shape → List Leading → Chain
  chain_by shape steps = record { shape = shape; links = map step_link steps }

  -- a cycle is told as the stale load that it has, if it has one
  abbrev pub cycle_chain : Option (Name × Name) → List Link → Chain
  cycle_chain (Some (load, store)) links = chain_by kind.Stale (stale_steps load store)
  cycle_chain None links = record { shape = kind.Cycle; links = cycle_links links }

  -- the chain of an end; of other inferences none
  abbrev pub chain_of : Inference → List Chain
  chain_of (Cycle links) = cycle_chain (stale_of links) links ∷ []
  chain_of (Stale load store) = chain_by kind.Stale (stale_steps load store) ∷ []
  chain_of (Reversed load store) = chain_by kind.Cycle (reversed_steps region load store) ∷ []
  chain_of (Parted load store other) = chain_by kind.NotAtomic (parted_steps load store other) ∷ []
  chain_of other = []

module _ (t : Test) (p : List Entry) where
  abbrev pub end_chains : Region × Inference → List Chain
  end_chains (region, inference) = chain_of t p region inference

  -- of ends
  abbrev pub chains_of : List (Region × Inference) → List Chain
  chains_of ended = flat_map end_chains ended
