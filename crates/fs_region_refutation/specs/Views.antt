-- What the code's regions and inferences stand for.
use Rattle.std.specs.Prelude.{◌≡◌, ℕ, ◌==◌, Bool, ◌&&◌, Option, Some, None, is_some, option_map, List, [], ◌∷◌, map, if◌then◌else◌, All}
use Rattle.std.specs.List.{list_any, slice_index_or}
use Rattle.std.specs.Borrow.{Bor}
use Rattle.std.specs.Arc.{arc_value}
use Rattle.std.specs.declared.sync.Arc.{Arc}
use Rattle.fs_kinds.specs.declared.reason.OperationName.{OperationName as Name}
use Rattle.fs_model.specs.declared.test.Test.{Test}
use Rattle.fs_model.specs.declared.step.Step.{Step}
use Rattle.fs_model.specs.Condition.{Condition, condition_of}
use Rattle.fs_model.specs.Numbers.{is_same}
use Rattle.fs_model.specs.Test.{address_of}
use Rattle.fs_cert_evidence.specs.Regions.{Region, Source, same_name, address_at, loaded_at, stored_at}
use Rattle.fs_region_refutation.specs.declared.source.Source.{Source as CodeSource}
use Rattle.fs_region_refutation.specs.Alone.{RunOf, source_of}
use Rattle.fs_region_refutation.specs.declared.musts.Access.{Access}
use Rattle.fs_region_refutation.specs.declared.musts.Access.TheVariants.{Load, Store}
use Rattle.fs_region_refutation.specs.declared.region.Sourced.{Sourced}
use Rattle.fs_region_refutation.specs.declared.region.Ordered.{Ordered}
use Rattle.fs_region_refutation.specs.declared.region.Wanted.{Wanted}
use Rattle.fs_region_refutation.specs.declared.region.Region.{Region as CodeRegion}

-- ---- runs

-- the steps of runs
abbrev pub runs_of : List (Bor RunOf) → List (List Step)
runs_of = map (λ run. run.now.steps)

-- runs of one hart of the test
abbrev pub AreRunsOf : Test → ℕ → List (Bor RunOf) → Type 0
AreRunsOf t hart = All (λ run. (run.now.test ≡ t) × (run.now.hart ≡ hart))

module _ {A : Type 0} where
  abbrev pub lists_in : List (Arc (List (Bor RunOf)) A) → List (List (Bor RunOf))
  lists_in = map arc_value

-- of lists for each hart the hart's
abbrev pub at_hart : List (List (Bor RunOf)) → ℕ → List (Bor RunOf)
at_hart lists hart = slice_index_or lists hart []

-- ---- what is known

abbrev pub known_source : Option CodeSource → Option Source
known_source = option_map source_of

abbrev pub source_in : List Sourced → Name → Option Source
source_in [] name = None
source_in (known ∷ others) name = if same_name name known.load then Some (source_of known.source) else source_in others name

-- the same, but of this load it is this one
abbrev pub source_after : Name → Source → List Sourced → Name → Option Source
source_after load source known name = if same_name name load then Some source else source_in known name

abbrev pub is_in_order : List Ordered → Name → Name → Bool
is_in_order orders first second = list_any (λ known. same_name first known.first && same_name second known.second) orders

abbrev pub wanted_of : Wanted → Condition × Bool
wanted_of wanted = (condition_of wanted.condition.now, wanted.truth)

abbrev pub all_wanted : List Wanted → List (Condition × Bool)
all_wanted = map wanted_of

-- ---- regions

-- the runs of the hart that are left
abbrev pub list_at : CodeRegion → ℕ → List (Bor RunOf)
list_at region = at_hart (lists_in region.runs.items)

abbrev pub region_of : CodeRegion → Region
region_of region = record {
  runs = λ hart. runs_of (list_at region hart);
  source = source_in (arc_value region.sources);
  before = is_in_order (arc_value region.orders);
  wanted = all_wanted (arc_value region.wanted);
}

-- two regions share all but runs
pub record Shares (old new : CodeRegion) : Type 0 where
  pub sources : arc_value new.sources ≡ arc_value old.sources
  pub orders : arc_value new.orders ≡ arc_value old.orders
  pub wanted : arc_value new.wanted ≡ arc_value old.wanted

abbrev pub regions_of : List CodeRegion → List Region
regions_of = map region_of

-- with these runs of the hart
abbrev pub with_runs : ℕ → List (List Step) → Region → Region
with_runs hart runs region = record {
  runs = λ h. if h == hart then runs else region.runs h;
  source = region.source;
  before = region.before;
  wanted = region.wanted;
}

-- the runs of each hart are the test's and the hart's
abbrev pub IsOf : Test → CodeRegion → Type 0
IsOf t region = (hart : ℕ) → AreRunsOf t hart (list_at region hart)

abbrev pub AreOf : Test → List CodeRegion → Type 0
AreOf t = All (IsOf t)

-- ---- accesses

abbrev pub access_of : Access → List Step → ℕ → Option ℕ
access_of Load = loaded_at
access_of Store = stored_at

abbrev pub accesses_at : (List Step → ℕ → Option ℕ) → ℕ → ℕ → List Step → Bool
accesses_at access at location run = is_some (access run at) && is_same (address_at run at) (Some (address_of location))
