-- How a region is split into smaller ones, of which each showing candidate of the region is in one.
use Rattle.std.specs.Prelude.{ℕ, ◌+◌, ◌==◌, nat_lt, Bool, true, false, ◌&&◌, ◌||◌, not, Option, None, Some, List, [], ◌∷◌, ◌++◌, map, filter, take, drop, slice_get, if◌then◌else◌}
use Rattle.std.specs.List.{enumerate_from, list_all, list_any}
use Rattle.fs_kinds.specs.declared.reason.OperationName.{OperationName as Name}
use Rattle.fs_model.specs.declared.test.Test.{Test}
use Rattle.fs_model.specs.Condition.{Condition, Deny, Both, Either}
use Rattle.fs_model.specs.Test.{address_of}
use Rattle.fs_model.specs.declared.step.Step.{Step}
use Rattle.fs_model.specs.declared.step.Choice.{Choice}
use Rattle.fs_model.specs.declared.step.Choice.TheVariants.{Word, Success, Failure}
use Rattle.fs_model.specs.Numbers.{is_same}
use Rattle.fs_model.specs.Choices.{choice_by}
use Rattle.fs_model.specs.Execution.{initial_words}
use Rattle.fs_cert_evidence.specs.Regions.{Region, Source, Initial, From, same_name, same_source, names, step_at, address_at, loaded_at, stored_at, loads_at}
use Rattle.fs_cert_evidence.specs.Musts.{may}

-- ---- what regions differ in

-- of the hart's runs those that pass the test
abbrev pub keep : ℕ → (List Step → Bool) → Region → Region
keep hart test region = record {
  runs = λ h. if h == hart then filter test (region.runs h) else region.runs h;
  source = region.source;
  before = region.before;
  wanted = region.wanted;
}

abbrev pub with_source : Name → Source → Region → Region
with_source load source region = record {
  runs = region.runs;
  source = λ name. if same_name name load then Some source else region.source name;
  before = region.before;
  wanted = region.wanted;
}

abbrev pub with_order : Name → Name → Region → Region
with_order first second region = record {
  runs = region.runs;
  source = region.source;
  before = λ a b. same_name a first && same_name b second || region.before a b;
  wanted = region.wanted;
}

abbrev pub with_wanted : List (Condition × Bool) → Region → Region
with_wanted wanted region =
    record { runs = region.runs; source = region.source; before = region.before; wanted = wanted }

-- ---- by what a run chooses at a name

-- A number for what the run chooses at a position. Words rise, and success comes before failure, as in choice order;
-- first comes a run that doesn't execute the instruction.
abbrev pub choice_number : Option Choice → ℕ
choice_number None = 1
choice_number (Some Success) = 1
choice_number (Some Failure) = 2
choice_number (Some (Word word)) = word + 1

abbrev pub step_number : Option Step → ℕ
step_number None = 0
step_number (Some s) = choice_number (choice_by s.instr s)

abbrev pub chosen_at : ℕ → List Step → ℕ
chosen_at at run = step_number (step_at run at)

-- the numbers of a list, each once and rising
abbrev pub insert : ℕ → List ℕ → List ℕ
insert n [] = n ∷ []
insert n (m ∷ ms) = if nat_lt n m then n ∷ m ∷ ms else if n == m then m ∷ ms else m ∷ insert n ms

abbrev pub rising : List ℕ → List ℕ
rising [] = []
rising (n ∷ ns) = insert n (rising ns)

-- a region for each choice that some run makes there
abbrev pub by_choice : Name → Region → List Region
by_choice name region =
    map (λ n. keep name.hart (λ run. chosen_at name.at run == n) region)
    (rising (map (chosen_at name.at) (region.runs name.hart)))

-- ---- by what a load returns from

-- the load of one run has the address and the word of the store of another, or of the same
abbrev pub agree : List Step → Name → List Step → Name → Bool
agree run load other store =
    is_same (address_at run load.at) (address_at other store.at)
    && is_same (loaded_at run load.at) (stored_at other store.at)

-- the load has the word that its location begins with
abbrev pub agrees_initially : Test → Name → List Step → Bool
agrees_initially t load run =
    list_any (λ numbered.
    is_same (address_at run load.at) (Some (address_of numbered.0))
    && is_same (loaded_at run load.at) (Some numbered.1)) (enumerate_from 0 (initial_words t))

-- a store of the load's own hart precedes it: else a showing candidate returns from another
abbrev pub can_be_source : Name → Name → Bool
can_be_source load store = not (store.hart == load.hart) || nat_lt store.at load.at

-- the load returns from this store: of one hart the two agree in the hart's run, of two harts with some run of the
-- other
abbrev pub from_store : Name → Region → Name → Region
from_store load region store =
    with_source load (From store)
    (if store.hart == load.hart
    then keep load.hart (λ run. agree run load run store) region
    else keep load.hart (λ run. list_any (λ other. agree run load other store) (region.runs store.hart))
    (keep store.hart (λ other. list_any (λ run. agree run load other store) (region.runs load.hart)) region))

abbrev pub from_initial : Test → Name → Region → Region
from_initial t load region = with_source load Initial (keep load.hart (agrees_initially t load) region)

abbrev pub from_nothing : Name → Region → Region
from_nothing load region = keep load.hart (λ run. not (loads_at run load.at)) region

abbrev pub from_source : Test → Name → Region → Source → Region
from_source t load region Initial = from_initial t load region
from_source t load region (From store) = from_store load region store

-- the source is the one that is known, if one is
abbrev pub is_left : Option Source → Source → Bool
is_left None source = true
is_left (Some known) source = same_source known source

abbrev pub sources_for : Test → Name → Region → List Source
sources_for t load region =
    filter (is_left (region.source load)) (Initial ∷ map From (filter (can_be_source load) (names t)))

-- The load isn't executed; or it returns from one of these. Where its source is known, this drops the runs that no
-- longer agree with what has been dropped since.
abbrev pub by_source : Test → Name → Region → List Region
by_source t load region = from_nothing load region ∷ map (from_source t load region) (sources_for t load region)

-- ---- by the order of two stores

abbrev pub by_order : Name → Name → Region → List Region
by_order first second region = with_order first second region ∷ with_order second first region ∷ []

-- ---- by cases of a condition

-- the ways in which its parts give the condition a truth value; none of an atom
abbrev pub ways : Condition → Bool → List (List (Condition × Bool))
ways (Deny c) v = ((c, not v) ∷ []) ∷ []
ways (Both c d) true = ((c, true) ∷ (d, true) ∷ []) ∷ []
ways (Both c d) false = ((c, false) ∷ []) ∷ ((d, false) ∷ []) ∷ []
ways (Either c d) true = ((c, true) ∷ []) ∷ ((d, true) ∷ []) ∷ []
ways (Either c d) false = ((c, false) ∷ (d, false) ∷ []) ∷ []
ways _ v = []

abbrev pub ways_of : Option (Condition × Bool) → List (List (Condition × Bool))
ways_of None = []
ways_of (Some (condition, v)) = ways condition v

-- in the place of the wanted condition of this number stand its parts
abbrev pub by_cases : ℕ → Region → List Region
by_cases k region =
    map (λ way. with_wanted (take k region.wanted ++ way ++ drop (k + 1) region.wanted) region)
    (ways_of (slice_get region.wanted k))

-- ---- by the outcome

abbrev pub with_run : ℕ → List Step → Region → Region
with_run hart run region = record {
  runs = λ h. if h == hart then run ∷ [] else region.runs h;
  source = region.source;
  before = region.before;
  wanted = region.wanted;
}

-- the hart's runs with each of which every wanted condition may have its truth value
abbrev pub by_outcome : Test → ℕ → Region → List Region
by_outcome t hart region =
    keep hart (λ run. list_all (λ wanted. may t (with_run hart run region) wanted.0 wanted.1) region.wanted) region
    ∷ []
