-- What is asked of each run of a hart, with all that is left of the other harts.
use Rattle.std.specs.Prelude.{◌≡◌, ℕ, ◌==◌, nat_lt, Bool, true, ◌&&◌, ◌||◌, not, Some, List, map, filter, length, slice_get, if◌then◌else◌}
use Rattle.std.specs.List.{list_all, list_any}
use Rattle.fs_kinds.specs.declared.reason.OperationName.{OperationName as Name}
use Rattle.fs_model.specs.declared.test.Test.{Test}
use Rattle.fs_model.specs.declared.step.Step.{Step}
use Rattle.fs_model.specs.Condition.{Condition}
use Rattle.fs_model.specs.Shows.{final_register}
use Rattle.fs_cert_evidence.specs.Regions.{Region, names, stored_at}
use Rattle.fs_cert_evidence.specs.Musts.{traces_of, has_truth, stores_such, may_end, may}
use Rattle.fs_cert_evidence.specs.Splits.{with_run}
use Rattle.fs_region_refutation.specs.declared.endings.Ending.{Ending}
use Rattle.fs_region_refutation.specs.declared.parted.Names.{Names}
use Rattle.fs_region_refutation.specs.declared.parted.Parted.{Parted}
use Rattle.fs_region_refutation.specs.Views.{accesses_at}

-- ---- names

abbrev pub of_hart : ℕ → List Name → List Name
of_hart hart = filter (λ a. a.hart == hart)

abbrev pub of_others : ℕ → List Name → List Name
of_others hart = filter (λ a. not (a.hart == hart))

-- it comes before no other
abbrev pub is_last : Test → Region → Name → Bool
is_last t region a = not (list_any (region.before a) (names t))

pub record IsParted (hart : ℕ) (all : List Name) (parted : Parted) : Type 0 where
  pub own : parted.own ≡ of_hart hart all
  pub others : parted.others ≡ of_others hart all

-- it stores at the location under one of these names
abbrev pub stores_there : List Name → ℕ → List Step → Bool
stores_there ns location run = list_any (λ a. accesses_at stored_at a.at location run) ns

-- no run stores there under these names of its hart
abbrev pub own_are_quiet : List (List Step) → List Name → ℕ → Bool
own_are_quiet runs ns location = not (list_any (stores_there ns location) runs)

-- the same of names of many harts
abbrev pub others_are_quiet : Region → List Name → ℕ → Bool
others_are_quiet region ns location =
    not (list_any (λ a. list_any (accesses_at stored_at a.at location) (region.runs a.hart)) ns)

-- of what is marked this is true
abbrev pub AreMarks : (ℕ → Bool) → List Bool → Type 0
AreMarks test marks = (location : ℕ) → slice_get marks location ≡ Some true → test location ≡ true

pub record AreNames (t : Test) (region : Region) (parted : Names) : Type 0 where
  pub all : IsParted parted.hart (names t) parted.all
  pub last : IsParted parted.hart (filter (is_last t region) (names t)) parted.last
  pub own : AreMarks (own_are_quiet (region.runs parted.hart) parted.all.own) parted.own_quiet.items
  pub others : AreMarks (others_are_quiet region parted.last.others) parted.others_quiet.items

-- ---- one run of a hart

-- the word is as wanted
abbrev pub is_ending : Ending → ℕ → Bool
is_ending ending word = has_truth ending.truth (word == ending.word)

-- it stores at the location under this name, which is a hart's
abbrev pub stores_under : Test → ℕ → List Step → Name → Bool
stores_under t location run a = nat_lt a.hart (length t.codes) && accesses_at stored_at a.at location run

-- The location may end so by what the run does: with the word that it begins with, where that may stay, unless the run
-- stores there; or with a word that it stores. The names are those of the hart's operations, and of the last ones.
abbrev pub ends_with : Test → ℕ → Ending → (begins : Bool) → (all last : List Name) → List Step → Bool
ends_with t location ending begins all last run =
    begins && not (list_any (stores_under t location run) all)
    || list_any (λ a. stores_such location (is_ending ending) a run) last

-- ---- truth values, one for each run

-- both, or one of the two
abbrev pub joins : Bool → Bool → Bool → Bool
joins at_once a b = if at_once then a && b else a || b

module _ (t : Test) (hart : ℕ) (region : Region) where
  -- the condition may have this truth value with this run of the hart
  abbrev pub may_with : Condition → Bool → List Step → Bool
  may_with condition truth run = may t (with_run hart run region) condition truth

  abbrev pub may_each : Condition → Bool → List Bool
  may_each condition truth = map (may_with condition truth) (region.runs hart)

  abbrev pub may_all_with : List (Condition × Bool) → List Step → Bool
  may_all_with wanted run = list_all (λ w. may_with w.0 w.1 run) wanted

  -- a register of this hart or of another one may end so
  abbrev pub registers_each : (own register : ℕ) → Ending → List Bool
  registers_each own register ending =
      map
      (λ run. list_any (λ one. is_ending ending (final_register t (traces_of t own one) own register)) ((with_run hart run region).runs own))
      (region.runs hart)

  -- the location may
  abbrev pub ends_each : ℕ → Ending → List Bool
  ends_each location ending = map (λ run. may_end t (with_run hart run region) location (is_ending ending)) (region.runs hart)
