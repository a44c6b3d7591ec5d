-- What must hold in all candidates of a region, and what may hold in some: a must is what the region shows by itself,
-- and a may is what it doesn't rule out.
use Rattle.std.specs.Prelude.{ℕ, ◌+◌, ◌==◌, nat_lt, Bool, true, false, ◌&&◌, ◌||◌, not, Option, None, Some, is_some, option_map, option_and_then, unwrap_or, List, [], map, length, slice_get, if◌then◌else◌}
use Rattle.std.specs.List.{find, list_all, list_any, position_or_len}
use Rattle.fs_kinds.specs.declared.placement.Entry.{Entry}
use Rattle.fs_kinds.specs.declared.reason.OperationName.{OperationName as Name}
use Rattle.fs_model.specs.declared.test.Test.{Test}
use Rattle.fs_model.specs.Condition.{Condition, Always, Never, RegisterIs, LocationIs, Deny, Both, Either}
use Rattle.fs_model.specs.Test.{address_of}
use Rattle.fs_model.specs.declared.step.Step.{Step}
use Rattle.fs_model.specs.Numbers.{is_same, numbers_below}
use Rattle.fs_model.specs.Operations.{PreExecution, accesses, operations}
use Rattle.fs_model.specs.Preserved.{Rule, Rule2, Rule8, rule}
use Rattle.fs_model.specs.Execution.{pre_execution, initial_words}
use Rattle.fs_model.specs.Shows.{final_register}
use Rattle.fs_model.specs.Witness.{name_of}
use Rattle.fs_cert_evidence.specs.Judged.{Cause, Preserved, ReadsFrom, Coherence, FromReads}
use Rattle.fs_cert_evidence.specs.Regions.{Region, Source, Initial, From, same_name, same_source, names, address_at, loaded_at, stored_at}

-- the store is before what a load returns from
abbrev pub is_before : Region → Name → Option Source → Bool
is_before region store None = false
is_before region store (Some Initial) = false
is_before region store (Some (From source)) = region.before store source

-- ---- one run by itself

-- the run of this hart, while the others do nothing: no rule of preserved program order looks at two harts
abbrev pub traces_of : Test → ℕ → List Step → List (List Step)
traces_of t hart run = map (λ h. if h == hart then run else []) (numbers_below (length t.codes))

abbrev pub alone : Test → ℕ → List Step → PreExecution
alone t hart run = pre_execution t (traces_of t hart run)

abbrev pub has_name : Option Name → Name → Bool
has_name None name = false
has_name (Some other) name = same_name other name

-- the number of the operation of this name, if there is one
abbrev pub number_of : PreExecution → Name → Option ℕ
number_of x name = find (λ a. has_name (name_of x a) name) (numbers_below (length (accesses x)))

-- both are there, and the test holds of them
abbrev pub holds_of : (ℕ → ℕ → Bool) → Option ℕ → Option ℕ → Bool
holds_of test None b = false
holds_of test (Some a) None = false
holds_of test (Some a) (Some b) = test a b

abbrev pub passes : (ℕ → Bool) → Option ℕ → Bool
passes test None = false
passes test (Some word) = test word

abbrev pub has_source : Option Source → Source → Bool
has_source None source = false
has_source (Some other) source = same_source other source

-- the run stores a word at the location that passes the test
abbrev pub stores_such : ℕ → (ℕ → Bool) → Name → List Step → Bool
stores_such location test name run =
    is_same (address_at run name.at) (Some (address_of location)) && passes test (stored_at run name.at)

-- what a test gives is this truth value
abbrev pub has_truth : Bool → Bool → Bool
has_truth true b = b
has_truth false b = not b

module _ (t : Test) (region : Region) where
  -- each run that is left of the hart passes the test
  abbrev pub in_each_run : ℕ → (List Step → Bool) → Bool
  in_each_run hart test = nat_lt hart (length t.codes) && list_all test (region.runs hart)

  -- ---- accesses; `access` is loaded_at or stored_at

  -- the operation is executed, and must access the location: load from it or store to it
  abbrev pub must_be : (access : List Step → ℕ → Option ℕ) → Name → (location : ℕ) → Bool
  must_be access name location =
      in_each_run name.hart
      (λ run. is_some (access run name.at) && is_same (address_at run name.at) (Some (address_of location)))

  -- two accesses are to one location
  abbrev pub must_meet : (first second : List Step → ℕ → Option ℕ) → Name → Name → Bool
  must_meet first second a b =
      list_any (λ location. must_be first a location && must_be second b location) (numbers_below (length t.locations))

  -- The store is later in coherence order than what the load returns from. The initial store of a location is the
  -- first one there.
  abbrev pub is_later_than : Name → Name → Option Source → Bool
  is_later_than store load None = false
  is_later_than store load (Some Initial) = must_meet loaded_at stored_at load store
  is_later_than store load (Some (From source)) = region.before source store

  -- the store is later than what the load returns from, in each candidate
  abbrev pub overwrites : Name → Name → Bool
  overwrites store load = is_later_than store load (region.source load)

  -- ---- edges of the judged relation

  -- Sources as the rules see them, which ask whether two are the same, and whether one is a certain operation of the
  -- run. A store of the run has its own number, and each other source one past the last.
  abbrev pub source_number : PreExecution → Source → ℕ
  source_number x Initial = length (operations x)
  source_number x (From store) =
      unwrap_or (number_of x store) (length (operations x) + 1 + position_or_len (same_name store) (names t))

  abbrev pub known_source : PreExecution → ℕ → Option ℕ
  known_source x a = option_map (source_number x) (option_and_then region.source (name_of x a))

  -- rule 2 asks for different sources, as which unknown ones would count; rules 3 and 12 ask for a certain one
  abbrev pub knows_enough : Rule → Name → Name → Bool
  knows_enough Rule2 a b = is_some (region.source a) && is_some (region.source b)
  knows_enough _ a b = true

  abbrev pub is_rule : List Entry → Rule → Name → Name → PreExecution → Bool
  is_rule p r a b x = holds_of (λ i j. rule x p (known_source x) i j r) (number_of x a) (number_of x b)

  -- both are executed, and the first must come before the second for this cause
  abbrev pub must : List Entry → Cause → Name → Name → Bool
  must p (Preserved r) a b =
      (a.hart == b.hart) && (knows_enough r a b && in_each_run a.hart (λ run. is_rule p r a b (alone t a.hart run)))
  must p ReadsFrom a b = not (a.hart == b.hart) && has_source (region.source b) (From a)
  must p Coherence a b = region.before a b
  must p FromReads a b = not (same_name a b) && overwrites b a

  -- the two are an lr.w and its sc.w, which succeeds: rule 8, to which fences are nothing
  abbrev pub must_pair : Name → Name → Bool
  must_pair load store = must [] (Preserved Rule8) load store

  -- ---- the outcome

  -- The location may end with a word that passes the test: with the one that it begins with, where nothing must be
  -- stored there; or with one that is stored by a store that comes before no other.
  abbrev pub may_end : ℕ → (ℕ → Bool) → Bool
  may_end location test =
      test (unwrap_or (slice_get (initial_words t) location) 0)
      && not (list_any (λ a. must_be stored_at a location) (names t))
      || list_any (λ a.
      not (list_any (region.before a) (names t))
      && list_any (stores_such location test a) (region.runs a.hart)) (names t)

  -- the condition may have this truth value
  abbrev pub may : Condition → Bool → Bool
  may Always v = v
  may Never v = not v
  may (RegisterIs hart reg word) v =
      list_any (λ run. has_truth v (final_register t (traces_of t hart run) hart reg == word)) (region.runs hart)
  may (LocationIs location word) v = may_end location (λ w. has_truth v (w == word))
  may (Deny c) v = may c (not v)
  may (Both c d) true = may c true && may d true
  may (Both c d) false = may c false || may d false
  may (Either c d) true = may c true || may d true
  may (Either c d) false = may c false && may d false
