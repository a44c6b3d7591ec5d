-- What the rules of preserved program order ask, said of lists of operations and of runs.
use Rattle.std.specs.Prelude.{ℕ, ◌+◌, ◌-◌, Bool, false, ◌&&◌, ◌||◌, not, List, [], slice_get}
use Rattle.std.specs.Prelude.{Option, Some, is_some, option_map, option_and_then, unwrap_or}
use Rattle.std.specs.List.{list_any, range_with_len}
use Rattle.fs_kinds.specs.declared.kind.Classes.{Classes}
use Rattle.fs_kinds.specs.declared.kind.Kind.{Kind}
use Rattle.fs_kinds.specs.declared.placement.Entry.{Entry}
use Rattle.fs_kinds.specs.Placement.{kind_at}
use Rattle.fs_model.specs.Slots.{slot_at}
use Rattle.fs_model.specs.declared.operation.Operation.{Operation}
use Rattle.fs_model.specs.declared.step.Step.{Step}
use Rattle.fs_model.specs.Forms.{is_amo, is_sc, annotation}
use Rattle.fs_model.specs.Numbers.{is_same, numbers_below, between}
use Rattle.fs_model.specs.Operations.{PreExecution, precedes, steps_of, instr_at, are_paired}
use Rattle.fs_model.specs.Fences.{instr_orders, kind_orders}
use Rattle.fs_model.specs.Dependencies.{address_depends, data_depends, control_depends}
use Rattle.fs_model.specs.Preserved.{Rule, rule, all_rules, Rule1, Rule2, Rule3, Rule4, Rule5, Rule6, Rule7, Rule8, Rule9}
use Rattle.fs_model.specs.Preserved.{Rule10, Rule11, Rule12, Rule13}
use Rattle.fs_model_axioms.specs.Among.{at, count_of_harts}
use Rattle.fs_model_axioms.specs.Ordered.{source_at}

abbrev pub classes_of : Operation → Classes
classes_of a = record { reads = is_some a.loaded; writes = is_some a.stored }

-- the run of an operation's hart
abbrev pub run_of : List (List Step) → Operation → List Step
run_of runs a = unwrap_or (option_map (steps_of runs) a.hart) []

-- ---- the parts of the rules

abbrev pub overlaps : Operation → Operation → Bool
overlaps a b = is_some b.stored && is_same a.address b.address

abbrev pub is_store_between : List Operation → (a b m : ℕ) → Bool
is_store_between operations a b m =
    precedes (at operations a) (at operations m) && precedes (at operations m) (at operations b)
    && (is_some (at operations m).stored && is_same (at operations m).address (at operations a).address)

abbrev pub any_store_between : List Operation → (a b : ℕ) → Bool
any_store_between operations a b = list_any (is_store_between operations a b) (numbers_below (count_of_harts operations))

abbrev pub reads_differ : List Operation → List (Option ℕ) → (a b : ℕ) → Bool
reads_differ operations sources a b =
    is_some (at operations a).loaded && is_some (at operations b).loaded
    && is_same (at operations a).address (at operations b).address
    && not (any_store_between operations a b) && not (is_same (source_at sources a) (source_at sources b))

abbrev pub returns_amo_or_sc : Operation → Operation → Option ℕ → ℕ → Bool
returns_amo_or_sc a b source number = (is_amo a.instr || is_sc a.instr) && is_some b.loaded && is_same source (Some number)

-- the placed fence right before step k of a run of the hart
abbrev pub placed_at : List Entry → Option ℕ → List Step → ℕ → Option Kind
placed_at p hart steps k = option_and_then (λ h. option_and_then (λ s. kind_at (slot_at h s.at) p) (slice_get steps k)) hart

-- a fence that is placed before a step after i and before j orders the operations
abbrev pub is_placed_between : List Entry → Operation → Operation → List Step → (i j : ℕ) → Bool
is_placed_between p a b steps i j =
    list_any (λ k. kind_orders (classes_of a) (classes_of b) (placed_at p a.hart steps k)) (between i j)

abbrev pub is_fenced : List Entry → List Step → Operation → Operation → Bool
is_fenced p steps a b =
    list_any (λ k. instr_orders (classes_of a) (classes_of b) (instr_at steps k)) (between a.place b.place)
    || is_placed_between p a b steps a.place (b.place + 1)

abbrev pub is_acquire : Operation → Bool
is_acquire a = (annotation a.instr).acquire

abbrev pub is_release : Operation → Bool
is_release a = (annotation a.instr).release

abbrev pub is_rcsc : Operation → Bool
is_rcsc a = is_acquire a || is_release a

-- step j has an address or data dependency on step i
abbrev pub depends_on : List Step → (i j : ℕ) → Bool
depends_on steps i j = address_depends steps i j || data_depends steps i j

-- m is a store between a and b that depends on a and is the source
abbrev pub passes_on : List Operation → List Step → Option ℕ → (a b m : ℕ) → Bool
passes_on operations steps source a b m =
    precedes (at operations a) (at operations m) && precedes (at operations m) (at operations b)
    && (is_some (at operations m).stored
    && depends_on steps (at operations a).place (at operations m).place
    && is_same source (Some m))

abbrev pub any_passes_on : List Operation → List Step → Option ℕ → (a b : ℕ) → Bool
any_passes_on operations steps source a b =
    list_any (passes_on operations steps source a b) (numbers_below (count_of_harts operations))

abbrev pub any_address_between : List Step → (i j : ℕ) → Bool
any_address_between steps i j = list_any (address_depends steps i) (between i j)

-- ---- the rules

module _ (operations : List Operation) (runs : List (List Step)) (p : List Entry) (sources : List (Option ℕ)) (a b : ℕ) where
  abbrev pub case_among : Rule → Bool
  case_among Rule1 = overlaps (at operations a) (at operations b)
  case_among Rule2 = reads_differ operations sources a b
  case_among Rule3 = returns_amo_or_sc (at operations a) (at operations b) (source_at sources b) a
  case_among Rule4 = is_fenced p (run_of runs (at operations a)) (at operations a) (at operations b)
  case_among Rule5 = is_acquire (at operations a)
  case_among Rule6 = is_release (at operations b)
  case_among Rule7 = is_rcsc (at operations a) && is_rcsc (at operations b)
  case_among Rule8 = are_paired (run_of runs (at operations a)) (at operations a).place (at operations b).place
  case_among Rule9 = address_depends (run_of runs (at operations a)) (at operations a).place (at operations b).place
  case_among Rule10 = data_depends (run_of runs (at operations a)) (at operations a).place (at operations b).place
  case_among Rule11 =
      is_some (at operations b).stored
      && control_depends (run_of runs (at operations a)) (at operations a).place (at operations b).place
  case_among Rule12 =
      is_some (at operations b).loaded
      && any_passes_on operations (run_of runs (at operations a)) (source_at sources b) a b
  case_among Rule13 =
      is_some (at operations b).stored
      && any_address_between (run_of runs (at operations a)) (at operations a).place (at operations b).place

  -- the same by the rule's number
  abbrev pub is_case : ℕ → Bool
  is_case n = unwrap_or (option_map case_among (slice_get all_rules (n - 1))) false

  -- and in program order
  abbrev pub rule_among : ℕ → Bool
  rule_among n = precedes (at operations a) (at operations b) && is_case n

  -- some rule holds of them
  abbrev pub any_rule : Bool
  any_rule = list_any rule_among (range_with_len 1 13)

-- rule number n of the manual holds of operations a and b; there are 13
abbrev pub is_rule : PreExecution → List Entry → (ℕ → Option ℕ) → (a b : ℕ) → (n : ℕ) → Bool
is_rule x p rf a b n = unwrap_or (option_map (rule x p rf a b) (slice_get all_rules (n - 1))) false
