-- Which kinds of contradictions are told.
use Rattle.std.specs.Prelude.{ℕ, ◌+◌, ◌*◌, ◌==◌, nat_le, nat_lt, Bool, true, false, ◌&&◌, ◌||◌, not, Option, None, Some, option_map, List, [], length, slice_get, take}
use Rattle.std.specs.List.{list_any, slice_index_or}
use Rattle.fs_model.specs.Numbers.{is_same}
use Rattle.fs_app_why.specs.declared.chain.Chain.{Chain}
use Rattle.fs_app_why.specs.declared.chain.ChainLink.{ChainLink}
use Rattle.fs_app_why.specs.declared.fences.Fence.{Fence}
use Rattle.fs_app_why.specs.declared.fences.Fence.TheVariants.{Placed, Written}
use Rattle.fs_app_why.specs.Kinds.{ChainKind, place_by}
use Rattle.fs_app_why.specs.declared.telling.Telling.{Telling}
use Rattle.fs_app_why.specs.declared.telling.Telling.TheVariants.{Few, All, One}

abbrev pub few_kinds : ℕ
few_kinds = 6

-- a number for the fence: its hart's, its place, and whether it is placed or written there
abbrev pub fence_key : Fence → ℕ
fence_key (Placed slot kind) = slot.hart * 1024 + slot.at * 2
fence_key (Written hart at) = hart * 1024 + (at * 2 + 1)

-- ---- those with a fence that none before them has

-- the least chain of a kind
abbrev pub least_chains : ChainKind → List Chain
least_chains kind = take 1 kind.instances

abbrev pub has_key : ℕ → Chain → Bool
has_key key chain = list_any (λ link. is_same (option_map fence_key link.fence) (Some key)) chain.links

abbrev pub is_key_among : ℕ → List ChainKind → Bool
is_key_among key kinds = list_any (λ kind. list_any (has_key key) (least_chains kind)) kinds

-- the link has a fence that none of these kinds has
abbrev pub is_new_by : List ChainKind → Option Fence → Bool
is_new_by kinds None = false
is_new_by kinds (Some fence) = not (is_key_among (fence_key fence) kinds)

abbrev pub has_new : List ChainKind → Chain → Bool
has_new kinds chain = list_any (λ link. is_new_by kinds link.fence) chain.links

abbrev pub is_new_after : (before : List ChainKind) → ChainKind → Bool
is_new_after before kind = list_any (has_new before) (least_chains kind)

-- the kind has a fence
abbrev pub has_fence : ChainKind → Bool
has_fence kind = is_new_after [] kind

-- ---- those with one fence: it is placed before this instruction, or it is this one

module _ (hart at : ℕ) where
  abbrev pub stands_there : Fence → Bool
  stands_there (Placed slot kind) = (slot.hart == hart) && (slot.at == at)
  stands_there (Written own place) = (own == hart) && (place == at)

  abbrev pub is_there : Option Fence → Bool
  is_there None = false
  is_there (Some fence) = stands_there fence

  -- it is told there, or it is needed there
  abbrev pub links_there : ChainLink → Bool
  links_there link = is_there link.fence || is_there link.sole

  abbrev pub has_there : Chain → Bool
  has_there chain = list_any links_there chain.links

-- ---- all

abbrev pub no_kind : ChainKind
no_kind = record { instances = []; ends = 0 }

abbrev pub kind_at : List ChainKind → ℕ → ChainKind
kind_at kinds number = slice_index_or kinds number no_kind

-- it is one of the first, and none has a fence
abbrev pub is_first_bare : List ChainKind → ℕ → Bool
is_first_bare kinds number = nat_lt number few_kinds && not (list_any has_fence kinds)

abbrev pub is_told_by : Telling → List ChainKind → ℕ → Bool
is_told_by Few kinds number =
    nat_le (length kinds) few_kinds
    || (is_new_after (take number kinds) (kind_at kinds number) || is_first_bare kinds number)
is_told_by All kinds number = true
is_told_by (One hart at) kinds number = list_any (has_there hart at) (kind_at kinds number).instances

-- the kind of this number, from 0
abbrev pub is_told : Telling → List ChainKind → ℕ → Bool
is_told telling kinds number = nat_lt number (length kinds) && is_told_by telling kinds number

-- which of the chains of a kind is told: the least, or the first with the fence
abbrev pub told_place : Telling → ChainKind → ℕ
told_place Few kind = 0
told_place All kind = 0
told_place (One hart at) kind = place_by (has_there hart at) kind.instances

abbrev pub told_chain : Telling → ChainKind → Option Chain
told_chain telling kind = slice_get kind.instances (told_place telling kind)
