-- Kinds of chains: those that are the same but for the harts are one.
use Rattle.std.specs.Prelude.{ℕ, ◌+◌, ◌-◌, ◌*◌, ◌==◌, nat_lt, Bool, false, ◌&&◌, ◌||◌, not, Option, None, Some, unwrap_or, List, [], ◌∷◌, ◌++◌, drop, fold, length, min, slice_set, take, if◌then◌else◌}
use Rattle.std.specs.List.{insert, list_all, list_any, position, slice_index_or, zip}
use Rattle.std.specs.Option.{option_or}
use Rattle.std.specs.Str.{bytes_eq}
use Rattle.fs_kinds.specs.declared.reason.OperationName.{OperationName as Name}
use Rattle.fs_model.specs.Numbers.{numbers_below}
use Rattle.fs_cert_evidence.specs.Regions.{same_name}
use Rattle.fs_cert_evidence.specs.declared.evidence.Cause.{Cause}
use Rattle.fs_cert_evidence.specs.declared.evidence.Cause.TheVariants.{Rule1, Rule2, Rule3, Rule4, Rule5, Rule6, Rule7, Rule8, Rule9, Rule10, Rule11, Rule12, Rule13, ReadsFrom, Coherence, FromReads}
use Rattle.fs_app_why.specs.declared.chain.Arrow.{Arrow}
use Rattle.fs_app_why.specs.declared.chain.Arrow.TheVariants.{Because, Forgotten, Pair, End}
use Rattle.fs_app_why.specs.declared.chain.Chain.{Chain}
use Rattle.fs_app_why.specs.declared.chain.ChainLink.{ChainLink}
use Rattle.fs_app_why.specs.declared.chain.Shape.{Shape}
use Rattle.fs_app_why.specs.declared.chain.Shape.TheVariants as shape
use Rattle.fs_app_why.specs.declared.fences.Fence.{Fence}
use Rattle.fs_app_why.specs.declared.fences.Fence.TheVariants.{Placed, Written}
use Rattle.fs_app_why.specs.declared.likeness.Order.{Order}
use Rattle.fs_app_why.specs.declared.likeness.Order.TheVariants as order
use Rattle.fs_app_why.specs.declared.known.Known.{Known}

-- ---- the order of operations, and of arrows

abbrev pub name_number : Name → ℕ
name_number name = name.hart * 256 + name.at

abbrev pub is_lesser : Name → Name → Bool
is_lesser a b = nat_lt (name_number a) (name_number b)

abbrev pub rank : Cause → ℕ
rank Rule4 = 0
rank Rule5 = 1
rank Rule6 = 2
rank Rule7 = 3
rank Rule8 = 4
rank Rule1 = 5
rank Rule2 = 6
rank Rule3 = 7
rank Rule9 = 8
rank Rule10 = 9
rank Rule11 = 10
rank Rule12 = 11
rank Rule13 = 12
rank ReadsFrom = 13
rank Coherence = 14
rank FromReads = 15

-- the load of a pair is the first operation of its chain, so it needs no number of its own
abbrev pub arrow_number : Arrow → ℕ
arrow_number (Because cause) = rank cause
arrow_number Forgotten = 16
arrow_number (Pair load) = 17
arrow_number End = 18

abbrev pub shape_number : Shape → ℕ
shape_number shape.Cycle = 0
shape_number shape.Stale = 1
shape_number shape.NotAtomic = 2

-- ---- a cycle from its least operation on

abbrev pub is_least_of : List ChainLink → ChainLink → Bool
is_least_of links link = list_all (λ other. not (is_lesser other.name link.name)) links

abbrev pub least : List ChainLink → ℕ
least links = unwrap_or (position (is_least_of links) links) 0

abbrev pub turned : ℕ → List ChainLink → List ChainLink
turned k links = drop k links ++ take k links

abbrev pub normal_links : Shape → List ChainLink → List ChainLink
normal_links shape.Cycle links = turned (least links) links
normal_links other links = links

abbrev pub normal : Chain → Chain
normal chain = record { shape = chain.shape; links = normal_links chain.shape chain.links }

-- ---- from where it is told: what overwrites comes last, of a value that was read (fr) or else of a store (co)

abbrev pub is_for : Cause → ChainLink → Bool
is_for cause link = arrow_number link.arrow == rank cause

-- for each of the links the one before it, that of the first being the last
abbrev pub before_each : List ChainLink → List ChainLink
before_each links = turned (length links - 1) links

-- the first link to which one of this cause leads
abbrev pub behind : Cause → List ChainLink → Option ℕ
behind cause links = position (is_for cause) (before_each links)

-- where there is neither the first of all
abbrev pub start : List ChainLink → ℕ
start links = unwrap_or (option_or (behind FromReads links) (behind Coherence links)) 0

abbrev pub told_by : Shape → List ChainLink → List ChainLink
told_by shape.Cycle links = turned (start links) links
told_by other links = links

abbrev pub told_links : Chain → List ChainLink
told_links chain = told_by chain.shape chain.links

-- ---- the same chain

abbrev pub is_same_link : ChainLink × ChainLink → Bool
is_same_link (a, b) = same_name a.name b.name && (arrow_number a.arrow == arrow_number b.arrow)

abbrev pub have_one_form : Chain → Chain → Bool
have_one_form first second =
    (shape_number first.shape == shape_number second.shape) && (length first.links == length second.links)

-- of two chains each of which is from its least operation on
abbrev pub are_same : Chain → Chain → Bool
are_same first second = have_one_form first second && list_all is_same_link (zip first.links second.links)

-- how many links there are from which a chain of n may be told
abbrev pub turns : Shape → ℕ → ℕ
turns shape.Cycle n = n
turns other n = min 1 n

-- two links of the first chain are of one hart where those of the second are
abbrev pub share_harts : (x y : ChainLink × ChainLink) → Bool
share_harts (a, b) (c, d) =
    (a.name.hart == c.name.hart) && (b.name.hart == d.name.hart)
    || not (a.name.hart == c.name.hart) && not (b.name.hart == d.name.hart)

-- ---- the same but for the harts; `texts` has the instructions in print, hart by hart

module _ (texts : List (List (List ℕ))) where
  abbrev pub text_at : Name → List ℕ
  text_at name = slice_index_or (slice_index_or texts name.hart []) name.at []

  abbrev pub is_like_link : ChainLink × ChainLink → Bool
  is_like_link (a, b) =
      (a.name.at == b.name.at)
      && ((arrow_number a.arrow == arrow_number b.arrow) && bytes_eq (text_at a.name) (text_at b.name))

  -- one renaming of harts makes the second of the first
  abbrev pub is_renamed : List (ChainLink × ChainLink) → Bool
  is_renamed pairs =
      list_all is_like_link pairs && list_all (λ x. list_all (share_harts x) pairs) pairs

  abbrev pub are_alike : Chain → Chain → Bool
  are_alike first second =
      have_one_form first second
      && list_any (λ k. is_renamed (zip first.links (turned k second.links))) (numbers_below (turns second.shape (length second.links)))

-- ---- which comes first: the shorter one, or else the one that has the lesser operation, or else the lesser arrow,
-- where they first differ

abbrev pub number_by : Order → ChainLink → ℕ
number_by order.Names link = name_number link.name
number_by order.Arrows link = arrow_number link.arrow

-- whether the first list has the lesser number where they first differ, if they do
abbrev pub is_lesser_by : Order → List ChainLink → List ChainLink → Option Bool
is_lesser_by by (a ∷ first) (b ∷ second) =
    if number_by by a == number_by by b then is_lesser_by by first second
    else Some (nat_lt (number_by by a) (number_by by b))
is_lesser_by by first second = None

abbrev pub is_less_links : List ChainLink → List ChainLink → Bool
is_less_links first second =
    unwrap_or (option_or (is_lesser_by order.Names first second) (is_lesser_by order.Arrows first second)) false

abbrev pub is_less : Chain → Chain → Bool
is_less first second =
    nat_lt (length first.links) (length second.links)
    || (length first.links == length second.links) && is_less_links first.links second.links

-- ---- what is known of the links of both of two chains that are the same

abbrev pub met_word : Option ℕ → Option ℕ → Option ℕ
met_word (Some a) (Some b) = if a == b then Some a else None
met_word a b = None

abbrev pub met_known : Known → Known → Known
met_known a b = record {
  address = met_word a.address b.address;
  loaded = met_word a.loaded b.loaded;
  stored = met_word a.stored b.stored;
  is_initial = a.is_initial && b.is_initial;
}

-- as numbers of the fences of one hart
abbrev pub fence_number : Fence → ℕ
fence_number (Placed slot kind) = slot.at * 2
fence_number (Written hart at) = at * 2 + 1

abbrev pub met_fence : Option Fence → Option Fence → Option Fence
met_fence (Some a) (Some b) = if fence_number a == fence_number b then Some a else None
met_fence a b = None

abbrev pub either_fence : Option Fence → Option Fence → Option Fence
either_fence (Some a) b = Some a
either_fence None b = b

-- a fence that alone orders the two at one end of the refutation is needed there
abbrev pub met_link : ChainLink → ChainLink → ChainLink
met_link a b = record {
  name = a.name;
  next = a.next;
  known = met_known a.known b.known;
  arrow = a.arrow;
  fence = met_fence a.fence b.fence;
  sole = either_fence a.sole b.sole;
}

abbrev pub met_links : List ChainLink → List ChainLink → List ChainLink
met_links (a ∷ first) (b ∷ second) = met_link a b ∷ met_links first second
met_links first second = []

abbrev pub met : Chain → Chain → Chain
met first second = record { shape = first.shape; links = met_links first.links second.links }

-- ---- kinds

-- chains that are the same but for the harts, each once, and how many ends they are
pub record ChainKind : Type 0 where
  pub instances : List Chain
  pub ends : ℕ

-- the chains of a kind, each once, the least first
abbrev pub place_by : {X : Type 0} → (X → Bool) → List X → ℕ
place_by test xs = unwrap_or (position test xs) (length xs)

abbrev pub put_by : List Chain → Chain → Option ℕ → List Chain
put_by chains chain (Some k) = slice_set chains k (met (slice_index_or chains k chain) chain)
put_by chains chain None = insert chains (place_by (is_less chain) chains) chain

-- what is known of it goes to what is known of the same chain
abbrev pub put : List Chain → Chain → List Chain
put chains chain = put_by chains chain (position (λ other. are_same other chain) chains)

-- counted up to what a number of the machine holds
abbrev pub one_more : ℕ → ℕ
one_more ends = if nat_lt ends 18446744073709551615 then ends + 1 else ends

abbrev pub with_chain : ChainKind → Chain → ChainKind
with_chain kind chain = record { instances = put kind.instances chain; ends = one_more kind.ends }

abbrev pub kind_of : Chain → ChainKind
kind_of chain = record { instances = chain ∷ []; ends = 1 }

module _ (texts : List (List (List ℕ))) where
  abbrev pub is_of : Chain → ChainKind → Bool
  is_of chain kind = list_any (λ other. are_alike texts other chain) (take 1 kind.instances)

  abbrev pub add_at : List ChainKind → Chain → (k : ℕ) → List ChainKind
  add_at kinds chain k =
      if nat_lt k (length kinds) then slice_set kinds k (with_chain (slice_index_or kinds k (kind_of chain)) chain)
      else kinds ++ kind_of chain ∷ []

  abbrev pub add : List ChainKind → Chain → List ChainKind
  add kinds chain = add_at kinds (normal chain) (place_by (is_of (normal chain)) kinds)

  -- of chains in their order
  abbrev pub unsorted : List Chain → List ChainKind
  unsorted chains = fold add [] chains

-- with more ends, or else with fewer links and lesser operations
abbrev pub is_first_less : List Chain → List Chain → Bool
is_first_less (a ∷ others) (b ∷ more) = is_less a b
is_first_less others more = false

abbrev pub is_told_before : ChainKind → ChainKind → Bool
is_told_before a b = nat_lt b.ends a.ends || (a.ends == b.ends) && is_first_less a.instances b.instances

abbrev pub put_kind : List ChainKind → ChainKind → List ChainKind
put_kind kinds kind = insert kinds (place_by (is_told_before kind) kinds) kind

abbrev pub sorted : List ChainKind → List ChainKind
sorted kinds = fold put_kind [] kinds

-- the kinds of chains, in the order in which they are told
abbrev pub kinds_of : (texts : List (List (List ℕ))) → List Chain → List ChainKind
kinds_of texts chains = sorted (unsorted texts chains)
