-- How many kinds aren't told, and in which a fence is needed.
use Rattle.std.specs.Prelude.{ℕ, ◌+◌, ◌==◌, nat_lt, Bool, true, false, ◌&&◌, ◌||◌, not, Option, None, Some, option_map}
use Rattle.std.specs.Prelude.{List, [], ◌∷◌, ◌++◌, length, codes, count_by, if◌then◌else◌}
use Rattle.std.specs.Fmt.{decimal}
use Rattle.std.specs.List.{flat_map, list_any}
use Rattle.fs_model.specs.Numbers.{is_same, numbers_below}
use Rattle.fs_app_why.specs.declared.chain.Chain.{Chain}
use Rattle.fs_app_why.specs.Kinds.{ChainKind}
use Rattle.fs_app_why.specs.declared.telling.Telling.{Telling}
use Rattle.fs_app_why.specs.Told.{fence_key, has_fence, is_told, kind_at, told_chain}
use Rattle.fs_app_why.specs.InstructionWords.{and_joined}

-- ---- those that aren't told

module _ (telling : Telling) (kinds : List ChainKind) where
  abbrev pub is_untold : ℕ → Bool
  is_untold number = not (is_told telling kinds number)

  abbrev pub is_bare : ℕ → Bool
  is_bare number = nat_lt number (length kinds) && (not (is_told telling kinds number) && not (has_fence (kind_at kinds number)))

abbrev pub kinds_text : ℕ → List ℕ
kinds_text count = decimal count ++ (if count == 1 then codes " more kind" else codes " more kinds")

abbrev pub verb_text : (untold : ℕ) → List ℕ
verb_text untold = if untold == 1 then codes " isn't told" else codes " aren't told"

-- where all of them are without a fence, or some
abbrev pub all_bare_text : (untold bare : ℕ) → List ℕ
all_bare_text untold bare = if bare == untold then codes " without a fence" else []

abbrev pub bare_text : (untold bare : ℕ) → List ℕ
bare_text untold bare =
    if (bare == 0) || (bare == untold) then [] else codes ", " ++ (decimal bare ++ codes " of them without a fence")

abbrev pub rest_by : (untold bare : ℕ) → List ℕ
rest_by untold bare =
    if untold == 0 then []
    else codes "\n" ++ (kinds_text untold ++ (all_bare_text untold bare ++ (verb_text untold
    ++ (bare_text untold bare ++ codes ": --why=all\n"))))

abbrev pub rest_text : Telling → List ChainKind → List ℕ
rest_text telling kinds =
    rest_by (count_by (is_untold telling kinds) (numbers_below (length kinds)))
    (count_by (is_bare telling kinds) (numbers_below (length kinds)))

-- ---- in which of them a fence is needed: where it alone orders two operations in all runs that are left

abbrev pub is_sole_in : (key : ℕ) → Chain → Bool
is_sole_in key chain = list_any (λ link. is_same (option_map fence_key link.sole) (Some key)) chain.links

abbrev pub is_sole : (key : ℕ) → ChainKind → Bool
is_sole key kind = list_any (is_sole_in key) kind.instances

abbrev pub is_sole_there : (key : ℕ) → Option Chain → Bool
is_sole_there key None = false
is_sole_there key (Some chain) = is_sole_in key chain

-- in the chain of the kind that is told, or only in others of the kind
abbrev pub is_needed : Telling → (key : ℕ) → (in_told : Bool) → ChainKind → Bool
is_needed telling key in_told kind =
    if in_told then is_sole_there key (told_chain telling kind)
    else not (is_sole_there key (told_chain telling kind)) && is_sole key kind

abbrev pub number_if : Bool → ℕ → List (List ℕ)
number_if is_counted number = if is_counted then decimal number ∷ [] else []

module _ (telling : Telling) (kinds : List ChainKind) (key : ℕ) where
  abbrev pub is_counted : (in_told : Bool) → ℕ → Bool
  is_counted in_told number =
      nat_lt number (length kinds)
      && (is_told telling kinds number && is_needed telling key in_told (kind_at kinds number))

  -- they are told by numbers from 1
  abbrev pub number_of : (in_told : Bool) → ℕ → List (List ℕ)
  number_of in_told number = number_if (is_counted in_told number) (number + 1)

  -- the numbers of those that are told
  abbrev pub numbers_with : (in_told : Bool) → List (List ℕ)
  numbers_with in_told = flat_map (number_of in_told) (numbers_below (length kinds))

  -- one of those that aren't
  abbrev pub is_more : ℕ → Bool
  is_more number =
      nat_lt number (length kinds) && (not (is_told telling kinds number) && is_sole key (kind_at kinds number))

  abbrev pub count_more : ℕ
  count_more = count_by is_more (numbers_below (length kinds))

abbrev pub cycles_word : (in_told : Bool) → (count : ℕ) → List ℕ
cycles_word in_told count =
    if in_told then (if count == 1 then codes "in cycle " else codes "in cycles ")
    else (if count == 1 then codes "in one like cycle " else codes "in ones like cycles ")

abbrev pub cycles_piece : (in_told : Bool) → List (List ℕ) → List (List ℕ)
cycles_piece in_told numbers =
    if length numbers == 0 then [] else (cycles_word in_told (length numbers) ++ and_joined numbers) ∷ []

abbrev pub more_piece : ℕ → List (List ℕ)
more_piece count = if count == 0 then [] else (codes "in " ++ kinds_text count) ∷ []

abbrev pub joined_pieces : List (List ℕ) → List ℕ
joined_pieces pieces = if length pieces == 0 then [] else codes ": " ++ and_joined pieces

-- behind the name of the fence of this number: in which chains that are told it is needed, in which kinds that are told
-- only in others, and in how many that aren't
abbrev pub in_text : Telling → List ChainKind → (key : ℕ) → List ℕ
in_text telling kinds key =
    joined_pieces (cycles_piece true (numbers_with telling kinds key true)
    ++ cycles_piece false (numbers_with telling kinds key false)
    ++ more_piece (count_more telling kinds key))
