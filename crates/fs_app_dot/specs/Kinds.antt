-- Pictures of contradictions: of each kind that is told its chain.
use Rattle.std.specs.Prelude.{◌≡◌, ℕ, ◌+◌, Option, None, Some, List, [], ◌∷◌, ◌++◌, codes, length, string_bytes}
use Rattle.std.specs.Prelude.{if◌then◌else◌}
use Rattle.std.specs.Fmt.{decimal}
use Rattle.fs_model.specs.declared.test.Test.{Test}
use Rattle.fs_model.specs.Numbers.{numbers_below}
use Rattle.fs_app_why.specs.declared.chain.Chain.{Chain}
use Rattle.fs_app_why.specs.declared.chain.Shape.{Shape}
use Rattle.fs_app_why.specs.declared.chain.Shape.TheVariants as shape
use Rattle.fs_app_why.specs.Kinds.{ChainKind, told_links}
use Rattle.fs_app_dot.specs.Pictures.{IsChainPicture}
use Rattle.fs_app_why.specs.Traces.{as_list}
use Rattle.fs_app_why.specs.declared.telling.Telling.{Telling}
use Rattle.fs_app_why.specs.Told.{is_told, kind_at, told_chain}
use Rattle.fs_app_dot.specs.declared.picture.Picture.{Picture}

-- ---- pictures of several things

-- of each of these in their order the picture, if it has one
abbrev pub AreOf : {A : Type 0} → (A → Option Picture → Type 0) → List A → List Picture → Type 0
AreOf IsOf [] pictures = pictures ≡ []
AreOf IsOf (x ∷ xs) pictures =
    (found : Option Picture) × (others : List Picture) × IsOf x found × AreOf IsOf xs others
    × (pictures ≡ as_list found ++ others)

-- ---- of a chain

abbrev pub shape_text : Shape → List ℕ
shape_text shape.Cycle = codes "cycle"
shape_text shape.Stale = codes "stale"
shape_text shape.NotAtomic = codes "not atomic"

abbrev pub shape_name : Shape → List ℕ
shape_name shape.Cycle = codes "cycle"
shape_name shape.Stale = codes "stale"
shape_name shape.NotAtomic = codes "not-atomic"

-- such as `cycle-1`
abbrev pub chain_name : (number : ℕ) → Shape → List ℕ
chain_name number shape = shape_name shape ++ (codes "-" ++ decimal number)

-- such as `SB: cycle 1`
abbrev pub chain_title : (title : List ℕ) → (number : ℕ) → Shape → List ℕ
chain_title title number shape = title ++ (codes ": " ++ (shape_text shape ++ (codes " " ++ decimal number)))

-- which chain of the kind of this number is told, if the kind is
abbrev pub told_there : Telling → List ChainKind → (number : ℕ) → Option Chain
told_there telling kinds number =
    if is_told telling kinds number then told_chain telling (kind_at kinds number) else None

module _ (t : Test) (title : List ℕ) where
  -- its arrows are the links of the chain, from where it is told
  pub record IsDrawn (number : ℕ) (chain : Chain) (picture : Picture) : Type 0 where
    pub named : string_bytes picture.name ≡ chain_name number chain.shape
    pub drawn : IsChainPicture t (chain_title title number chain.shape) (told_links chain) (string_bytes picture.text)

  -- none where there is no chain
  abbrev pub IsOfChain : (number : ℕ) → Option Chain → Option Picture → Type 0
  IsOfChain number None found = found ≡ None
  IsOfChain number (Some chain) found = (picture : Picture) × (found ≡ Some picture) × IsDrawn number chain picture

  -- ---- of kinds

  -- by its number from 0; they are told by numbers from 1
  abbrev pub IsOfNumber : Telling → List ChainKind → (number : ℕ) → Option Picture → Type 0
  IsOfNumber telling kinds number found = IsOfChain (number + 1) (told_there telling kinds number) found

  -- of each kind that is told
  abbrev pub AreOfKinds : Telling → List ChainKind → List Picture → Type 0
  AreOfKinds telling kinds pictures = AreOf (IsOfNumber telling kinds) (numbers_below (length kinds)) pictures
