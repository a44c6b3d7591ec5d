-- Kinds of fence: their words, which pairs of operations they order, and which are no stronger than which.
use Rattle.std.specs.Prelude.{ℕ, List, [], ◌∷◌, Bool, true, false, ◌&&◌, ◌||◌, not, Option, codes}
use Rattle.std.specs.List.{find}
use Rattle.std.specs.Str.{bytes_eq}
pub use Rattle.fs_kinds.specs.Placements.{table_index}
use Rattle.fs_kinds.specs.declared.kind.Kind.{Kind}
use Rattle.fs_kinds.specs.declared.kind.Kind.TheVariants.{RR, RW, RRw, WR, WW, WRw, RwR, RwW, RwRw, Tso}
use Rattle.fs_kinds.specs.declared.kind.Classes.{Classes}

-- the ten kinds, in table order
abbrev pub all_kinds : List Kind
all_kinds = RR ∷ RW ∷ RRw ∷ WR ∷ WW ∷ WRw ∷ RwR ∷ RwW ∷ RwRw ∷ Tso ∷ []

abbrev pub word : Kind → List ℕ
word RR = codes "r,r"
word RW = codes "r,w"
word RRw = codes "r,rw"
word WR = codes "w,r"
word WW = codes "w,w"
word WRw = codes "w,rw"
word RwR = codes "rw,r"
word RwW = codes "rw,w"
word RwRw = codes "rw,rw"
word Tso = codes "tso"

-- the kind that has this word
unfoldable pub kind_of : List ℕ → Option Kind
kind_of text = find (λ kind. bytes_eq text (word kind)) all_kinds

-- A pair of classes: an operation of the first before one of the second.
pub data Pair : Type 0 where
  ReadRead : Pair
  ReadWrite : Pair
  WriteRead : Pair
  WriteWrite : Pair

-- the product of two sets of classes, each given by whether it has reads and whether it has writes
abbrev pub product : Bool → Bool → Bool → Bool → Pair → Bool
product r w r' w' ReadRead = r && r'
product r w r' w' ReadWrite = r && w'
product r w r' w' WriteRead = w && r'
product r w r' w' WriteWrite = w && w'

-- all but a write before a read
abbrev pub tso_pairs : Pair → Bool
tso_pairs ReadRead = true
tso_pairs ReadWrite = true
tso_pairs WriteRead = false
tso_pairs WriteWrite = true

-- the set of pairs that a kind is
abbrev pub pairs_of : Kind → Pair → Bool
pairs_of RR = product true false true false
pairs_of RW = product true false false true
pairs_of RRw = product true false true true
pairs_of WR = product false true true false
pairs_of WW = product false true false true
pairs_of WRw = product false true true true
pairs_of RwR = product true true true false
pairs_of RwW = product true true false true
pairs_of RwRw = product true true true true
pairs_of Tso = tso_pairs

-- some pair passes, each pair passes
abbrev pub any_pair : (Pair → Bool) → Bool
any_pair p = p ReadRead || p ReadWrite || p WriteRead || p WriteWrite

abbrev pub all_pairs : (Pair → Bool) → Bool
all_pairs p = p ReadRead && p ReadWrite && p WriteRead && p WriteWrite

-- a set of pairs orders a before b: some class of a with some class of b is in it
abbrev pub pairs_order : (Pair → Bool) → Classes → Classes → Bool
pairs_order s a b = any_pair (λ p. s p && product a.reads a.writes b.reads b.writes p)

abbrev pub orders : Kind → Classes → Classes → Bool
orders k a b = pairs_order (pairs_of k) a b

-- the first set is a subset of the second
abbrev pub is_subset : (Pair → Bool) → (Pair → Bool) → Bool
is_subset s s' = all_pairs (λ p. not (s p) || s' p)

abbrev pub no_stronger : Kind → Kind → Bool
no_stronger k k' = is_subset (pairs_of k) (pairs_of k')
