-- The blocks of a log that are of one test.
use Rattle.std.proofs.Common.{◌≡◌, ◌∙◌, ap, sym, subst, refl, ℕ, ◌+◌, ◌<◌, List, [], ◌∷◌, ◌++◌, Bool, true, false, cond, Some, length, take, drop}
use Rattle.std.specs.Prelude.{slice_get}
use Rattle.std.specs.List.{filter, flat_map, slice_index_or}
use Rattle.std.specs.Str.{bytes_eq}
use Rattle.std.proofs.lemmas.List.{take_more, append-nil, take-append-drop}
use Rattle.std.proofs.lemmas.List.Concat.{flat_map-append}
use Rattle.std.proofs.lemmas.List.Elements.{filter-append}
use Rattle.fs_model.specs.declared.test.Test.{Test}
use Rattle.fs_app_states.specs.declared.columns.Column.{Column}
use Rattle.fs_app_states.specs.declared.log.Block.{Block}
use Rattle.fs_app_states.specs.declared.log.Seen.{Seen}
use Rattle.fs_app_states.specs.Compared.{states_seen}
use Rattle.fs_app_states.specs.Rows.{AreColumns, AreFirstColumns}

one_block : (block : Block) (b : Bool) → flat_map (λ block. block.states) (cond b (block ∷ []) []) ≡ cond b block.states []
one_block block true = append-nil block.states
one_block block false = refl

seen-append : (log more : List Block) (name : List ℕ) → states_seen (log ++ more) name ≡ states_seen log name ++ states_seen more name
seen-append log more name =
    ap (flat_map (λ block. block.states)) (filter-append (λ block. bytes_eq block.name.now name) log more)
    ∙ flat_map-append (λ block. block.states) (filter (λ block. bytes_eq block.name.now name) log) _

-- a block more, which is of the test or isn't
pub seen_more : (log : List Block) (i : ℕ) (block : Block) (name : List ℕ) → i < length log → block ≡ slice_index_or log i block
    → states_seen (take (i + 1) log) name ≡ states_seen (take i log) name ++ cond (bytes_eq block.name.now name) block.states []
seen_more log i block name low is =
    ap (λ (bs : List Block). states_seen bs name) (take_more log i block low ∙ ap (λ (x : Block). take i log ++ x ∷ []) (sym is))
    ∙ seen-append (take i log) (block ∷ []) name
    ∙ ap (λ (xs : List Seen). states_seen (take i log) name ++ xs) (one_block block (bytes_eq block.name.now name))

-- the same where it is known
pub seen_at : (log : List Block) (i : ℕ) (block : Block) (name : List ℕ) (b : Bool) → i < length log → block ≡ slice_index_or log i block
    → bytes_eq block.name.now name ≡ b
    → states_seen (take (i + 1) log) name ≡ states_seen (take i log) name ++ cond b block.states []
seen_at log i block name b low is at =
    seen_more log i block name low is ∙ ap (λ (c : Bool). states_seen (take i log) name ++ cond c block.states []) at

has_first : (states more : List Seen) (first : Seen) (t : Test) (columns : List Column) → slice_get states 0 ≡ Some first
    → AreColumns t first columns → AreFirstColumns t (states ++ more) columns
has_first [] more first t columns is are = absurd (cc is)
has_first (seen ∷ states) more first t columns is are = subst (λ (s : Seen). AreColumns t s columns) (sym (cc is)) are

-- the first state of the first block of the test that has one
pub first_seen : (log : List Block) (i : ℕ) (block : Block) (name : List ℕ) (first : Seen) (t : Test) (columns : List Column)
    → i < length log → block ≡ slice_index_or log i block → states_seen (take i log) name ≡ []
    → bytes_eq block.name.now name ≡ true → slice_get block.states 0 ≡ Some first → AreColumns t first columns
    → AreFirstColumns t (states_seen log name) columns
first_seen log i block name first t columns low is none at has are =
    subst (λ (states : List Seen). AreFirstColumns t states columns)
    (sym (ap (λ (bs : List Block). states_seen bs name) (sym (take-append-drop (i + 1) log))
    ∙ seen-append (take (i + 1) log) (drop (i + 1) log) name
    ∙ ap (λ (xs : List Seen). xs ++ states_seen (drop (i + 1) log) name)
    (seen_at log i block name true low is at ∙ ap (λ (xs : List Seen). xs ++ block.states) none)))
    (has_first block.states (states_seen (drop (i + 1) log) name) first t columns has are)
