-- What bytes read as is a test.
use Rattle.std.proofs.Common.{◌≡◌, ◌≢◌, ℕ, ◌<◌, ◌≤◌, ◌^◌, List, [], map, length, get_or, Result, Ok, Err, IfOk, true, sym, ap, ◌∙◌, subst, arith}
use Rattle.std.specs.Prelude.{All, AllPairs, IsTrue}
use Rattle.std.proofs.lemmas.List.{length-map, get_or-map}
use Rattle.std.proofs.lemmas.List.Elements.{All-nil}
use Rattle.std.proofs.lemmas.List.FromFn.{length-map-range_with_len}
use Rattle.fs_litmus_tokens.specs.Tokens.{Lined}
use Rattle.fs_litmus_syntax.specs.Body.{flatten}
use Rattle.fs_litmus_syntax.specs.Form.{Form, IsForm, form}
use Rattle.fs_litmus_syntax.specs.Grammar.{Syntax}
use Rattle.fs_litmus_syntax.specs.Meaning as meaning
use Rattle.fs_litmus_syntax.specs.Meaning.{atoms_of, grouped_depth}
use Rattle.fs_kinds.specs.declared.fault.Fault.{Fault}
use Rattle.fs_model.specs.Condition.{condition_of, SpeaksOf}
use Rattle.fs_model.specs.Test.{IsBounded, IsStart, IsTest, is_name}
use Rattle.fs_model.specs.declared.test.Location.{Location}
use Rattle.fs_model.specs.declared.test.Test.{Test}
use Rattle.fs_litmus.specs.Locations.{declared}
use Rattle.fs_litmus.specs.Settings.{entry_bindings}
use Rattle.fs_litmus.specs.Starts.{registers_of}
use Rattle.fs_litmus.specs.Reads.{HasForm, MeanTest, IsWithinLimits, Reads, names_in}
use Rattle.fs_litmus.proofs.Classed.{tokens_classed}
use Rattle.fs_litmus.proofs.Interpreting.{nesting_same, shallow, located, forward}
use Rattle.fs_litmus.proofs.Named.{AreNamed, AreDistinct, form_named, condition_named, declared_named, declared_distinct}
use Rattle.fs_litmus.proofs.OfTable.{codes_of_table}
use Rattle.fs_litmus.proofs.Once.{some_columns}
use Rattle.fs_litmus.proofs.Settled.{AreFine, settings_fine, speaks, are_starts, location_words}
use Rattle.fs_litmus.proofs.Titles.{title_is, title_utf8}

-- ---- from a list of names or words to the locations that have them

all_of_map : {X Y : Type 0} (P : Y → Type 0) (f : X → Y) (xs : List X) → All P (map f xs) → All (λ x. P (f x)) xs
all_of_map P f xs h k d low =
    let within : k < length (map f xs) = (let same = length-map xs f in omega (arith, same, low)) in
    subst P (get_or-map f xs k d (f d) low) (h k (f d) within)

pairs_of_map : {X Y : Type 0} (R : Y → Y → Type 0) (f : X → Y) (xs : List X) → AllPairs R (map f xs) → AllPairs (λ x y. R (f x) (f y)) xs
pairs_of_map R f xs h i j d less low =
    let first : i < length xs = omega (arith, less, low) in
    let within : j < length (map f xs) = (let same = length-map xs f in omega (arith, same, low)) in
    subst (λ z. R (f (get_or xs i d)) z) (get_or-map f xs j d (f d) low) (subst (λ z. R z (get_or (map f xs) j (f d))) (get_or-map f xs i d (f d) first) (h i j (f d) less within))

none_distinct : AreDistinct []
none_distinct i j d less low = absurd (omega (arith, low))

-- ---- the form

-- what the form and the condition of a text name
pub record HasNames (f : Form) (s : Syntax) : Type 0 where
  pub some : 1 ≤ f.columns
  pub entries : AreNamed (entry_bindings f.entries)
  pub atoms : AreNamed (atoms_of s)

form_columns : {ts rest : List Lined} {f : Form} → IsForm ts f rest → 1 ≤ f.columns
form_columns (form x y z) = let some = some_columns y in omega (arith, some)

pub has_names : (bytes : List ℕ) (f : Form) (s : Syntax) → HasForm bytes f s → HasNames f s
has_names bytes f s h =
    let found = form_named h.is_form (tokens_classed h.has_tokens.are_tokens) in
    record { some = form_columns h.is_form; entries = found.0; atoms = condition_named h.is_condition found.1 }

module _ (f : Form) (s : Syntax) (t : Test) (m : MeanTest f s t) (l : IsWithinLimits f s t) where
  harts : length t.codes ≡ f.columns
  harts = m.codes.count

  bounded : IsBounded t
  bounded =
      let holders = located (names_in f s) m.settings t.locations m.locations in
      let nested = nesting_same f.columns (names_in f s) (meaning.condition_of s) (condition_of t.condition) m.condition in
      let deep = shallow s l.depth in
      let there = speaks f.columns (names_in f s) (meaning.condition_of s) (condition_of t.condition) m.condition in
      let most = l.harts in
      let few = l.locations in
      let count = harts in
      record {
        starts = ap length m.starts ∙ length-map-range_with_len (registers_of m.settings) 0 f.columns ∙ sym harts;
        forward = forward f.columns (flatten f.rows) t.codes m.codes;
        atoms = subst (λ n. SpeaksOf n (length t.locations) (condition_of t.condition)) (sym harts) (subst (λ n. SpeaksOf f.columns n (condition_of t.condition)) (sym holders) there);
        harts = omega (arith, count, most);
        lengths = l.instructions;
        accesses = l.accesses;
        locations = omega (arith, holders, few);
        depth = omega (arith, nested, deep);
      }

  fine : AreFine m.settings
  fine = settings_fine f.columns (names_in f s) [] m.settings (entry_bindings f.entries) tt m.are_settings

  registers : All IsStart t.starts
  registers = subst (λ ss. All IsStart ss) (sym m.starts) (are_starts f.columns m.settings fine)

  words : All (λ (x : Location). x.word < 2 ^ 32) t.locations
  words = all_of_map (λ w. w < 2 ^ 32) (λ (x : Location). x.word) t.locations (subst (λ ws. All (λ w. w < 2 ^ 32) ws) (sym m.locations.words) (location_words (length (names_in f s)) m.settings fine))

  named : HasNames f s → All (λ (x : Location). IsTrue (is_name x.name)) t.locations
  named h =
      let from_entries = declared_named [] (entry_bindings f.entries) h.entries (All-nil _) in
      let all = declared_named (declared [] (entry_bindings f.entries)) (atoms_of s) h.atoms from_entries in
      all_of_map (λ w. IsTrue (is_name w)) (λ (x : Location). x.name) t.locations (subst (λ ns. All (λ w. is_name w ≡ true) ns) (sym m.locations.named) all)

  distinct : AllPairs (λ (x : Location) (y : Location). x.name ≢ y.name) t.locations
  distinct =
      let all = declared_distinct (declared [] (entry_bindings f.entries)) (atoms_of s) (declared_distinct [] (entry_bindings f.entries) none_distinct) in
      pairs_of_map (λ a b. a ≢ b) (λ (x : Location). x.name) t.locations (subst AreDistinct (sym m.locations.named) all)

pub is_test : (bytes : List ℕ) (t : Test) → Reads bytes t → IsTest t
is_test bytes t h =
    let names = has_names bytes h.form h.syntax_of h.has_form in
    let some = names.some in
    let count = h.means.codes.count in
    record {
      utf8 = title_utf8 bytes t.name h.utf8 h.title;
      bounded = bounded h.form h.syntax_of t h.means h.limits;
      title = title_is bytes t.name h.title;
      some_hart = omega (arith, count, some);
      registers = registers h.form h.syntax_of t h.means h.limits;
      instructions = codes_of_table h.form.columns (flatten h.form.rows) t.codes h.means.codes h.limits.instructions;
      named = named h.form h.syntax_of t h.means h.limits names;
      distinct = distinct h.form h.syntax_of t h.means h.limits;
      words = words h.form h.syntax_of t h.means h.limits;
    }

pub tested : (bytes : List ℕ) (r : Result Test Fault) → IfOk r (Reads bytes) → IfOk r IsTest
tested bytes (Ok t) h = is_test bytes t h
tested bytes (Err e) h = tt
