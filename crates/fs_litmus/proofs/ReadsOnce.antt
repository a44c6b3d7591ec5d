-- Bytes read as one test only.
use Rattle.std.proofs.Common.{◌≡◌, ℕ, List, [], ◌∷◌, Result, Ok, Err, IfOk, refl, sym, ap, ◌∙◌, subst, map}
use Rattle.fs_litmus_syntax.specs.Form.{Form}
use Rattle.fs_litmus_syntax.specs.Body.{flatten}
use Rattle.fs_litmus_syntax.specs.Grammar.{Syntax}
use Rattle.fs_litmus_syntax.specs.Meaning as meaning
use Rattle.fs_kinds.specs.declared.fault.Fault.{Fault}
use Rattle.fs_litmus_syntax.proofs.HartLemmas.{codes_only}
use Rattle.fs_model.specs.Condition.{condition_of}
use Rattle.fs_model.specs.Test.{IsSame}
use Rattle.fs_model.specs.declared.test.Location.{Location}
use Rattle.fs_model.specs.declared.test.Test.{Test}
use Rattle.fs_litmus.specs.declared.settings.Setting.{Setting}
use Rattle.fs_litmus.specs.Locations.{Names}
use Rattle.fs_litmus.specs.Settings.{entry_bindings, settings_after}
use Rattle.fs_litmus.specs.Starts.{AreLocations, starts_of}
use Rattle.fs_litmus.specs.Atoms.{condition_in}
use Rattle.fs_litmus.specs.Reads.{MeanTest, Reads, names_in}
use Rattle.fs_litmus.proofs.Once.{some_same, title_once, parts_once}

locations_from : (xs ys : List Location) → map (λ x. x.name) xs ≡ map (λ x. x.name) ys → map (λ x. x.word) xs ≡ map (λ x. x.word) ys → xs ≡ ys
locations_from [] [] e f = refl
locations_from [] (y ∷ ys) e f = absurd (cc)
locations_from (x ∷ xs) [] e f = absurd (cc)
locations_from (x ∷ xs) (y ∷ ys) e f =
    let name : x.name ≡ y.name = cc in
    let word : x.word ≡ y.word = cc in
    let names : map (λ z. z.name) xs ≡ map (λ z. z.name) ys = cc in
    let words : map (λ z. z.word) xs ≡ map (λ z. z.word) ys = cc in
    let first : x ≡ y = ap (λ n. record x { name = n }) name ∙ ap (λ w. record y { word = w }) word in
    cc (first, locations_from xs ys names words)

locations_once : (names : Names) (ss : List Setting) (xs ys : List Location) → AreLocations names ss xs → AreLocations names ss ys → xs ≡ ys
locations_once names ss xs ys h k = locations_from xs ys (h.named ∙ sym k.named) (h.words ∙ sym k.words)

-- a form and its condition mean one test only
pub means_once : (f : Form) (s : Syntax) (t u : Test) → t.name ≡ u.name → MeanTest f s t → MeanTest f s u → IsSame t u
means_once f s t u name h k =
    let settings : k.settings ≡ h.settings = some_same (settings_after f.columns (names_in f s) [] (entry_bindings f.entries)) k.settings h.settings k.are_settings h.are_settings in
    record {
      name = name;
      codes = codes_only f.columns (flatten f.rows) t.codes u.codes h.codes k.codes;
      starts = h.starts ∙ ap (starts_of f.columns) (sym settings) ∙ sym k.starts;
      locations = locations_once (names_in f s) h.settings t.locations u.locations h.locations (subst (λ ss. AreLocations (names_in f s) ss u.locations) settings k.locations);
      quantifier = h.quantifier ∙ sym k.quantifier;
      condition = some_same (condition_in f.columns (names_in f s) (meaning.condition_of s)) (condition_of t.condition) (condition_of u.condition) h.condition k.condition;
    }

pub reads_once : (bytes : List ℕ) (t u : Test) → Reads bytes t → Reads bytes u → IsSame t u
reads_once bytes t u h k =
    let same = parts_once bytes h.form k.form h.syntax_of k.syntax_of h.has_form k.has_form in
    let means = subst (λ s. MeanTest h.form s u) (sym same.condition) (subst (λ f. MeanTest f k.syntax_of u) (sym same.form) k.means) in
    means_once h.form h.syntax_of t u (title_once bytes t.name u.name h.title k.title) h.means means

pub once : (bytes : List ℕ) (r : Result Test Fault) → IfOk r (Reads bytes) → IfOk r (λ t. (u : Test) → Reads bytes u → IsSame t u)
once bytes (Ok t) h = λ u k. reads_once bytes t u h k
once bytes (Err e) h = tt
