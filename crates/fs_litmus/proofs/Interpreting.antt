-- What a form and its condition mean, from the parts that the reader makes.
use Rattle.std.proofs.Common.{◌≡◌, ℕ, ◌+◌, ◌≤◌, ◌<◌, List, [], ◌∷◌, Option, Some, None, refl, sym, ap, ◌∙◌, subst, length, max, get_or, zero, suc, arith}
use Rattle.std.specs.Prelude.{option_map, All, sum_by, count_by, slice_get}
use Rattle.std.proofs.lemmas.List.{length-map}
use Rattle.std.proofs.lemmas.List.FromFn.{length-map-range_with_len}
use Rattle.fs_litmus_tokens.specs.Tokens.{Lined}
use Rattle.fs_litmus_syntax.specs.Form.{Form}
use Rattle.fs_litmus_syntax.specs.Body.{flatten}
use Rattle.fs_litmus_syntax.specs.Grammar.{Syntax}
use Rattle.fs_litmus_syntax.specs.Meaning as meaning
use Rattle.fs_litmus_syntax.specs.Meaning.{depth_of, grouped_depth}
use Rattle.fs_instr.specs.Instructions.{is_memory}
use Rattle.fs_instr.specs.declared.instr.Instr.{Instr}
use Rattle.fs_litmus_syntax.specs.Codes.{AreCodes}
use Rattle.fs_litmus_syntax.specs.declared.hart.HartCode.{HartCode}
use Rattle.fs_model.specs.Condition.{Condition, Always, Never, Deny, Both, Either, condition_of, nesting, SpeaksOf}
use Rattle.fs_model.specs.Test.{GoesForward, IsBounded}
use Rattle.fs_model.specs.declared.test.Location.{Location}
use Rattle.fs_model.specs.declared.test.Test.{Test}
use Rattle.fs_litmus.specs.Locations.{Names}
use Rattle.fs_litmus.specs.Settings.{entry_bindings, settings_after, setting_of}
use Rattle.fs_litmus.specs.Starts.{starts_of, registers_of, AreLocations}
use Rattle.fs_litmus.specs.Atoms.{condition_in, with_both, atom_at}
use Rattle.fs_litmus.specs.Reads.{MeanTest, IsWithinLimits, IsOutcome, names_in, quantifier_of}
use Rattle.fs_litmus.specs.declared.settings.Holder.{Holder}
use Rattle.fs_litmus.specs.declared.settings.Holder.TheVariants as holder
use Rattle.fs_litmus.specs.declared.settings.Setting.{Setting}
use Rattle.fs_litmus.proofs.Forward.{goes_forward}

pub get_or_there : {A : Type 0} (xs : List A) (k : ℕ) (d : A) → k < length xs → slice_get xs k ≡ Some (get_or xs k d)
get_or_there [] k d h = absurd (omega arith)
get_or_there (x ∷ xs) zero d h = refl
get_or_there (x ∷ xs) (suc k) d h = let low : k < length xs = omega arith in get_or_there xs k d low

-- what the reader has made of the form and the condition
pub record IsMade (f : Form) (s : Syntax) (t : Test) : Type 0 where
  pub names : Names
  pub settings : List Setting
  pub kept : List HartCode
  pub read : List (List Instr)
  pub are_codes : AreCodes f.columns (flatten f.rows) read
  pub codes : t.codes ≡ read
  pub within : All (λ code. length code ≤ 32) read
  pub accesses : sum_by (count_by is_memory) t.codes ≤ 48
  pub harts : f.columns ≤ 8
  pub few : length names ≤ 8
  pub are_names : names ≡ names_in f s
  pub are_settings : settings_after f.columns names [] (entry_bindings f.entries) ≡ Some settings
  pub starts : t.starts ≡ starts_of f.columns settings
  pub locations : AreLocations names settings t.locations
  pub quantifier : t.quantifier ≡ quantifier_of f.quantifier
  pub condition : IsOutcome f.columns names s t.condition
  pub there : SpeaksOf f.columns (length names) (condition_of t.condition)

pub means : (f : Form) (s : Syntax) (t : Test) → IsMade f s t → MeanTest f s t
means f s t h =
    record {
      codes = subst (λ cs. AreCodes f.columns (flatten f.rows) cs) (sym h.codes) h.are_codes;
      settings = h.settings;
      are_settings = subst (λ n. settings_after f.columns n [] (entry_bindings f.entries) ≡ Some h.settings) h.are_names h.are_settings;
      starts = h.starts;
      locations = subst (λ n. AreLocations n h.settings t.locations) h.are_names h.locations;
      quantifier = h.quantifier;
      condition = subst (λ n. condition_in f.columns n (meaning.condition_of s) ≡ Some (condition_of t.condition)) h.are_names h.condition.means;
    }

pub limits : (f : Form) (s : Syntax) (t : Test) → IsMade f s t → IsWithinLimits f s t
limits f s t h =
    record {
      harts = h.harts;
      instructions = subst (λ cs. All (λ code. length code ≤ 32) cs) (sym h.codes) h.within;
      accesses = h.accesses;
      locations = subst (λ n. length n ≤ 8) h.are_names h.few;
      depth = h.condition.depth;
    }

-- ---- what is bounded

max_same : (a b c d : ℕ) → a ≡ c → b ≡ d → max a b + 1 ≡ max c d + 1
max_same a b c d e f = rw (e, f) refl

pub both_there : (f : Condition → Condition → Condition) (a b : Option Condition) (c : Condition) → with_both f a b ≡ Some c → (x : Condition) × (y : Condition) × (a ≡ Some x) × (b ≡ Some y) × (f x y ≡ c)
both_there f None b c e = absurd (cc)
both_there f (Some x) None c e = absurd (cc)
both_there f (Some x) (Some y) c e = (x, y, refl, refl, cc)

pub deny_there : (a : Option Condition) (c : Condition) → option_map Deny a ≡ Some c → (x : Condition) × (a ≡ Some x) × (Deny x ≡ c)
deny_there None c e = absurd (cc)
deny_there (Some x) c e = (x, refl, cc)

atom_flat : (p : Holder) (w : ℕ) → nesting (atom_at p w) ≡ 0
atom_flat (holder.Register h r) w = refl
atom_flat (holder.Location k) w = refl

atom_nesting : (o : Option Setting) (c : Condition) → option_map (λ x. atom_at x.holder x.word) o ≡ Some c → nesting c ≡ 0
atom_nesting None c e = absurd (cc)
atom_nesting (Some x) c e = let same : atom_at x.holder x.word ≡ c = cc in subst (λ y. nesting y ≡ 0) same (atom_flat x.holder x.word)

-- the condition is as deep as it is grouped
pub nesting_same : (columns : ℕ) (names : Names) (w : meaning.Condition) (c : Condition) → condition_in columns names w ≡ Some c → nesting c ≡ grouped_depth w
nesting_same columns names (meaning.Atom t v) c e = atom_nesting (setting_of columns names (t, v)) c e
nesting_same columns names meaning.True c e = let same : Always ≡ c = cc in subst (λ y. nesting y ≡ 0) same refl
nesting_same columns names meaning.False c e = let same : Never ≡ c = cc in subst (λ y. nesting y ≡ 0) same refl
nesting_same columns names (meaning.Deny w) c e =
    let x = deny_there (condition_in columns names w) c e in
    let inner = nesting_same columns names w x.0 x.1 in
    subst (λ y. nesting y ≡ grouped_depth w + 1) x.2 (ap (λ n. n + 1) inner)
nesting_same columns names (meaning.Both a b) c e =
    let x = both_there Both (condition_in columns names a) (condition_in columns names b) c e in
    let left = nesting_same columns names a x.0 x.2 in
    let right = nesting_same columns names b x.1 x.3 in
    subst (λ y. nesting y ≡ max (grouped_depth a) (grouped_depth b) + 1) x.4 (max_same (nesting x.0) (nesting x.1) (grouped_depth a) (grouped_depth b) left right)
nesting_same columns names (meaning.Either a b) c e =
    let x = both_there Either (condition_in columns names a) (condition_in columns names b) c e in
    let left = nesting_same columns names a x.0 x.2 in
    let right = nesting_same columns names b x.1 x.3 in
    subst (λ y. nesting y ≡ max (grouped_depth a) (grouped_depth b) + 1) x.4 (max_same (nesting x.0) (nesting x.1) (grouped_depth a) (grouped_depth b) left right)

pub shallow : (s : Syntax) → depth_of s ≤ 64 → grouped_depth (meaning.condition_of s) ≤ 64
shallow s h = omega (arith, h)

pub located : (names : Names) (settings : List Setting) (xs : List Location) → AreLocations names settings xs → length xs ≡ length names
located names settings xs h = sym (length-map xs (λ x. x.name)) ∙ ap length h.named

-- each code goes forward
pub forward : (columns : ℕ) (cells : List (List Lined)) (codes : List (List Instr)) → AreCodes columns cells codes → All GoesForward codes
forward columns cells codes h k d low =
    let found = get_or_there codes k d low in
    let hart = h.each k (get_or codes k d) found in
    goes_forward hart.are hart.means.resolved

pub bounded : (f : Form) (s : Syntax) (t : Test) → IsMade f s t → IsBounded t
bounded f s t h =
    let harts : length t.codes ≡ f.columns = ap length h.codes ∙ h.are_codes.count in
    let holders = located h.names h.settings t.locations h.locations in
    let nested = nesting_same f.columns h.names (meaning.condition_of s) (condition_of t.condition) h.condition.means in
    let deep = shallow s h.condition.depth in
    let most = h.harts in
    let few = h.few in
    record {
      starts = ap length h.starts ∙ length-map-range_with_len (registers_of h.settings) 0 f.columns ∙ sym harts;
      forward = subst (λ cs. All GoesForward cs) (sym h.codes) (forward f.columns (flatten f.rows) h.read h.are_codes);
      atoms = subst (λ n. SpeaksOf n (length t.locations) (condition_of t.condition)) (sym harts) (subst (λ n. SpeaksOf f.columns n (condition_of t.condition)) (sym holders) h.there);
      harts = omega (arith, harts, most);
      lengths = subst (λ cs. All (λ code. length code ≤ 32) cs) (sym h.codes) h.within;
      accesses = h.accesses;
      locations = omega (arith, holders, few);
      depth = omega (arith, nested, deep);
    }
