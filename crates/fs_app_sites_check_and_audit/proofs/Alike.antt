-- Codes whose instructions go to the same places, are the same accesses and of the table: a test that has one has the
-- other.
use Rattle.std.proofs.Common.{◌≡◌, ◌≤◌, ℕ, zero, suc, List, [], ◌∷◌, length, cond, refl, ap, sym, subst, ◌∙◌, arith}
use Rattle.std.specs.Prelude.{slice_get, option_and_then, sum_by, count_by}
use Rattle.std.specs.List.{All, AllZip}
use Rattle.std.proofs.lemmas.List.Elements.{All-head, All-tail}
use Rattle.std.proofs.lemmas.List.Sums.{sum_by-cons}
use Rattle.std.proofs.lemmas.Slice.Zip.{AllZip-long}
use Rattle.fs_instr.specs.Instructions.{is_memory, target_of}
use Rattle.fs_instr.specs.OfTable.{IsOfTable}
use Rattle.fs_instr.specs.declared.instr.Instr.{Instr}
use Rattle.fs_kinds.specs.Limits.{most_instructions}
use Rattle.fs_model.specs.declared.test.Test.{Test}
use Rattle.fs_model.specs.Condition.{SpeaksOf, condition_of}
use Rattle.fs_model.specs.Test.{GoesForward, IsBounded, IsTest}

pub record IsAlike (i j : Instr) : Type 0 where
  pub target : target_of j ≡ target_of i
  pub memory : is_memory j ≡ is_memory i
  pub of_table : IsOfTable i → IsOfTable j

abbrev pub AreAlike : List Instr → List Instr → Type 0
AreAlike = AllZip IsAlike

-- ---- one hart

targets : (code made : List Instr) → AreAlike code made → (at : ℕ)
    → option_and_then target_of (slice_get made at) ≡ option_and_then target_of (slice_get code at)
targets [] [] alike at = refl
targets [] (j ∷ made) alike at = absurd alike
targets (i ∷ code) [] alike at = absurd alike
targets (i ∷ code) (j ∷ made) alike zero = alike.0.target
targets (i ∷ code) (j ∷ made) alike (suc at) = targets code made alike.1 at

forward : (code made : List Instr) → AreAlike code made → GoesForward code → GoesForward made
forward code made alike goes at target e =
    let one = goes at target (sym (targets code made alike at) ∙ e) in
    let long = AllZip-long IsAlike code made alike in
    (one.0, let most = one.1 in omega (arith, most, long))

accesses : (code made : List Instr) → AreAlike code made → count_by is_memory made ≡ count_by is_memory code
accesses [] [] alike = refl
accesses [] (j ∷ made) alike = absurd alike
accesses (i ∷ code) [] alike = absurd alike
accesses (i ∷ code) (j ∷ made) alike =
    let is = sum_by-cons (λ (x : Instr). cond {A = ℕ} (is_memory x) 1 0) j made in
    let was = sum_by-cons (λ (x : Instr). cond {A = ℕ} (is_memory x) 1 0) i code in
    let one : cond (is_memory j) 1 0 ≡ cond (is_memory i) 1 0 = ap (λ b. cond {A = ℕ} b 1 0) alike.0.memory in
    let rest = accesses code made alike.1 in
    omega (arith, is, was, one, rest)

-- ---- lists

module _ {A : Type 0} (R : A → A → Type 0) (P : A → Type 0) (each : (x y : A) → R x y → P x → P y) where
  pub all_zipped : (xs ys : List A) → AllZip R xs ys → All P xs → All P ys
  all_zipped [] [] zip all k d low = absurd (omega (arith, low))
  all_zipped [] (y ∷ ys) zip all k d low = absurd zip
  all_zipped (x ∷ xs) [] zip all k d low = absurd zip
  all_zipped (x ∷ xs) (y ∷ ys) zip all zero d low = each x y zip.0 (All-head P x xs all)
  all_zipped (x ∷ xs) (y ∷ ys) zip all (suc k) d low = all_zipped xs ys zip.1 (All-tail P x xs all) k d (omega (arith, low))

-- ---- all harts

all_accesses : (codes made : List (List Instr)) → AllZip AreAlike codes made
    → sum_by (count_by is_memory) made ≡ sum_by (count_by is_memory) codes
all_accesses [] [] alike = refl
all_accesses [] (d ∷ made) alike = absurd alike
all_accesses (c ∷ codes) [] alike = absurd alike
all_accesses (c ∷ codes) (d ∷ made) alike =
    let here = accesses c d alike.0 in
    let rest = all_accesses codes made alike.1 in
    let is = sum_by-cons (count_by is_memory) d made in
    let was = sum_by-cons (count_by is_memory) c codes in
    omega (arith, here, rest, is, was)

module _ (t : Test) (made : List (List Instr)) (alike : AllZip AreAlike t.codes made) where
  long : length made ≡ length t.codes
  long = AllZip-long AreAlike t.codes made alike

  bounded : IsBounded t → IsBounded (record t { codes = made })
  bounded h =
      let same = long in
      let harts = h.harts in
      let sum = all_accesses t.codes made alike in
      let most = h.accesses in
      record {
        starts = h.starts ∙ sym same;
        forward = all_zipped AreAlike GoesForward forward t.codes made alike h.forward;
        atoms = subst (λ n. SpeaksOf n (length t.locations) (condition_of t.condition)) (sym same) h.atoms;
        harts = omega (arith, same, harts);
        lengths = all_zipped AreAlike (λ code. length code ≤ most_instructions)
            (λ code other zip few. let own = AllZip-long IsAlike code other zip in omega (arith, own, few)) t.codes made alike h.lengths;
        accesses = omega (arith, sum, most);
        locations = h.locations;
        depth = h.depth;
      }

  pub same_test : IsTest t → IsTest (record t { codes = made })
  same_test h =
      let same = long in
      let some = h.some_hart in
      record {
        utf8 = h.utf8;
        bounded = bounded h.bounded;
        title = h.title;
        some_hart = omega (arith, same, some);
        registers = h.registers;
        instructions = all_zipped AreAlike (All IsOfTable)
            (λ code other zip. all_zipped IsAlike IsOfTable (λ i j one. one.of_table) code other zip) t.codes made alike h.instructions;
        named = h.named;
        distinct = h.distinct;
        words = h.words;
      }
