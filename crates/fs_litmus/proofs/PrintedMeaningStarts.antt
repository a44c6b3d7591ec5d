-- What the bindings of a printed form set: the locations' words, and the registers that don't begin at 0.
use Rattle.std.proofs.Common.{◌≡◌, ℕ, ◌+◌, ◌<◌, ◌≤◌, zero, suc, List, [], ◌∷◌, ◌++◌, map, filter, length, get_or, Bool, true, false, not, ◌&&◌, cond, eqb, ◌==◌, eqb-true, refl, sym, ap, ◌∙◌, subst, arith}
use Rattle.std.specs.List.{enumerate_from}
use Rattle.std.proofs.lemmas.List.{length-map}
use Rattle.std.proofs.lemmas.List.FromFn.{fill_by_all}
use Rattle.std.proofs.lemmas.Bool.Decides.{nat_tests}
use Rattle.fs_litmus.specs.Settings.{same_holder}
use Rattle.fs_litmus.specs.Starts.{word_at, registers_of, starts_of, AreLocations}
use Rattle.fs_litmus.specs.declared.settings.Holder.TheVariants as holder
use Rattle.fs_litmus.specs.declared.settings.Setting.{Setting}
use Rattle.fs_model.specs.declared.test.Location.{Location}
use Rattle.fs_litmus.proofs.PrintedMeaningNames.{names_of}
use Rattle.fs_litmus.proofs.PrintedMeaningSettings.{rank_from, other_holder, Rises, rises_from, rises_to, rises_join, word_below, word_later, word_earlier}

-- ---- the settings

abbrev pub location_settings : ℕ → List Location → List Setting
location_settings k [] = []
location_settings k (x ∷ xs) = record { holder = holder.Location k; word = x.word } ∷ location_settings (k + 1) xs

abbrev pub register_settings : ℕ → List (ℕ × ℕ) → List Setting
register_settings hart [] = []
register_settings hart (n ∷ ns) = record { holder = holder.Register hart n.0; word = n.1 } ∷ register_settings hart ns

-- the numbered words that aren't 0
abbrev pub set_words : ℕ → List ℕ → List (ℕ × ℕ)
set_words first words = filter (λ n. not (n.1 == 0)) (enumerate_from first words)

abbrev pub start_settings : ℕ → List (List ℕ) → List Setting
start_settings hart [] = []
start_settings hart (words ∷ starts) = register_settings hart (set_words 0 words) ++ start_settings (hart + 1) starts

abbrev pub test_settings : List Location → List (List ℕ) → List Setting
test_settings ls starts = location_settings 0 ls ++ start_settings 0 starts

-- ---- they rise

locations_rise : (k : ℕ) (ls : List Location) → Rises k (k + length ls) (location_settings k ls)
locations_rise k [] = omega arith
locations_rise k (x ∷ xs) =
    let same : k + 1 + length xs ≡ k + suc (length xs) = omega arith in
    let next : k + 1 ≡ suc k = omega arith in
    (omega arith, subst (λ n. Rises (suc k) n (location_settings (k + 1) xs)) same (subst (λ n. Rises n (k + 1 + length xs) (location_settings (k + 1) xs)) next (locations_rise (k + 1) xs)))

-- the settings of a hart from this register on, where the first may be left out
registers_either : (hart r w high : ℕ) (ns : List (ℕ × ℕ)) (b : Bool) → Rises (rank_from hart + (r + 1)) high (register_settings hart ns) → Rises (rank_from hart + r) high (register_settings hart (cond b ((r, w) ∷ ns) ns))
registers_either hart r w high ns true h = (omega arith, rises_from (rank_from hart + (r + 1)) (suc (rank_from hart + r)) high (register_settings hart ns) (omega arith) h)
registers_either hart r w high ns false h = rises_from (rank_from hart + (r + 1)) (rank_from hart + r) high (register_settings hart ns) (omega arith) h

registers_rise : (hart r : ℕ) (words : List ℕ) → Rises (rank_from hart + r) (rank_from hart + (r + length words)) (register_settings hart (set_words r words))
registers_rise hart r [] = omega arith
registers_rise hart r (w ∷ words) =
    let same : rank_from hart + (r + 1 + length words) ≡ rank_from hart + (r + suc (length words)) = omega arith in
    registers_either hart r w (rank_from hart + (r + suc (length words))) (set_words (r + 1) words) (not (w == 0))
    (subst (λ n. Rises (rank_from hart + (r + 1)) n (register_settings hart (set_words (r + 1) words))) same (registers_rise hart (r + 1) words))

-- each start has 32 words
abbrev pub AreLong : List (List ℕ) → Type 0
AreLong [] = Unit {0}
AreLong (words ∷ starts) = (length words ≡ 32) × AreLong starts

hart_rises : (hart : ℕ) (words : List ℕ) → length words ≡ 32 → Rises (rank_from hart) (rank_from (hart + 1)) (register_settings hart (set_words 0 words))
hart_rises hart words e =
    rises_from (rank_from hart + 0) (rank_from hart) (rank_from (hart + 1)) (register_settings hart (set_words 0 words)) (omega arith)
    (rises_to (rank_from hart + 0) (rank_from hart + (0 + length words)) (rank_from (hart + 1)) (register_settings hart (set_words 0 words)) (omega (arith, e)) (registers_rise hart 0 words))

starts_rise : (hart : ℕ) (starts : List (List ℕ)) → AreLong starts → Rises (rank_from hart) (rank_from (hart + length starts)) (start_settings hart starts)
starts_rise hart [] long = omega arith
starts_rise hart (words ∷ starts) long =
    let same : rank_from (hart + 1 + length starts) ≡ rank_from (hart + suc (length starts)) = omega arith in
    rises_join (rank_from hart) (rank_from (hart + 1)) (rank_from (hart + suc (length starts))) (register_settings hart (set_words 0 words)) (start_settings (hart + 1) starts)
    (hart_rises hart words long.0)
    (subst (λ n. Rises (rank_from (hart + 1)) n (start_settings (hart + 1) starts)) same (starts_rise (hart + 1) starts long.1))

locations_first : (ls : List Location) → length ls ≤ 8 → Rises 0 8 (location_settings 0 ls)
locations_first ls few = rises_to 0 (0 + length ls) 8 (location_settings 0 ls) (omega (arith, few)) (locations_rise 0 ls)

registers_next : (starts : List (List ℕ)) → AreLong starts → Rises 8 (rank_from (length starts)) (start_settings 0 starts)
registers_next starts long =
    let same : rank_from (0 + length starts) ≡ rank_from (length starts) = omega arith in
    rises_from (rank_from 0) 8 (rank_from (length starts)) (start_settings 0 starts) (omega arith) (subst (λ n. Rises (rank_from 0) n (start_settings 0 starts)) same (starts_rise 0 starts long))

pub all_rise : (ls : List Location) (starts : List (List ℕ)) → length ls ≤ 8 → AreLong starts → Rises 0 (rank_from (length starts)) (test_settings ls starts)
all_rise ls starts few long = rises_join 0 8 (rank_from (length starts)) (location_settings 0 ls) (start_settings 0 starts) (locations_first ls few) (registers_next starts long)

-- ---- the words of registers

same_register : (hart r : ℕ) → same_holder (holder.Register hart r) (holder.Register hart (r + 0)) ≡ true
same_register hart r =
    let one : eqb hart hart ≡ true = grind (arith, nat_tests) in
    let two : eqb r (r + 0) ≡ true = grind (arith, nat_tests) in
    ap (λ b. b && eqb r (r + 0)) one ∙ two

-- the word of the first register, and of those after it
first_word : (hart r w high : ℕ) (ns : List (ℕ × ℕ)) (b : Bool) → eqb w 0 ≡ b → Rises (rank_from hart + (r + 1)) high (register_settings hart ns) → word_at (register_settings hart (cond (not b) ((r, w) ∷ ns) ns)) (holder.Register hart (r + 0)) ≡ w
first_word hart r w high ns true e h = word_below (rank_from hart + (r + 1)) high (register_settings hart ns) (holder.Register hart (r + 0)) h (omega arith) ∙ sym (eqb-true w 0 e)
first_word hart r w high ns false e h = ap (λ b. cond b w (word_at (register_settings hart ns) (holder.Register hart (r + 0)))) (same_register hart r)

next_word : (hart r j w : ℕ) (ns : List (ℕ × ℕ)) (b : Bool) → word_at (register_settings hart (cond b ((r, w) ∷ ns) ns)) (holder.Register hart (r + suc j)) ≡ word_at (register_settings hart ns) (holder.Register hart (r + suc j))
next_word hart r j w ns true =
    ap (λ b. cond b w (word_at (register_settings hart ns) (holder.Register hart (r + suc j)))) (other_holder (holder.Register hart r) (holder.Register hart (r + suc j)) (λ e. omega (arith, e)))
next_word hart r j w ns false = refl

register_word : (hart r : ℕ) (words : List ℕ) (j : ℕ) → word_at (register_settings hart (set_words r words)) (holder.Register hart (r + j)) ≡ get_or words j 0
register_word hart r [] j = refl
register_word hart r (w ∷ words) zero = first_word hart r w (rank_from hart + (r + 1 + length words)) (set_words (r + 1) words) (w == 0) refl (registers_rise hart (r + 1) words)
register_word hart r (w ∷ words) (suc j) =
    let same : r + suc j ≡ r + 1 + j = omega arith in
    next_word hart r j w (set_words (r + 1) words) (not (w == 0))
    ∙ ap (λ n. word_at (register_settings hart (set_words (r + 1) words)) (holder.Register hart n)) same
    ∙ register_word hart (r + 1) words j

hart_word : (hart : ℕ) (words : List ℕ) (r : ℕ) → word_at (register_settings hart (set_words 0 words)) (holder.Register hart r) ≡ get_or words r 0
hart_word hart words r =
    let same : r ≡ 0 + r = omega arith in
    ap (λ n. word_at (register_settings hart (set_words 0 words)) (holder.Register hart n)) same ∙ register_word hart 0 words r

start_word : (hart : ℕ) (starts : List (List ℕ)) (j r : ℕ) → AreLong starts → j < length starts → r < 32 → word_at (start_settings hart starts) (holder.Register (hart + j) r) ≡ get_or (get_or starts j []) r 0
start_word hart [] j r long h low = absurd (omega (arith, h))
start_word hart (words ∷ starts) zero r long h low =
    let same : hart + 0 ≡ hart = omega arith in
    ap (λ n. word_at (start_settings hart (words ∷ starts)) (holder.Register n r)) same
    ∙ word_earlier (rank_from (hart + 1)) (rank_from (hart + 1 + length starts)) (register_settings hart (set_words 0 words)) (start_settings (hart + 1) starts) (holder.Register hart r) (starts_rise (hart + 1) starts long.1) (omega (arith, low))
    ∙ hart_word hart words r
start_word hart (words ∷ starts) (suc j) r long h low =
    let same : hart + suc j ≡ hart + 1 + j = omega arith in
    word_later (rank_from hart) (rank_from (hart + 1)) (register_settings hart (set_words 0 words)) (start_settings (hart + 1) starts) (holder.Register (hart + suc j) r) (hart_rises hart words long.0) (omega arith)
    ∙ ap (λ n. word_at (start_settings (hart + 1) starts) (holder.Register n r)) same
    ∙ start_word (hart + 1) starts j r long.1 (omega (arith, h)) low

-- ---- the words of locations

location_word : (k : ℕ) (ls : List Location) (j : ℕ) → word_at (location_settings k ls) (holder.Location (k + j)) ≡ get_or (map (λ x. x.word) ls) j 0
location_word k [] j = refl
location_word k (x ∷ xs) zero =
    let found : same_holder (holder.Location k) (holder.Location (k + 0)) ≡ true = grind (arith, nat_tests) in
    ap (λ b. cond b x.word (word_at (location_settings (k + 1) xs) (holder.Location (k + 0)))) found
location_word k (x ∷ xs) (suc j) =
    let same : k + suc j ≡ k + 1 + j = omega arith in
    ap (λ b. cond b x.word (word_at (location_settings (k + 1) xs) (holder.Location (k + suc j)))) (other_holder (holder.Location k) (holder.Location (k + suc j)) (λ e. omega (arith, e)))
    ∙ ap (λ n. word_at (location_settings (k + 1) xs) (holder.Location n)) same
    ∙ location_word (k + 1) xs j

-- ---- all of them

register_of_test : (ls : List Location) (starts : List (List ℕ)) (hart r : ℕ) → length ls ≤ 8 → AreLong starts → hart < length starts → r < 32 → word_at (test_settings ls starts) (holder.Register hart r) ≡ get_or (get_or starts hart []) r 0
register_of_test ls starts hart r few long h low =
    let same : hart ≡ 0 + hart = omega arith in
    word_later 0 8 (location_settings 0 ls) (start_settings 0 starts) (holder.Register hart r) (locations_first ls few) (omega arith)
    ∙ ap (λ n. word_at (start_settings 0 starts) (holder.Register n r)) same
    ∙ start_word 0 starts hart r long h low

location_of_test : (ls : List Location) (starts : List (List ℕ)) (k : ℕ) → AreLong starts → k < 8 → word_at (test_settings ls starts) (holder.Location k) ≡ get_or (map (λ x. x.word) ls) k 0
location_of_test ls starts k long low =
    let same : k ≡ 0 + k = omega arith in
    word_earlier 8 (rank_from (length starts)) (location_settings 0 ls) (start_settings 0 starts) (holder.Location k) (registers_next starts long) low
    ∙ ap (λ n. word_at (location_settings 0 ls) (holder.Location n)) same
    ∙ location_word 0 ls k

long_at : (starts : List (List ℕ)) (k : ℕ) → AreLong starts → k < length starts → length (get_or starts k []) ≡ 32
long_at [] k long h = absurd (omega (arith, h))
long_at (words ∷ starts) zero long h = long.0
long_at (words ∷ starts) (suc k) long h = long_at starts k long.1 (omega (arith, h))

pub starts_are : (ls : List Location) (starts : List (List ℕ)) → length ls ≤ 8 → AreLong starts → starts ≡ starts_of (length starts) (test_settings ls starts)
starts_are ls starts few long =
    fill_by_all (registers_of (test_settings ls starts)) starts (length starts) [] refl
    (λ k h. fill_by_all (λ r. word_at (test_settings ls starts) (holder.Register k r)) (get_or starts k []) 32 0 (long_at starts k long h)
    (λ r low. sym (register_of_test ls starts k r few long h low)))

pub locations_are : (ls : List Location) (starts : List (List ℕ)) → length ls ≤ 8 → AreLong starts → AreLocations (names_of ls) (test_settings ls starts) ls
locations_are ls starts few long =
    let first = length-map ls (λ x. x.word) in
    let second = length-map ls (λ x. x.name) in
    record {
      named = refl;
      words = fill_by_all (λ k. word_at (test_settings ls starts) (holder.Location k)) (map (λ x. x.word) ls) (length (names_of ls)) 0 (first ∙ sym second)
          (λ k h. sym (location_of_test ls starts k long (omega (arith, h, second, few))));
    }
