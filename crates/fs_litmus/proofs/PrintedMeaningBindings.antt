-- The bindings of a printed form set the words of its locations, and those of its registers that don't begin at 0.
use Rattle.std.proofs.Common.{◌≡◌, ℕ, ◌+◌, ◌<◌, ◌≤◌, ◌^◌, suc, List, [], ◌∷◌, ◌++◌, map, flat_map, length, get_or, slice_get, Some, Bool, true, false, not, cond, ◌==◌, eqb-true, All, refl, sym, ap, ◌∙◌, subst, arith, suc-le-suc}
use Rattle.std.specs.List.{enumerate_from}
use Rattle.fs_litmus.specs.Settings.{settings_after}
use Rattle.fs_model.specs.Test.{IsStart}
use Rattle.fs_model.specs.declared.test.Location.{Location}
use Rattle.fs_litmus.specs.inner.Written.{location_binding, register_binding, start_bindings}
use Rattle.fs_litmus.proofs.PrintedMeaningNames.{names_of, AreApart}
use Rattle.fs_litmus.proofs.PrintedMeaningValues.{register_set, location_set, AreFrom, from_first, from_later}
use Rattle.fs_litmus.proofs.PrintedMeaningSettings.{rank_from, AreSet, set_join, settings_rise}
use Rattle.fs_litmus.proofs.PrintedMeaningStarts.{location_settings, register_settings, set_words, start_settings, test_settings, AreLong, all_rise}
use Rattle.std.proofs.lemmas.Bool.{false_from_ne_true}

locations_set : (columns : ℕ) (ls : List Location) (k : ℕ) (rest : List Location) → AreApart ls → AreFrom ls k rest → All (λ x. x.word < 2 ^ 32) rest → AreSet columns (names_of ls) (map location_binding rest) (location_settings k rest)
locations_set columns ls k [] apart h fit = tt
locations_set columns ls k (x ∷ rest) apart h fit =
    (location_set columns ls k x apart (from_first ls k x rest h) (fit 0 x (omega arith)), refl, locations_set columns ls (k + 1) rest apart (from_later ls k x rest h) (λ j d l. fit (suc j) d (suc-le-suc l)))

-- a word of x0 is 0, and so isn't set
not_x0 : (r w : ℕ) → (r ≡ 0 → w ≡ 0) → not (w == 0) ≡ true → (r == 0) ≡ false
not_x0 r w h e = false_from_ne_true (r == 0) (λ z. let gone = ap (λ n. not (n == 0)) (h (eqb-true r 0 z)) in let bad : false ≡ true = sym gone ∙ e in cc)

module _ (columns : ℕ) (ls : List Location) (apart : AreApart ls) (few : length ls ≤ 8) (harts : columns ≤ 8) where
  register_either : (hart r w : ℕ) (ns : List (ℕ × ℕ)) (b : Bool) → hart < columns → r < 32 → w < 2 ^ 32 → (b ≡ true → (r == 0) ≡ false) → AreSet columns (names_of ls) (map (register_binding ls hart) ns) (register_settings hart ns) → AreSet columns (names_of ls) (map (register_binding ls hart) (cond b ((r, w) ∷ ns) ns)) (register_settings hart (cond b ((r, w) ∷ ns) ns))
  register_either hart r w ns true there low small apart_x0 h = (register_set columns ls hart r w apart few there harts low small, apart_x0 refl, h)
  register_either hart r w ns false there low small apart_x0 h = h

  registers_set : (hart r : ℕ) (words : List ℕ) → hart < columns → r + length words ≤ 32 → (r ≡ 0 → get_or words 0 0 ≡ 0) → All (λ w. w < 2 ^ 32) words → AreSet columns (names_of ls) (map (register_binding ls hart) (set_words r words)) (register_settings hart (set_words r words))
  registers_set hart r [] there low x0 fit = tt
  registers_set hart r (w ∷ words) there low x0 fit =
      register_either hart r w (set_words (r + 1) words) (not (w == 0)) there (omega (arith, low)) (fit 0 w (omega arith)) (not_x0 r w x0)
      (registers_set hart (r + 1) words there (omega (arith, low)) (λ e. absurd (omega (arith, e))) (λ j d l. fit (suc j) d (suc-le-suc l)))

  starts_set : (hart : ℕ) (starts : List (List ℕ)) → hart + length starts ≤ columns → All IsStart starts → AreSet columns (names_of ls) (flat_map (start_bindings ls) (enumerate_from hart starts)) (start_settings hart starts)
  starts_set hart [] there h = tt
  starts_set hart (words ∷ starts) there h =
      let start = h 0 words (omega arith) in
      let long = start.registers in
      set_join columns (names_of ls) (start_bindings ls (hart, words)) (flat_map (start_bindings ls) (enumerate_from (hart + 1) starts)) (register_settings hart (set_words 0 words)) (start_settings (hart + 1) starts)
      (registers_set hart 0 words (omega (arith, there)) (omega (arith, long)) (λ e. start.zero_register) start.fit)
      (starts_set (hart + 1) starts (omega (arith, there)) (λ j d l. h (suc j) d (suc-le-suc l)))

pub are_long : (starts : List (List ℕ)) → All IsStart starts → AreLong starts
are_long [] h = tt
are_long (words ∷ starts) h = ((h 0 words (omega arith)).registers, are_long starts (λ j d l. h (suc j) d (suc-le-suc l)))

-- the settings of all bindings
pub settings_are : (columns : ℕ) (ls : List Location) (starts : List (List ℕ)) → AreApart ls → length ls ≤ 8 → columns ≤ 8 → length starts ≡ columns → All IsStart starts → All (λ x. x.word < 2 ^ 32) ls
    → settings_after columns (names_of ls) [] (map location_binding ls ++ flat_map (start_bindings ls) (enumerate_from 0 starts)) ≡ Some (test_settings ls starts)
settings_are columns ls starts apart few harts count h fit =
    settings_rise columns (names_of ls) 0 (rank_from (length starts)) (map location_binding ls ++ flat_map (start_bindings ls) (enumerate_from 0 starts)) (test_settings ls starts) []
    (set_join columns (names_of ls) (map location_binding ls) (flat_map (start_bindings ls) (enumerate_from 0 starts)) (location_settings 0 ls) (start_settings 0 starts)
    (locations_set columns ls 0 ls apart (λ j x e. let same : j ≡ 0 + j = omega arith in subst (λ n. slice_get ls n ≡ Some x) same e) fit)
    (starts_set columns ls apart few harts 0 starts (omega (arith, count)) h))
    (all_rise ls starts few (are_long starts h))
    tt
