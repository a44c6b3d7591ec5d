-- What is asked of each run of a hart is asked of the names of the hart and of the others apart, and of those of the
-- others once for all runs.
use Rattle.std.proofs.Common.{◌≡◌, ◌≢◌, ℕ, ◌+◌, ◌<◌, ◌≤◌, get_or, take, Bool, true, false, ◌||◌, ◌&&◌, List, [], ◌∷◌, map, filter, length, cond, refl, sym, ◌∙◌, ap}
use Rattle.std.specs.Prelude.{◌==◌, not, nat_lt, if◌then◌else◌, slice_get, unwrap_or}
use Rattle.std.specs.List.{list_all, list_any, zip}
use Rattle.std.specs.Borrow.{Bor}
use Rattle.std.proofs.Math.Path.{fun_ext}
use Rattle.std.proofs.lemmas.Bool.{eq-eqb, ne_eqb}
use Rattle.std.proofs.lemmas.List.{take_all}
use Rattle.std.proofs.lemmas.List.Folds.{list_all_more, list_all-map}
use Rattle.fs_kinds.specs.declared.reason.OperationName.{OperationName as Name}
use Rattle.fs_model.specs.declared.test.Test.{Test}
use Rattle.fs_model.specs.declared.step.Step.{Step}
use Rattle.fs_model.specs.Condition.{Condition, Both, Either, condition_of}
use Rattle.fs_model.specs.Execution.{initial_words}
use Rattle.fs_cert_evidence.specs.Regions.{Region, names, stored_at}
use Rattle.fs_cert_evidence.specs.Musts.{must_be, stores_such, may_end}
use Rattle.fs_cert_evidence.specs.Splits.{with_run}
use Rattle.fs_region_refutation.specs.declared.endings.Ending.{Ending}
use Rattle.fs_region_refutation.specs.Alone.{RunOf}
use Rattle.fs_region_refutation.specs.declared.region.Wanted.{Wanted}
use Rattle.fs_region_refutation.specs.Views.{runs_of, accesses_at, wanted_of, all_wanted}
use Rattle.fs_region_refutation.specs.inner.Each.{of_hart, of_others, is_last, is_ending, stores_under, ends_with, joins, may_with, may_each, may_all_with, registers_each}
use Rattle.fs_region_refutation.proofs.Alike.{own_ends}
use Rattle.fs_region_refutation.proofs.Lists.{first_if, second_if, map_seen}

-- ---- Booleans

and_true : (b : Bool) → (b && true) ≡ b
and_true true = refl
and_true false = refl

pub or_false : (b : Bool) → (b || false) ≡ b
or_false true = refl
or_false false = refl

or_swap : (f a b : Bool) → (f || (a || b)) ≡ (a || (f || b))
or_swap true true b = refl
or_swap true false b = refl
or_swap false a b = refl

or_group : (f a b : Bool) → (f || (a || b)) ≡ ((f || a) || b)
or_group true a b = refl
or_group false a b = refl

-- the first word stays unless one of both stores there
ends_apart : (first others own stored such : Bool)
    → (first && not (others || own) || (stored || such)) ≡ (stored || (first && not others && not own || such))
ends_apart true true own stored such = refl
ends_apart true false true stored such = refl
ends_apart true false false true such = refl
ends_apart true false false false such = refl
ends_apart false others own stored such = refl

-- ---- names of one hart and of others

module _ (p q : Name → Bool) where
  any_kept_at : (a : Name) (ns : List Name) (b : Bool) → list_any (λ x. p x && q x) ns ≡ list_any q (filter p ns)
      → (b && q a || list_any (λ x. p x && q x) ns) ≡ list_any q (cond b (a ∷ filter p ns) (filter p ns))
  any_kept_at a ns true rest = ap (λ b. q a || b) rest
  any_kept_at a ns false rest = rest

  any_kept : (ns : List Name) → list_any (λ a. p a && q a) ns ≡ list_any q (filter p ns)
  any_kept [] = refl
  any_kept (a ∷ ns) = any_kept_at a ns (p a) (any_kept ns)

module _ (hart : ℕ) (run : List Step) (region : Region) (asks : List (List Step) → Name → Bool) where
  abbrev with_others : Name → Bool
  with_others a = asks (region.runs a.hart) a

  abbrev with_own : Name → Bool
  with_own = asks (run ∷ [])

  abbrev with_both : Name → Bool
  with_both a = asks ((with_run hart run region).runs a.hart) a

  apart_at : (a : Name) (ns : List Name) (b : Bool)
      → list_any with_both ns ≡ (list_any with_others (of_others hart ns) || list_any with_own (of_hart hart ns))
      → (asks (if b then run ∷ [] else region.runs a.hart) a || list_any with_both ns)
      ≡ (list_any with_others (cond (not b) (a ∷ of_others hart ns) (of_others hart ns)) || list_any with_own (cond b (a ∷ of_hart hart ns) (of_hart hart ns)))
  apart_at a ns true rest =
      ap (λ b. with_own a || b) rest ∙ or_swap (with_own a) (list_any with_others (of_others hart ns)) (list_any with_own (of_hart hart ns))
  apart_at a ns false rest =
      ap (λ b. with_others a || b) rest ∙ or_group (with_others a) (list_any with_others (of_others hart ns)) (list_any with_own (of_hart hart ns))

  apart : (ns : List Name) → list_any with_both ns ≡ (list_any with_others (of_others hart ns) || list_any with_own (of_hart hart ns))
  apart [] = refl
  apart (a ∷ ns) = apart_at a ns (a.hart == hart) (apart ns)

-- ---- how a location ends

module _ (t : Test) (hart : ℕ) (region : Region) (location : ℕ) (ending : Ending) where
  -- the others must store there
  abbrev pub others_must : Bool
  others_must = list_any (λ a. must_be t region stored_at a location) (of_others hart (names t))

  -- the others may store such a word there
  abbrev pub others_may : Bool
  others_may =
      list_any (λ a. list_any (stores_such location (is_ending ending) a) (region.runs a.hart)) (of_others hart (filter (is_last t region) (names t)))

  abbrev pub begins : Bool
  begins = is_ending ending (unwrap_or (slice_get (initial_words t) location) 0) && not others_must

  pub may_end_apart : (run : List Step)
      → may_end t (with_run hart run region) location (is_ending ending)
      ≡ (others_may || ends_with t location ending begins (of_hart hart (names t)) (of_hart hart (filter (is_last t region) (names t))) run)
  may_end_apart run =
      let must : List (List Step) → Name → Bool = λ runs a. nat_lt a.hart (length t.codes) && list_all (accesses_at stored_at a.at location) runs in
      let store : List (List Step) → Name → Bool = λ runs a. list_any (stores_such location (is_ending ending) a) runs in
      let first = is_ending ending (unwrap_or (slice_get (initial_words t) location) 0) in
      let own = list_any (stores_under t location run) (of_hart hart (names t)) in
      let such = list_any (λ a. stores_such location (is_ending ending) a run) (of_hart hart (filter (is_last t region) (names t))) in
      let musts : list_any (with_both hart run region must) (names t) ≡ (others_must || own) =
      apart hart run region must (names t)
      ∙ ap (λ f. others_must || list_any f (of_hart hart (names t)))
      (fun_ext (λ (a : Name). ap (λ b. nat_lt a.hart (length t.codes) && b) (and_true (accesses_at stored_at a.at location run)))) in
      let stores : list_any (λ a. is_last t region a && with_both hart run region store a) (names t) ≡ (others_may || such) =
      any_kept (is_last t region) (with_both hart run region store) (names t)
      ∙ apart hart run region store (filter (is_last t region) (names t))
      ∙ ap (λ f. others_may || list_any f (of_hart hart (filter (is_last t region) (names t))))
      (fun_ext (λ (a : Name). or_false (stores_such location (is_ending ending) a run))) in
      ap (λ b. first && not b || list_any (λ a. is_last t region a && with_both hart run region store a) (names t)) musts
      ∙ ap (λ b. first && not (others_must || own) || b) stores
      ∙ ends_apart first others_must own others_may such

  pub ends_stored : others_may ≡ true → (runs : List (List Step))
      → map (λ run. true) runs ≡ map (λ run. may_end t (with_run hart run region) location (is_ending ending)) runs
  ends_stored stored runs =
      ap (λ (f : List Step → Bool). map f runs)
      (fun_ext (λ run. sym (may_end_apart run
      ∙ ap (λ b. b || ends_with t location ending begins (of_hart hart (names t)) (of_hart hart (filter (is_last t region) (names t))) run) stored)))

  pub ends_kept : (stays : Bool) (all last : List Name) → others_may ≡ false → stays ≡ begins → all ≡ of_hart hart (names t)
      → last ≡ of_hart hart (filter (is_last t region) (names t)) → (runs : List (List Step))
      → map (ends_with t location ending stays all last) runs ≡ map (λ run. may_end t (with_run hart run region) location (is_ending ending)) runs
  ends_kept stays all last stored stay are are_last runs =
      ap (λ b. map (ends_with t location ending b all last) runs) stay
      ∙ ap (λ ns. map (ends_with t location ending begins ns last) runs) are
      ∙ ap (λ ns. map (ends_with t location ending begins (of_hart hart (names t)) ns) runs) are_last
      ∙ ap (λ (f : List Step → Bool). map f runs)
      (fun_ext (λ run. sym (may_end_apart run
      ∙ ap (λ b. b || ends_with t location ending begins (of_hart hart (names t)) (of_hart hart (filter (is_last t region) (names t))) run) stored)))

-- ---- how a register ends

module _ (t : Test) (hart own register : ℕ) (ending : Ending) (region : Region) where
  pub registers_own : own ≡ hart → map (own_ends t hart register ending) (region.runs hart) ≡ registers_each t hart region own register ending
  registers_own same =
      ap (λ (f : List Step → Bool). map f (region.runs hart))
      (fun_ext (λ run.
      sym (or_false (own_ends t hart register ending run))
      ∙ ap (λ h. list_any (own_ends t h register ending) (run ∷ [])) (sym same)
      ∙ ap (list_any (own_ends t own register ending)) (first_if (own == hart) (run ∷ []) (region.runs own) (eq-eqb own hart same))))

  pub registers_other : own ≢ hart → (ends : Bool) → ends ≡ list_any (own_ends t own register ending) (region.runs own)
      → map (λ run. ends) (region.runs hart) ≡ registers_each t hart region own register ending
  registers_other differ ends is =
      ap (λ (f : List Step → Bool). map f (region.runs hart))
      (fun_ext (λ run.
      is ∙ ap (list_any (own_ends t own register ending)) (second_if (own == hart) (run ∷ []) (region.runs own) (ne_eqb own hart differ))))

-- ---- truth values, one for each run

-- the same for each run
pub same_seen : (mark : Bool) (runs others : List (Bor RunOf)) → runs ≡ others → map (λ run. mark) runs ≡ map (λ run. mark) (runs_of others)
same_seen mark runs others same =
    ap (map (λ run. mark)) same ∙ sym (map_seen (λ (run : Bor RunOf). run.now.steps) (λ run. mark) others)

-- what is joined entry by entry is made of each item
pub joined_maps : {X : Type 0} (at_once : Bool) (f g : X → Bool) (xs : List X)
    → map (λ (pair : Bool × Bool). joins at_once pair.0 pair.1) (zip (map f xs) (map g xs)) ≡ map (λ x. joins at_once (f x) (g x)) xs
joined_maps at_once f g [] = refl
joined_maps at_once f g (x ∷ xs) = ap (λ bs. joins at_once (f x) (g x) ∷ bs) (joined_maps at_once f g xs)

module _ (t : Test) (hart : ℕ) (region : Region) (c d : Condition) where
  pub both_each : (v : Bool) (first second : List Bool) → first ≡ may_each t hart region c v → second ≡ may_each t hart region d v
      → map (λ (pair : Bool × Bool). joins v pair.0 pair.1) (zip first second) ≡ may_each t hart region (Both c d) v
  both_each true first second is are =
      ap (λ bs. map (λ (pair : Bool × Bool). joins true pair.0 pair.1) (zip bs second)) is
      ∙ ap (λ bs. map (λ (pair : Bool × Bool). joins true pair.0 pair.1) (zip (may_each t hart region c true) bs)) are
      ∙ joined_maps true (may_with t hart region c true) (may_with t hart region d true) (region.runs hart)
  both_each false first second is are =
      ap (λ bs. map (λ (pair : Bool × Bool). joins false pair.0 pair.1) (zip bs second)) is
      ∙ ap (λ bs. map (λ (pair : Bool × Bool). joins false pair.0 pair.1) (zip (may_each t hart region c false) bs)) are
      ∙ joined_maps false (may_with t hart region c false) (may_with t hart region d false) (region.runs hart)

  pub either_each : (v : Bool) (first second : List Bool) → first ≡ may_each t hart region c v → second ≡ may_each t hart region d v
      → map (λ (pair : Bool × Bool). joins (not v) pair.0 pair.1) (zip first second) ≡ may_each t hart region (Either c d) v
  either_each true first second is are =
      ap (λ bs. map (λ (pair : Bool × Bool). joins false pair.0 pair.1) (zip bs second)) is
      ∙ ap (λ bs. map (λ (pair : Bool × Bool). joins false pair.0 pair.1) (zip (may_each t hart region c true) bs)) are
      ∙ joined_maps false (may_with t hart region c true) (may_with t hart region d true) (region.runs hart)
  either_each false first second is are =
      ap (λ bs. map (λ (pair : Bool × Bool). joins true pair.0 pair.1) (zip bs second)) is
      ∙ ap (λ bs. map (λ (pair : Bool × Bool). joins true pair.0 pair.1) (zip (may_each t hart region c false) bs)) are
      ∙ joined_maps true (may_with t hart region c false) (may_with t hart region d false) (region.runs hart)

-- one condition more
module _ (t : Test) (hart : ℕ) (region : Region) (wanted : List Wanted) where
  -- the first so many may have their truth values with this run
  abbrev pub may_first : ℕ → List Step → Bool
  may_first n run = list_all (λ w. may_with t hart region (condition_of w.condition.now) w.truth run) (take n wanted)

  pub may_more : (i : ℕ) (w : Wanted) (old more new : List Bool) → i < length wanted → w ≡ get_or wanted i w
      → old ≡ map (may_first i) (region.runs hart)
      → more ≡ map (may_with t hart region (condition_of w.condition.now) w.truth) (region.runs hart)
      → new ≡ map (λ (pair : Bool × Bool). joins true pair.0 pair.1) (zip old more)
      → new ≡ map (may_first (i + 1)) (region.runs hart)
  may_more i w old more new low at before here is =
      let now : List Step → Bool = may_with t hart region (condition_of w.condition.now) w.truth in
      is
      ∙ ap (λ bs. map (λ (pair : Bool × Bool). joins true pair.0 pair.1) (zip bs more)) before
      ∙ ap (λ bs. map (λ (pair : Bool × Bool). joins true pair.0 pair.1) (zip (map (may_first i) (region.runs hart)) bs)) here
      ∙ joined_maps true (may_first i) now (region.runs hart)
      ∙ ap (λ (f : List Step → Bool). map f (region.runs hart))
      (fun_ext (λ run.
      ap (λ (v : Wanted). may_first i run && may_with t hart region (condition_of v.condition.now) v.truth run) at
      ∙ sym (list_all_more (λ v. may_with t hart region (condition_of v.condition.now) v.truth run) wanted i w low)))

  pub may_all : (i : ℕ) → length wanted ≤ i → map (may_first i) (region.runs hart) ≡ map (may_all_with t hart region (all_wanted wanted)) (region.runs hart)
  may_all i high =
      ap (λ (f : List Step → Bool). map f (region.runs hart))
      (fun_ext (λ run.
      ap (list_all (λ w. may_with t hart region (condition_of w.condition.now) w.truth run)) (take_all i wanted high)
      ∙ sym (list_all-map (λ (w : Condition × Bool). may_with t hart region w.0 w.1 run) wanted_of wanted)))
