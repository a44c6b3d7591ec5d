-- Where no run stores at a location, no atom asks it of each run.
use Rattle.std.proofs.Common.{◌≡◌, ℕ, ◌+◌, inl, inr, Bool, true, false, ◌&&◌, ◌||◌, Option, None, Some, List, [], ◌∷◌, ◌++◌, map, filter, length, cond, refl, sym, ◌∙◌, ap, arith}
use Rattle.std.specs.Prelude.{◌==◌, is_some, not, nat_lt, slice_get, unwrap_or}
use Rattle.std.specs.List.{list_any}
use Rattle.std.proofs.lemmas.Bool.{cases_lt, false≢true, and_right}
use Rattle.std.proofs.lemmas.List.FromFn.{length-map-range_with_len, get_or-map-range_with_len, map-range_with_len_more}
use Rattle.std.proofs.lemmas.Option.{none-some, slice_get-get_or, slice_get_past}
use Rattle.fs_kinds.specs.declared.reason.OperationName.{OperationName as Name}
use Rattle.fs_model.specs.declared.test.Test.{Test}
use Rattle.fs_model.specs.declared.step.Step.{Step}
use Rattle.fs_model.specs.Numbers.{is_same, numbers_below}
use Rattle.fs_model.specs.Test.{address_of}
use Rattle.fs_cert_evidence.specs.Regions.{Region, address_at, stored_at}
use Rattle.fs_cert_evidence.specs.Musts.{passes, stores_such}
use Rattle.fs_region_refutation.specs.declared.endings.Ending.{Ending}
use Rattle.fs_region_refutation.specs.Views.{accesses_at}
use Rattle.fs_region_refutation.specs.inner.Each.{of_hart, is_ending, stores_under, ends_with, stores_there, own_are_quiet, others_are_quiet, AreMarks}

-- ---- marks

pub marks_more : (f : ℕ → Bool) (marks : List Bool) (mark : Bool) (n : ℕ) → marks ≡ map f (numbers_below n) → mark ≡ f n
    → marks ++ mark ∷ [] ≡ map f (numbers_below (n + 1))
marks_more f marks mark n before is =
    ap (λ bs. bs ++ mark ∷ []) before ∙ ap (λ b. map f (numbers_below n) ++ b ∷ []) is ∙ sym (map-range_with_len_more f 0 n n (omega arith))

pub marked : (f : ℕ → Bool) (marks : List Bool) (n : ℕ) → marks ≡ map f (numbers_below n) → AreMarks f marks
marked f marks n are location is =
    let long = length-map-range_with_len f 0 n in
    let there = sym (ap (λ bs. slice_get bs location) are) ∙ is in
    elim (cases_lt location n) [
      | inl low ↦
          ap (λ (o : Option Bool). unwrap_or o true)
          (sym (slice_get-get_or (map f (numbers_below n)) location false (omega (arith, low, long))
          ∙ ap Some (get_or-map-range_with_len f 0 n location location false low (omega arith))) ∙ there)
      | inr high ↦ absurd (none-some true (sym (slice_get_past (map f (numbers_below n)) location (omega (arith, high, long))) ∙ there))
    ]

-- ---- what is false throughout

pub not_true : (b : Bool) → not b ≡ true → b ≡ false
not_true true e = sym e
not_true false e = refl

first_false : (a b : Bool) → (a || b) ≡ false → a ≡ false
first_false true b e = e
first_false false b e = refl

rest_false : (a b : Bool) → (a || b) ≡ false → b ≡ false
rest_false true b e = absurd (false≢true (sym e))
rest_false false b e = e

module _ {X : Type 0} (f g : X → Bool) (less : (x : X) → f x ≡ false → g x ≡ false) where
  pub any_less : (xs : List X) → list_any f xs ≡ false → list_any g xs ≡ false
  any_less [] e = refl
  any_less (x ∷ xs) e =
      ap (λ b. b || list_any g xs) (less x (first_false (f x) (list_any f xs) e)) ∙ any_less xs (rest_false (f x) (list_any f xs) e)

-- those that are kept are some of them
module _ (f p : Name → Bool) (hart : ℕ) where
  own_step : (a : Name) (xs ys : List Name) (own : Bool) → (list_any f xs ≡ false → list_any f ys ≡ false)
      → list_any f (cond own (a ∷ xs) xs) ≡ false → list_any f (cond own (a ∷ ys) ys) ≡ false
  own_step a xs ys true rest e =
      ap (λ b. b || list_any f ys) (first_false (f a) (list_any f xs) e) ∙ rest (rest_false (f a) (list_any f xs) e)
  own_step a xs ys false rest e = rest e

  tail_step : (a : Name) (xs : List Name) (own : Bool) → list_any f (cond own (a ∷ xs) xs) ≡ false → list_any f xs ≡ false
  tail_step a xs true e = rest_false (f a) (list_any f xs) e
  tail_step a xs false e = e

  kept_step : (a : Name) (ns kept : List Name) (keeps : Bool)
      → (list_any f (of_hart hart ns) ≡ false → list_any f (of_hart hart kept) ≡ false)
      → list_any f (of_hart hart (a ∷ ns)) ≡ false → list_any f (of_hart hart (cond keeps (a ∷ kept) kept)) ≡ false
  kept_step a ns kept true rest e = own_step a (of_hart hart ns) (of_hart hart kept) (a.hart == hart) rest e
  kept_step a ns kept false rest e = rest (tail_step a (of_hart hart ns) (a.hart == hart) e)

  pub any_left : (ns : List Name) → list_any f (of_hart hart ns) ≡ false → list_any f (of_hart hart (filter p ns)) ≡ false
  any_left [] e = e
  any_left (a ∷ ns) e = kept_step a ns (filter p ns) (p a) (any_left ns) e

-- ---- what isn't stored is no such word

such : (stored : Option ℕ) (there : Bool) (test : ℕ → Bool) → (is_some stored && there) ≡ false → (there && passes test stored) ≡ false
such None there test e = and_right there false refl
such (Some word) there test e = ap (λ b. b && passes test (Some word)) e

module _ (location : ℕ) (test : ℕ → Bool) where
  such_less : (a : Name) (run : List Step) → accesses_at stored_at a.at location run ≡ false → stores_such location test a run ≡ false
  such_less a run e = such (stored_at run a.at) (is_same (address_at run a.at) (Some (address_of location))) test e

  -- no run of the others stores there
  pub none_such : (region : Region) (ns : List Name) → others_are_quiet region ns location ≡ true
      → false ≡ list_any (λ a. list_any (stores_such location test a) (region.runs a.hart)) ns
  none_such region ns quiet =
      sym (any_less (λ (a : Name). list_any (accesses_at stored_at a.at location) (region.runs a.hart))
      (λ a. list_any (stores_such location test a) (region.runs a.hart))
      (λ a. any_less (accesses_at stored_at a.at location) (stores_such location test a) (such_less a) (region.runs a.hart)) ns
      (not_true (list_any (λ (a : Name). list_any (accesses_at stored_at a.at location) (region.runs a.hart)) ns) quiet))

same_end : (b : Bool) → (b && true || false) ≡ b
same_end true = refl
same_end false = refl

module _ (t : Test) (location : ℕ) (ending : Ending) (begins : Bool) (hart : ℕ) (p : Name → Bool) (ns : List Name) where
  abbrev ends : List Step → Bool
  ends = ends_with t location ending begins (of_hart hart ns) (of_hart hart (filter p ns))

  -- the run doesn't store there
  quiet_run : (run : List Step) → stores_there (of_hart hart ns) location run ≡ false → ends run ≡ begins
  quiet_run run e =
      let stores : Name → Bool = λ a. accesses_at stored_at a.at location run in
      ap (λ b. begins && not b || list_any (λ a. stores_such location (is_ending ending) a run) (of_hart hart (filter p ns)))
      (any_less stores (stores_under t location run) (λ a none. and_right (nat_lt a.hart (length t.codes)) (stores a) none) (of_hart hart ns) e)
      ∙ ap (λ b. begins && true || b)
      (any_less stores (λ a. stores_such location (is_ending ending) a run) (λ a none. such_less location (is_ending ending) a run none)
      (of_hart hart (filter p ns)) (any_left stores p hart ns e))
      ∙ same_end begins

  quiet_runs : (runs : List (List Step)) → list_any (stores_there (of_hart hart ns) location) runs ≡ false → map (λ run. begins) runs ≡ map ends runs
  quiet_runs [] e = refl
  quiet_runs (run ∷ runs) e =
      ap (λ b. b ∷ map (λ run. begins) runs)
      (sym (quiet_run run (first_false (stores_there (of_hart hart ns) location run) (list_any (stores_there (of_hart hart ns) location) runs) e)))
      ∙ ap (λ bs. ends run ∷ bs)
      (quiet_runs runs (rest_false (stores_there (of_hart hart ns) location run) (list_any (stores_there (of_hart hart ns) location) runs) e))

  pub own_quiet_ends : (runs : List (List Step)) (own : List Name) → own ≡ of_hart hart ns → own_are_quiet runs own location ≡ true
      → map (λ run. begins) runs ≡ map ends runs
  own_quiet_ends runs own is quiet =
      quiet_runs runs
      (ap (λ names. list_any (stores_there names location) runs) (sym is) ∙ not_true (list_any (stores_there own location) runs) quiet)
