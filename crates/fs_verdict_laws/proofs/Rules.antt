-- What the rules of preserved program order and the judged relation are made of.
use Rattle.std.proofs.Common.{◌≡◌, ℕ, ◌==◌, inl, inr, Bool, true, false, not, ◌&&◌, ◌||◌, Option, None, Some, List, [], ◌∷◌, ◌++◌, map, refl, sym, ◌∙◌, ap}
use Rattle.std.specs.List.{list_any}
use Rattle.std.proofs.lemmas.Bool.{false≢true, and_parts, and_from, or_cases, or_left, or_right, ne_eqb, eq-eqb, not-true}
use Rattle.std.proofs.lemmas.List.Folds.{list_any-append}
use Rattle.fs_kinds.specs.declared.placement.Entry.{Entry}
use Rattle.fs_model.specs.declared.test.Test.{Test}
use Rattle.fs_model.specs.Numbers.{is_same}
use Rattle.fs_model.specs.Operations.{PreExecution, is_load, is_store, same_hart, po, is_amo_or_sc, any_between}
use Rattle.fs_model.specs.Dependencies.{address_dependency, data_dependency}
use Rattle.fs_model.specs.Preserved.{Rule, Rule1, Rule2, Rule3, Rule4, Rule5, Rule6, Rule7, Rule8, Rule9, Rule10, Rule11, Rule12, Rule13, all_rules, case_of, rule, ppo}
use Rattle.fs_cert_evidence.specs.Candidates.{Candidate, runs_of, rf, co}
use Rattle.fs_cert_evidence.specs.Judged.{Cause, Preserved, ReadsFrom, Coherence, FromReads, all_causes, is_edge, is_judged, rfe, fr}
use Rattle.fs_model.proofs.OptionalNumbers.{same_parts}

-- ---- rules read the sources of loads alone

second_alike : (c d e : Bool) → (c ≡ true → d ≡ e) → (c && d) ≡ (c && e)
second_alike true d e same = same refl
second_alike false d e same = refl

any-alike : {X : Type 0} (f g : X → Bool) (xs : List X) → ((y : X) → f y ≡ g y) → list_any f xs ≡ list_any g xs
any-alike f g [] same = refl
any-alike f g (y ∷ ys) same = rw (same y, any-alike f g ys same) refl

module _ (x : PreExecution) (p : List Entry) (src other : ℕ → Option ℕ) (agree : (a : ℕ) → is_load x a ≡ true → src a ≡ other a) where
  case_alike : (a b : ℕ) (r : Rule) → case_of x p src a b r ≡ case_of x p other a b r
  case_alike a b Rule1 = refl
  case_alike a b Rule2 = second_alike _ (not (is_same (src a) (src b))) (not (is_same (other a) (other b))) (λ h.
      let loads = and_parts (is_load x a) (is_load x b) (and_parts _ _ (and_parts _ _ h).0).0 in
      rw (agree a loads.0, agree b loads.1) refl)
  case_alike a b Rule3 = second_alike (is_amo_or_sc x a && is_load x b) _ _ (λ h.
      let loads = and_parts (is_amo_or_sc x a) (is_load x b) h in rw (agree b loads.1) refl)
  case_alike a b Rule4 = refl
  case_alike a b Rule5 = refl
  case_alike a b Rule6 = refl
  case_alike a b Rule7 = refl
  case_alike a b Rule8 = refl
  case_alike a b Rule9 = refl
  case_alike a b Rule10 = refl
  case_alike a b Rule11 = refl
  case_alike a b Rule12 = second_alike (is_load x b) _ _ (λ h.
      ap (λ o. any_between x (λ m. is_store x m && (address_dependency x a m || data_dependency x a m) && is_same o (Some m)) a b) (agree b h))
  case_alike a b Rule13 = refl

  pub ppo_alike : (a b : ℕ) → ppo x p src a b ≡ ppo x p other a b
  ppo_alike a b =
      any-alike (rule x p src a b) (rule x p other a b) all_rules (λ r. ap (λ c. po x a b && c) (case_alike a b r))

-- something passes a test that some item passes
pub some_found : {X : Type 0} (f : X → Bool) (xs : List X) → list_any f xs ≡ true → (y : X) × (f y ≡ true)
some_found f [] found = absurd (false≢true found)
some_found f (y ∷ ys) found = elim (or_cases (f y) (list_any f ys) found) [
  | inl here ↦ (y, here)
  | inr later ↦ some_found f ys later
]

-- ---- the judged relation by its four causes

any-map : {X Y : Type 0} (f : Y → Bool) (g : X → Y) (xs : List X) → list_any f (map g xs) ≡ list_any (λ z. f (g z)) xs
any-map f g [] = refl
any-map f g (z ∷ zs) = ap (λ b. f (g z) || b) (any-map f g zs)

or_false : (b : Bool) → (b || false) ≡ b
or_false true = refl
or_false false = refl

any_cause : (f : Cause → Bool) → list_any f (map Preserved all_rules ++ ReadsFrom ∷ Coherence ∷ FromReads ∷ [])
    ≡ (list_any (λ r. f (Preserved r)) all_rules || (f ReadsFrom || (f Coherence || (f FromReads || false))))
any_cause f =
    list_any-append f (map Preserved all_rules) (ReadsFrom ∷ Coherence ∷ FromReads ∷ [])
    ∙ ap (λ b. b || (f ReadsFrom || (f Coherence || (f FromReads || false)))) (any-map f Preserved all_rules)

module _ (t : Test) (p : List Entry) (c : Candidate) (a b : ℕ) where
  -- some cause gives each edge, and nothing else is one
  pub judged_by_causes : is_judged (runs_of t c) p c a b ≡ list_any (is_edge (runs_of t c) p c a b) all_causes
  judged_by_causes =
      ap (λ d. ppo (runs_of t c) p (rf c) a b || (rfe (runs_of t c) c a b || (co c a b || d))) (sym (or_false (fr c a b)))
      ∙ sym (any_cause (is_edge (runs_of t c) p c a b))

  pub judged_ppo : ppo (runs_of t c) p (rf c) a b ≡ true → is_judged (runs_of t c) p c a b ≡ true
  judged_ppo h = or_left _ _ h

  pub judged_rf : rf c b ≡ Some a → same_hart (runs_of t c) a b ≡ false → is_judged (runs_of t c) p c a b ≡ true
  judged_rf source far =
      or_right (ppo (runs_of t c) p (rf c) a b) _ (or_left _ _ (edge (rf c b) source (same_hart (runs_of t c) a b) far))
    where
      edge : (o : Option ℕ) → o ≡ Some a → (d : Bool) → d ≡ false → (is_same o (Some a) && not d) ≡ true
      edge o e d f = rw (e, f) (and_from _ _ (eq-eqb a a refl) refl)

  pub judged_co : co c a b ≡ true → is_judged (runs_of t c) p c a b ≡ true
  judged_co h = or_right (ppo (runs_of t c) p (rf c) a b) _ (or_right (rfe (runs_of t c) c a b) _ (or_left _ _ h))

  fr_from : (s : ℕ) → rf c a ≡ Some s → co c s b ≡ true → (a ≡ b → ⊥) → fr c a b ≡ true
  fr_from s source later apart = rw (ne_eqb a b apart, source) later

  pub judged_fr : (s : ℕ) → rf c a ≡ Some s → co c s b ≡ true → (a ≡ b → ⊥) → is_judged (runs_of t c) p c a b ≡ true
  judged_fr s source later apart =
      or_right (ppo (runs_of t c) p (rf c) a b) _ (or_right (rfe (runs_of t c) c a b) _
      (or_right (co c a b) _ (fr_from s source later apart)))

  -- what the causes ask
  pub data IsCaused : Type 0 where
    ByRule : (preserved : ppo (runs_of t c) p (rf c) a b ≡ true) → IsCaused
    BySource : (source : rf c b ≡ Some a) (far : same_hart (runs_of t c) a b ≡ false) → IsCaused
    ByOrder : (later : co c a b ≡ true) → IsCaused
    ByRead : (s : ℕ) (source : rf c a ≡ Some s) (later : co c s b ≡ true) (apart : (a == b) ≡ false) → IsCaused

  fr_parts : fr c a b ≡ true → (s : ℕ) × (rf c a ≡ Some s) × (co c s b ≡ true) × ((a == b) ≡ false)
  fr_parts h = by_source (rf c a) refl
    where
      by_source : (o : Option ℕ) → rf c a ≡ o → (s : ℕ) × (rf c a ≡ Some s) × (co c s b ≡ true) × ((a == b) ≡ false)
      by_source None e = absurd (false≢true (rw e at (and_parts (not (a == b)) _ h).1))
      by_source (Some s) e = (s, e, rw e at (and_parts (not (a == b)) _ h).1, not-true (a == b) (and_parts (not (a == b)) _ h).0)

  rf_parts : rfe (runs_of t c) c a b ≡ true → (rf c b ≡ Some a) × (same_hart (runs_of t c) a b ≡ false)
  rf_parts h =
      let parts = and_parts (is_same (rf c b) (Some a)) (not (same_hart (runs_of t c) a b)) h in
      let same = same_parts (rf c b) (Some a) parts.0 in
      (same.1 ∙ sym same.2, not-true (same_hart (runs_of t c) a b) parts.1)

  pub caused : is_judged (runs_of t c) p c a b ≡ true → IsCaused
  caused h = elim (or_cases (ppo (runs_of t c) p (rf c) a b) _ h) [
    | inl preserved ↦ ByRule preserved
    | inr others ↦ (elim (or_cases _ _ others) [
      | inl source ↦ (let parts = rf_parts source in BySource parts.0 parts.1)
      | inr rest ↦ (elim (or_cases (co c a b) _ rest) [
        | inl later ↦ ByOrder later
        | inr read ↦ (let parts = fr_parts read in ByRead parts.0 parts.1 parts.2 parts.3)
      ])
    ])
  ]
