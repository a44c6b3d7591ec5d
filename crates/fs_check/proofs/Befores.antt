-- The rules by their numbers, and the sources that they read.
use Rattle.std.proofs.Common.{◌≡◌, ℕ, zero, suc, ◌≤◌, ◌&&◌, Bool, true, false, not, Option, None, Some, option_map, List, refl, sym, ap, arith, inl, inr}
use Rattle.std.specs.Prelude.{◌==◌, slice_get, unwrap_or}
use Rattle.std.proofs.lemmas.Bool.{false≢true, cases_Bool, and_parts, ne_eqb}
use Rattle.fs_kinds.specs.declared.placement.Entry.{Entry}
use Rattle.fs_model.specs.Numbers.{stands_before}
use Rattle.fs_model.specs.Operations.{PreExecution, po}
use Rattle.fs_model.specs.Source.{gmo, source_in}
use Rattle.fs_model.specs.Preserved.{Rule, Rule1, Rule2, Rule3, Rule4, Rule5, Rule6, Rule7, Rule8, Rule9, Rule10, Rule11, Rule12, Rule13, all_rules, rule, case_of}
use Rattle.fs_model.specs.Reasons.{is_against_rule}
use Rattle.fs_ppo.specs.Rules.{rule_of, numbered_rule}
use Rattle.fs_check.specs.inner.Breaking.{is_before}

-- rule 4 is that of fences
pub fences : (x : PreExecution) (p : List Entry) (rf : ℕ → Option ℕ) (a b : ℕ) → is_before x p rf 4 a b ≡ rule x p rf a b Rule4
fences x p rf a b = refl

and_false : (b : Bool) → (b && false) ≡ false
and_false true = refl
and_false false = refl

none_past : (n : ℕ) → 14 ≤ n → rule_of n ≡ None
unfolding rule_of
none_past n h = rw (ne_eqb 1 n (λ e. omega (arith, h, e)), ne_eqb 2 n (λ e. omega (arith, h, e)), ne_eqb 3 n (λ e. omega (arith, h, e)), ne_eqb 4 n (λ e. omega (arith, h, e)), ne_eqb 5 n (λ e. omega (arith, h, e)), ne_eqb 6 n (λ e. omega (arith, h, e)), ne_eqb 7 n (λ e. omega (arith, h, e)), ne_eqb 8 n (λ e. omega (arith, h, e)), ne_eqb 9 n (λ e. omega (arith, h, e)), ne_eqb 10 n (λ e. omega (arith, h, e)), ne_eqb 11 n (λ e. omega (arith, h, e)), ne_eqb 12 n (λ e. omega (arith, h, e)), ne_eqb 13 n (λ e. omega (arith, h, e))) refl

-- the others don't speak of the placement
pub numbered : (x : PreExecution) (p : List Entry) (rf : ℕ → Option ℕ) (n a b : ℕ) → (n == 4) ≡ false → numbered_rule n x rf a b ≡ is_before x p rf n a b
unfolding rule_of
numbered x p rf zero a b h = and_false (po x a b)
numbered x p rf (suc zero) a b h = refl
numbered x p rf (suc (suc zero)) a b h = refl
numbered x p rf (suc (suc (suc zero))) a b h = refl
numbered x p rf (suc (suc (suc (suc zero)))) a b h = absurd (false≢true (sym h))
numbered x p rf (suc (suc (suc (suc (suc zero))))) a b h = refl
numbered x p rf (suc (suc (suc (suc (suc (suc zero)))))) a b h = refl
numbered x p rf (suc (suc (suc (suc (suc (suc (suc zero))))))) a b h = refl
numbered x p rf (suc (suc (suc (suc (suc (suc (suc (suc zero)))))))) a b h = refl
numbered x p rf (suc (suc (suc (suc (suc (suc (suc (suc (suc zero))))))))) a b h = refl
numbered x p rf (suc (suc (suc (suc (suc (suc (suc (suc (suc (suc zero)))))))))) a b h = refl
numbered x p rf (suc (suc (suc (suc (suc (suc (suc (suc (suc (suc (suc zero))))))))))) a b h = refl
numbered x p rf (suc (suc (suc (suc (suc (suc (suc (suc (suc (suc (suc (suc zero)))))))))))) a b h = refl
numbered x p rf (suc (suc (suc (suc (suc (suc (suc (suc (suc (suc (suc (suc (suc zero))))))))))))) a b h = refl
numbered x p rf (suc (suc (suc (suc (suc (suc (suc (suc (suc (suc (suc (suc (suc (suc k)))))))))))))) a b h = rw (none_past (suc (suc (suc (suc (suc (suc (suc (suc (suc (suc (suc (suc (suc (suc k)))))))))))))) (omega arith)) (and_false (po x a b))

-- a rule reads the sources of a and b alone
case_agrees : (x : PreExecution) (p : List Entry) (rf other : ℕ → Option ℕ) (a b : ℕ) (r : Rule) → rf a ≡ other a → rf b ≡ other b → case_of x p rf a b r ≡ case_of x p other a b r
case_agrees x p rf other a b Rule1 e k = refl
case_agrees x p rf other a b Rule2 e k = rw (e, k) refl
case_agrees x p rf other a b Rule3 e k = rw k refl
case_agrees x p rf other a b Rule4 e k = refl
case_agrees x p rf other a b Rule5 e k = refl
case_agrees x p rf other a b Rule6 e k = refl
case_agrees x p rf other a b Rule7 e k = refl
case_agrees x p rf other a b Rule8 e k = refl
case_agrees x p rf other a b Rule9 e k = refl
case_agrees x p rf other a b Rule10 e k = refl
case_agrees x p rf other a b Rule11 e k = refl
case_agrees x p rf other a b Rule12 e k = rw k refl
case_agrees x p rf other a b Rule13 e k = refl

rule_agrees : (x : PreExecution) (p : List Entry) (rf other : ℕ → Option ℕ) (a b : ℕ) (r : Rule) → (po x a b ≡ true → (rf a ≡ other a) × (rf b ≡ other b)) → rule x p rf a b r ≡ rule x p other a b r
rule_agrees x p rf other a b r same = elim (cases_Bool (po x a b)) [
  | inl ordered ↦ (let parts = same ordered in ap (λ c. po x a b && c) (case_agrees x p rf other a b r parts.0 parts.1))
  | inr apart ↦ rw apart refl
]

pub before_agrees : (x : PreExecution) (p : List Entry) (rf other : ℕ → Option ℕ) (n a b : ℕ) → (po x a b ≡ true → (rf a ≡ other a) × (rf b ≡ other b)) → is_before x p rf n a b ≡ is_before x p other n a b
before_agrees x p rf other zero a b same = refl
before_agrees x p rf other (suc n) a b same = by_rule (slice_get all_rules n)
  where
    by_rule : (o : Option Rule) → unwrap_or (option_map (rule x p rf a b) o) false ≡ unwrap_or (option_map (rule x p other a b) o) false
    by_rule None = refl
    by_rule (Some r) = rule_agrees x p rf other a b r same

-- a rule asks for program order
pub before_in_po : (x : PreExecution) (p : List Entry) (rf : ℕ → Option ℕ) (n a b : ℕ) → is_before x p rf n a b ≡ true → po x a b ≡ true
before_in_po x p rf zero a b h = absurd (false≢true h)
before_in_po x p rf (suc n) a b h = by_rule (slice_get all_rules n) h
  where
    by_rule : (o : Option Rule) → unwrap_or (option_map (rule x p rf a b) o) false ≡ true → po x a b ≡ true
    by_rule None h = absurd (false≢true h)
    by_rule (Some r) h = (and_parts (po x a b) (case_of x p rf a b r) h).0

pub against : (x : PreExecution) (p : List Entry) (order : List ℕ) (n a b : ℕ) → (is_before x p (source_in x order) n a b && not (stands_before (gmo x order) a b)) ≡ is_against_rule x p order n a b
against x p order zero a b = refl
against x p order (suc n) a b = refl
