-- Numbers that may be there.
use Rattle.std.proofs.Common.{◌≡◌, ℕ, true, Option, None, Some, is_some, refl, sym, ap, ◌∙◌}
use Rattle.std.proofs.lemmas.Bool.{false≢true, eqb-true, eq-eqb}
use Rattle.fs_model.specs.Numbers.{is_same}

pub same_parts : (o p : Option ℕ) → is_same o p ≡ true → (n : ℕ) × (o ≡ Some n) × (p ≡ Some n)
same_parts None p e = absurd (false≢true e)
same_parts (Some a) None e = absurd (false≢true e)
same_parts (Some a) (Some b) e = (a, refl, ap Some (sym (eqb-true a b e)))

pub same_from : (o p : Option ℕ) (n : ℕ) → o ≡ Some n → p ≡ Some n → is_same o p ≡ true
same_from o p n e f = rw (e, f) (eq-eqb n n refl)

pub some_parts : (o : Option ℕ) → is_some o ≡ true → (n : ℕ) × (o ≡ Some n)
some_parts None e = absurd (false≢true e)
some_parts (Some n) e = (n, refl)

pub some_from : (o : Option ℕ) (n : ℕ) → o ≡ Some n → is_some o ≡ true
some_from o n e = rw e refl

pub one_value : (o : Option ℕ) (m n : ℕ) → o ≡ Some m → o ≡ Some n → m ≡ n
one_value o m n e f = let g : Some m ≡ Some n = sym e ∙ f in cc

pub not_none : (o : Option ℕ) (n : ℕ) → o ≡ None → o ≡ Some n → ⊥
not_none o n e f = let g : None ≡ Some n = sym e ∙ f in cc

pub none_there : {A : Type 0} (o : Option A) → o ≡ None → is_some o ≡ true → ⊥
none_there o e there = false≢true (sym (ap is_some e) ∙ there)

pub same_is : (o p : Option ℕ) → is_same o p ≡ true → o ≡ p
same_is o p h = let parts = same_parts o p h in parts.1 ∙ sym parts.2
