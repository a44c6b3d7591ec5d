-- What final registers tell of a condition.
use Rattle.std.proofs.Common.{◌≡◌, ◌∙◌, ◌==◌, ◌&&◌, ◌||◌, ℕ, Bool, true, false, List, refl, ap, sym}
use Rattle.std.specs.Prelude.{not}
use Rattle.std.proofs.lemmas.Bool.{false≢true}
use Rattle.fs_model.specs.declared.test.Test.{Test}
use Rattle.fs_model.specs.Condition.{Condition, condition_of, Always, Never, RegisterIs, LocationIs, Deny, Both, Either}
use Rattle.fs_model.specs.declared.test.Quantifier.{Quantifier}
use Rattle.fs_model.specs.declared.test.Quantifier.TheVariants.{Exists, NotExists, Forall}
use Rattle.fs_model.specs.Shows.{holds, is_outcome, final_register}
use Rattle.fs_hart.specs.declared.trace.Trace.{Trace}
use Rattle.fs_hart.specs.Steps.{steps_in}
use Rattle.fs_model_axioms.specs.Final.{register_in, AreFinal}
use Rattle.fs_model_axioms.proofs.Registers.{holds_same, same_register}
use Rattle.fs_cand_listing.specs.inner.Tested.{may_be}

-- ---- a condition comes out in a way in which it may

and_both : (a b : Bool) → a ≡ true → b ≡ true → (a && b) ≡ true
and_both a b e f = rw (e, f) refl

or_first : (a b : Bool) → a ≡ true → (a || b) ≡ true
or_first a b e = rw e refl

or_second : (a b : Bool) → b ≡ true → (a || b) ≡ true
or_second true b e = refl
or_second false b e = e

of_both : (f : ℕ → ℕ → ℕ) (c d : Condition) (a b : Bool) → may_be f a c ≡ true → may_be f b d ≡ true → may_be f (a && b) (Both c d) ≡ true
of_both f c d true true e g = and_both (may_be f true c) (may_be f true d) e g
of_both f c d true false e g = or_second (may_be f false c) (may_be f false d) g
of_both f c d false b e g = or_first (may_be f false c) (may_be f false d) e

of_either : (f : ℕ → ℕ → ℕ) (c d : Condition) (a b : Bool) → may_be f a c ≡ true → may_be f b d ≡ true → may_be f (a || b) (Either c d) ≡ true
of_either f c d true b e g = or_first (may_be f true c) (may_be f true d) e
of_either f c d false true e g = or_second (may_be f true c) (may_be f true d) g
of_either f c d false false e g = and_both (may_be f false c) (may_be f false d) e g

of_register : (f : ℕ → ℕ → ℕ) (hart reg w : ℕ) (b : Bool) → (f hart reg == w) ≡ b → may_be f b (RegisterIs hart reg w) ≡ true
of_register f hart reg w true e = e
of_register f hart reg w false e = ap not e

not_twice : (b : Bool) → b ≡ not (not b)
not_twice true = refl
not_twice false = refl

of_location : (f : ℕ → ℕ → ℕ) (location w : ℕ) (b : Bool) → may_be f b (LocationIs location w) ≡ true
of_location f location w true = refl
of_location f location w false = refl

of_denied : (f : ℕ → ℕ → ℕ) (c : Condition) (b : Bool) → may_be f b c ≡ true → may_be f (not b) (Deny c) ≡ true
of_denied f c true e = e
of_denied f c false e = e

pub comes_out : (f : ℕ → ℕ → ℕ) (u : ℕ → ℕ) (c : Condition) → may_be f (holds f u c) c ≡ true
comes_out f u Always = refl
comes_out f u Never = refl
comes_out f u (RegisterIs hart reg w) = of_register f hart reg w (f hart reg == w) refl
comes_out f u (LocationIs location w) = of_location f location w (u location == w)
comes_out f u (Deny c) = of_denied f c (holds f u c) (comes_out f u c)
comes_out f u (Both c d) = of_both f c d (holds f u c) (holds f u d) (comes_out f u c) (comes_out f u d)
comes_out f u (Either c d) = of_either f c d (holds f u c) (holds f u d) (comes_out f u c) (comes_out f u d)

came_out : (q : Quantifier) (b : Bool) → is_outcome q b ≡ true → b ≡ is_outcome q true
came_out Exists b e = e
came_out NotExists b e = e
came_out Forall true e = absurd (false≢true e)
came_out Forall false e = refl

is_false : (b : Bool) → (b ≡ true → ⊥) → b ≡ false
is_false true h = absurd (h refl)
is_false false h = refl

-- where it may not come out as the quantifier asks, nothing shows the outcome
pub never_shows : (t : Test) (traces : List Trace) → AreFinal t traces → (wanted : Bool) → wanted ≡ is_outcome t.quantifier true
    → may_be (register_in traces) wanted (condition_of t.condition) ≡ false → (u : ℕ → ℕ)
    → is_outcome t.quantifier (holds (final_register t (steps_in traces)) u (condition_of t.condition)) ≡ false
never_shows t traces final wanted e never u =
    is_false (is_outcome t.quantifier (holds (final_register t (steps_in traces)) u (condition_of t.condition))) (λ shown.
    let c = condition_of t.condition in
    let out : holds (register_in traces) u c ≡ wanted =
    holds_same (register_in traces) (final_register t (steps_in traces)) u u (same_register t traces final) (λ k. refl) c
    ∙ came_out t.quantifier (holds (final_register t (steps_in traces)) u c) shown
    ∙ sym e in
    false≢true (sym never ∙ ap (λ b. may_be (register_in traces) b c) (sym out) ∙ comes_out (register_in traces) u c))
