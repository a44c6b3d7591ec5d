-- Ends that a test finds equal are the same.
use Rattle.std.proofs.Common.{◌≡◌, ◌==◌, ℕ, Bool, true, List, [], ◌∷◌, refl, ap₂}
use Rattle.std.specs.Cmp.Lexicographic.{pointwise}
use Rattle.std.proofs.lemmas.Bool.{and_parts, false≢true, eqb-true}
use Rattle.fs_judge_outcomes.specs.declared.end.End.{End}
use Rattle.fs_judge_outcomes.specs.declared.end.Known.{Known}
use Rattle.fs_judge_outcomes.specs.declared.end.Stored.{Stored}
use Rattle.fs_judge_outcomes.specs.contracts.end.KnownPartialEq.TheImpl as known_test
use Rattle.fs_judge_outcomes.specs.contracts.end.StoredPartialEq.TheImpl as stored_test

pointwise_same : {X : Type 0} (E : X → X → Bool) → ((x y : X) → E x y ≡ true → x ≡ y) → (xs ys : List X) → pointwise E xs ys ≡ true → xs ≡ ys
pointwise_same E same [] [] e = refl
pointwise_same E same [] (y ∷ ys) e = absurd (false≢true e)
pointwise_same E same (x ∷ xs) [] e = absurd (false≢true e)
pointwise_same E same (x ∷ xs) (y ∷ ys) e =
    let parts = and_parts (E x y) (pointwise E xs ys) e in
    ap₂ (λ u us. u ∷ us) (same x y parts.0) (pointwise_same E same xs ys parts.1)

known : ℕ → ℕ → Known
known register word = record { register = register; word = word }

same_known : (a b : Known) → known_test.eq-value.it a b ≡ true → a ≡ b
unfolding known
same_known a b e =
    let parts = and_parts (a.register == b.register) (a.word == b.word) e in
    ap₂ known (eqb-true a.register b.register parts.0) (eqb-true a.word b.word parts.1)

stored : ℕ → ℕ → Stored
stored address word = record { address = address; word = word }

same_stored : (a b : Stored) → stored_test.eq-value.it a b ≡ true → a ≡ b
unfolding stored
same_stored a b e =
    let parts = and_parts (a.address == b.address) (a.word == b.word) e in
    ap₂ stored (eqb-true a.address b.address parts.0) (eqb-true a.word b.word parts.1)

end : List Known → List Stored → End
end registers all = record { registers = registers; stored = all }

pub same_end : (a b : End) → pointwise known_test.eq-value.it a.registers b.registers ≡ true
    → pointwise stored_test.eq-value.it a.stored b.stored ≡ true → a ≡ b
unfolding end
same_end a b registers all =
    ap₂ end (pointwise_same known_test.eq-value.it same_known a.registers b.registers registers)
    (pointwise_same stored_test.eq-value.it same_stored a.stored b.stored all)
