-- To access the same word is a relation that goes both ways and goes on.
use Rattle.std.proofs.Common.{◌≡◌, ℕ, true, Some, ◌∙◌, ap}
use Rattle.fs_model.specs.Operations.{PreExecution, operation, same_word}
use Rattle.fs_model.proofs.OptionalNumbers.{same_parts, same_from, one_value}

pub word_sym : (x : PreExecution) (a b : ℕ) → same_word x a b ≡ true → same_word x b a ≡ true
word_sym x a b h =
    let parts = same_parts (operation x a).address (operation x b).address h in
    same_from (operation x b).address (operation x a).address parts.0 parts.2 parts.1

pub word_trans : (x : PreExecution) (a b c : ℕ) → same_word x a b ≡ true → same_word x b c ≡ true → same_word x a c ≡ true
word_trans x a b c h k =
    let first = same_parts (operation x a).address (operation x b).address h in
    let second = same_parts (operation x b).address (operation x c).address k in
    same_from (operation x a).address (operation x c).address first.0 first.1
    (second.2 ∙ ap Some (one_value (operation x b).address second.0 first.0 second.1 first.2))
