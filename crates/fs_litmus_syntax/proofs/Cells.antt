-- A cell grows by a token.
use Rattle.std.proofs.Common.{◌≡◌, ℕ, ◌+◌, ◌-◌, ◌<◌, ◌≤◌, [], ◌∷◌, ◌++◌, List, length, take, drop, get_or, ap, ◌∙◌, arith, length-drop, get_or-drop}
use Rattle.std.specs.Prelude.{slice_range}
use Rattle.std.proofs.lemmas.List.{take_more, map-append}
use Rattle.fs_litmus_tokens.specs.declared.token.Token.{Token}
use Rattle.fs_litmus_tokens.specs.Tokens.{view, views}

cell_more : (ts : List Token) (start at : ℕ) (t : Token) → start ≤ at → at < length ts → get_or ts at t ≡ t → slice_range ts start (at + 1) ≡ slice_range ts start at ++ t ∷ []
cell_more ts start at t order within item =
    let one : at + 1 - start ≡ at - start + 1 = omega arith in
    let position : start + (at - start) ≡ at = omega arith in
    ap (λ k. take k (drop start ts)) one
    ∙ take_more (drop start ts) (at - start) t (omega (arith, length-drop start ts))
    ∙ ap (λ x. take (at - start) (drop start ts) ++ x ∷ []) (get_or-drop start ts (at - start) t ∙ ap (λ k. get_or ts k t) position ∙ item)

pub views_more : (ts : List Token) (start at : ℕ) (t : Token) → start ≤ at → at < length ts → get_or ts at t ≡ t → views (slice_range ts start (at + 1)) ≡ views (slice_range ts start at) ++ view t ∷ []
views_more ts start at t order within item =
    ap views (cell_more ts start at t order within item) ∙ map-append view (slice_range ts start at) (t ∷ [])
