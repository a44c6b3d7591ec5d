-- The tokens of a file: where they begin, where the items of `locations` stand, and which of these names no place.
use Rattle.std.proofs.Common.{◌≡◌, ◌∙◌, sym, ap, subst, ℕ, ◌+◌, ◌<◌, List, ◌∷◌, Bool, true, Some, None, drop, map, length, get_or, if◌then◌else◌, arith}
use Rattle.std.specs.Option.{is_none}
use Rattle.std.specs.List.{find}
use Rattle.std.proofs.lemmas.Bool.{and_from}
use Rattle.std.proofs.lemmas.List.{at_drop_more, drop-map, drop-drop}
use Rattle.fs_litmus.specs.Title.{HasBody}
use Rattle.fs_litmus.specs.Reads.{HasTokens}
use Rattle.fs_model.specs.declared.test.Test.{Test}
use Rattle.fs_litmus_tokens.specs.declared.token.Token as tokens
use Rattle.fs_litmus_tokens.specs.Tokens.{AreTokens, kind_of, view, views}
use Rattle.fs_app_states.specs.Listed.{is_brace, below, is_locations_word, begins_with_bracket, behind}
use Rattle.fs_app_states.specs.Names.{place_of}

pub tokens_of : (bytes text : List ℕ) (start line : ℕ) → HasBody bytes (drop start bytes) line → text ≡ drop start bytes → (made lent : List tokens.Token) (closed : Bool) → lent ≡ made → AreTokens text line (views made) closed → HasTokens bytes (views lent) closed
tokens_of bytes text start line has_body is_text made lent closed same are =
    record { body = drop start bytes; line = line; has_body = has_body; are_tokens = subst (λ l. AreTokens l line (views lent) closed) is_text (subst (λ l. AreTokens text line (views l) closed) (sym same) are) }

pub below_here : (ts : List tokens.Token) (i : ℕ) (d : tokens.Token) → i < length ts → is_brace (kind_of (get_or ts i d).kind) ≡ true → views (drop (i + 1) ts) ≡ below (views (drop i ts))
below_here ts i d low brace =
    let rest = drop (i + 1) ts in
    sym (at_drop_more (λ xs. below (views xs)) ts i d low ∙ ap (λ b. if b then views rest else below (views rest)) brace)

pub behind_here : (ts : List tokens.Token) (i : ℕ) (d : tokens.Token) → i < length ts → is_locations_word (kind_of (get_or ts i d).kind) ≡ true → begins_with_bracket (views (drop (i + 1) ts)) ≡ true → views (drop (i + 2) ts) ≡ behind (views (drop i ts))
behind_here ts i d low word bracket =
    let rest = drop (i + 1) ts in
    let opens = and_from (is_locations_word (kind_of (get_or ts i d).kind)) (begins_with_bracket (views rest)) word bracket in
    let same : i + 1 + 1 ≡ i + 2 = omega arith in
    sym (at_drop_more (λ xs. behind (views xs)) ts i d low
    ∙ ap (λ b. if b then drop 1 (views rest) else behind (views rest)) opens
    ∙ drop-map view 1 rest
    ∙ ap views (drop-drop 1 (i + 1) ts)
    ∙ ap (λ n. views (drop n ts)) same)

pub found_bad : (t : Test) (items : List (List tokens.Token)) (i : ℕ) (item : List tokens.Token) → i < length items → item ≡ get_or items i item → place_of t (views item) ≡ None
    → find (λ item. is_none (place_of t item)) (map views (drop i items)) ≡ Some (views item)
found_bad t items i item low is none =
    at_drop_more (λ xs. find (λ item. is_none (place_of t item)) (map views xs)) items i item low
    ∙ ap (λ x. find (λ item. is_none (place_of t item)) (views x ∷ map views (drop (i + 1) items))) (sym is)
    ∙ ap (λ o. if is_none o then Some (views item) else find (λ item. is_none (place_of t item)) (map views (drop (i + 1) items))) none
