-- The last token of a cell.
use Rattle.std.proofs.Common.{◌≡◌, List, [], ◌∷◌, ◌++◌, refl, ap, ◌∙◌}
use Rattle.std.proofs.lemmas.List.{map-append}
use Rattle.fs_litmus_tokens.specs.Tokens.{Lined, view, views}
use Rattle.fs_litmus_tokens.specs.declared.token.Token.{Token}
use Rattle.fs_litmus.specs.SiteLabels.{end_word}

ends_at : (ts : List Lined) (t : Lined) → end_word (ts ++ t ∷ []) ≡ end_word (t ∷ [])
ends_at [] t = refl
ends_at (u ∷ []) t = refl
ends_at (u ∷ v ∷ ts) t = ends_at (v ∷ ts) t

pub ends_split : (cell front : List Token) (last : Token) → cell ≡ front ++ last ∷ [] → end_word (views cell) ≡ end_word (view last ∷ [])
ends_split cell front last e = ap (λ l. end_word (views l)) e ∙ ap end_word (map-append view front (last ∷ [])) ∙ ends_at (views front) (view last)
