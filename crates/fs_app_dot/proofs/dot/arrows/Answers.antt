use Rattle.std.proofs.Common.{◌≡◌, ℕ, ◌+◌, ◌<◌, List, [], ◌∷◌, ◌++◌, length, get_or, take, flat_map}
use Rattle.std.proofs.Common.{ap, append-nil, arith, sym, ◌∙◌}
use Rattle.std.proofs.lemmas.Grind.{flat_map-append}
use Rattle.std.proofs.lemmas.List.{take_more}
use Rattle.fs_app_dot.specs.Dot.{edge_text}
use Rattle.fs_app_dot.proofs.dot.arrows.Goals as goal

-- the text of one more
text_more : {X : Type 0} (f : X → List ℕ) (xs : List X) (i : ℕ) (x : X) (before text after : List ℕ)
    → i < length xs → x ≡ get_or xs i x → before ≡ flat_map f (take i xs) → after ≡ before ++ text → text ≡ f x
    → after ≡ flat_map f (take (i + 1) xs)
text_more f xs i x before text after low is was grown said =
    grown
    ∙ ap (λ t. before ++ t) said
    ∙ ap (λ t. t ++ f x) was
    ∙ ap (λ t. flat_map f (take i xs) ++ t) (sym (append-nil (f x)))
    ∙ sym (flat_map-append f (take i xs) (x ∷ []))
    ∙ ap (λ y. flat_map f (take i xs ++ (y ∷ []))) is
    ∙ ap (λ ys. flat_map f ys) (sym (take_more xs i x low))

pub loop-edge-preserved : goal.loop-edge-preserved
loop-edge-preserved c =
    text_more (edge_text c.args.nodes.now) c.args.edges.now c.loop-edge.edge-index c.edge-item.result _ _ _
    (omega arith) c.edge-item.is c.loop-edge.invariant c.in_ok-push_str.ensures.bytes
    (c.as_str.ensures.value ∙ c.in_ok-arrow.ensures)
