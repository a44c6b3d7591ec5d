-- A line of cells.
use Rattle.std.proofs.Common.{◌≡◌, ◌++◌, ℕ, List, codes, refl, append_assoc, ap, ◌∙◌}
use Rattle.fs_model.specs.Printed.{ended}

grouped : (s f a r : List ℕ)
    → s ++ (codes "  " ++ (f ++ (codes "  " ++ (a ++ (r ++ codes "\n")))))
    ≡ ended (s ++ (codes "  " ++ (f ++ (codes "  " ++ (a ++ r)))))
grouped s f a r = simp append_assoc refl

pub cells : (s f a r site fence advice rows : List ℕ) → s ≡ site → f ≡ fence → a ≡ advice → r ≡ rows
    → s ++ (codes "  " ++ (f ++ (codes "  " ++ (a ++ (r ++ codes "\n")))))
    ≡ ended (site ++ (codes "  " ++ (fence ++ (codes "  " ++ (advice ++ rows)))))
cells s f a r site fence advice rows first second third fourth =
    grouped s f a r
    ∙ ap (λ x. ended (x ++ (codes "  " ++ (f ++ (codes "  " ++ (a ++ r)))))) first
    ∙ ap (λ x. ended (site ++ (codes "  " ++ (x ++ (codes "  " ++ (a ++ r)))))) second
    ∙ ap (λ x. ended (site ++ (codes "  " ++ (fence ++ (codes "  " ++ (x ++ r)))))) third
    ∙ ap (λ x. ended (site ++ (codes "  " ++ (fence ++ (codes "  " ++ (advice ++ x)))))) fourth
