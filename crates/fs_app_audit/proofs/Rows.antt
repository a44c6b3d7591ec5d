-- A line of four cells.
use Rattle.std.proofs.Common.{◌≡◌, ◌++◌, ℕ, List, codes, refl, append_assoc, ap, ◌∙◌}
use Rattle.fs_model.specs.Printed.{ended}

grouped : (l p f a : List ℕ)
    → l ++ (codes "  " ++ (p ++ (codes "  " ++ (f ++ (codes "  " ++ (a ++ codes "\n"))))))
    ≡ ended (l ++ (codes "  " ++ (p ++ (codes "  " ++ (f ++ (codes "  " ++ a))))))
grouped l p f a = simp append_assoc refl

pub cells : (l p f a line place fence advice : List ℕ) → l ≡ line → p ≡ place → f ≡ fence → a ≡ advice
    → l ++ (codes "  " ++ (p ++ (codes "  " ++ (f ++ (codes "  " ++ (a ++ codes "\n"))))))
    ≡ ended (line ++ (codes "  " ++ (place ++ (codes "  " ++ (fence ++ (codes "  " ++ advice))))))
cells l p f a line place fence advice first second third fourth =
    grouped l p f a
    ∙ ap (λ x. ended (x ++ (codes "  " ++ (p ++ (codes "  " ++ (f ++ (codes "  " ++ a))))))) first
    ∙ ap (λ x. ended (line ++ (codes "  " ++ (x ++ (codes "  " ++ (f ++ (codes "  " ++ a))))))) second
    ∙ ap (λ x. ended (line ++ (codes "  " ++ (place ++ (codes "  " ++ (x ++ (codes "  " ++ a))))))) third
    ∙ ap (λ x. ended (line ++ (codes "  " ++ (place ++ (codes "  " ++ (fence ++ (codes "  " ++ x))))))) fourth

-- ---- the first line

ended_parts : (k c b : List ℕ)
    → k ++ (codes " as written" ++ (c ++ (codes "; " ++ (b ++ codes "\n"))))
    ≡ ended (k ++ (codes " as written" ++ (c ++ (codes "; " ++ b))))
ended_parts k c b = simp append_assoc refl

pub parts : (k c b kind cost best : List ℕ) → k ≡ kind → c ≡ cost → b ≡ best
    → k ++ (codes " as written" ++ (c ++ (codes "; " ++ (b ++ codes "\n"))))
    ≡ ended (kind ++ (codes " as written" ++ (cost ++ (codes "; " ++ best))))
parts k c b kind cost best first second third =
    ended_parts k c b
    ∙ ap (λ x. ended (x ++ (codes " as written" ++ (c ++ (codes "; " ++ b))))) first
    ∙ ap (λ x. ended (kind ++ (codes " as written" ++ (x ++ (codes "; " ++ b))))) second
    ∙ ap (λ x. ended (kind ++ (codes " as written" ++ (cost ++ (codes "; " ++ x))))) third

-- ---- the first line in place

ended_costs : (w p f : List ℕ)
    → codes "forbidden as written, " ++ (w ++ (codes "; in place " ++ (p ++ (codes "; " ++ (f ++ codes "\n")))))
    ≡ ended (codes "forbidden as written, " ++ (w ++ (codes "; in place " ++ (p ++ (codes "; " ++ f)))))
ended_costs w p f = simp append_assoc refl

pub costs : (w p f found : List ℕ) → f ≡ found
    → codes "forbidden as written, " ++ (w ++ (codes "; in place " ++ (p ++ (codes "; " ++ (f ++ codes "\n")))))
    ≡ ended (codes "forbidden as written, " ++ (w ++ (codes "; in place " ++ (p ++ (codes "; " ++ found)))))
costs w p f found same =
    ended_costs w p f ∙ ap (λ x. ended (codes "forbidden as written, " ++ (w ++ (codes "; in place " ++ (p ++ (codes "; " ++ x)))))) same

pub vacuous_parts : (w y : List ℕ)
    → codes "vacuous as written, " ++ (w ++ (codes "; " ++ (y ++ codes "\n")))
    ≡ ended (codes "vacuous as written, " ++ (w ++ (codes "; " ++ y)))
vacuous_parts w y = simp append_assoc refl
