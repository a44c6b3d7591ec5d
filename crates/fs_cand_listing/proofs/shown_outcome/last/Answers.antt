use Rattle.std.proofs.Common.{◌≡◌, ◌∙◌, ◌-◌, ℕ, suc, None, Some, List, [], ◌∷◌, length, refl, ap, arith}
use Rattle.std.specs.Prelude.{slice_get}
use Rattle.std.specs.List.{last_or}
use Rattle.fs_cand_listing.proofs.shown_outcome.last.Goals as goal

last_item : (x : ℕ) (xs : List ℕ) → slice_get (x ∷ xs) (length xs) ≡ last_or (Some x) xs
last_item x [] = refl
last_item x (y ∷ ys) = last_item y ys

last_at : (xs : List ℕ) → slice_get xs (length xs - 1) ≡ last_or None xs
last_at [] = refl
last_at (x ∷ xs) = let e : suc (length xs) - 1 ≡ length xs = omega arith in ap (slice_get (x ∷ xs)) e ∙ last_item x xs

pub returns : goal.returns
returns c = c.copied.ensures ∙ c.last.ensures.value ∙ last_at c.args.order.now
