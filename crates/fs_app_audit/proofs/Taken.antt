-- What a placement keeps while FENCEs are taken up.
use Rattle.std.proofs.Common.{◌≡◌, ◌&&◌, ◌<◌, ◌≤◌, ◌+◌, ℕ, zero, suc, List, [], ◌∷◌, length, drop, get_or, Bool, true, false, Option, None, Some, is_some, refl, ap, sym, subst, arith, ◌∙◌, if◌then◌else◌}
use Rattle.fs_kinds.specs.declared.kind.Kind.{Kind}
use Rattle.fs_kinds.specs.declared.slot.Slot.{Slot}
use Rattle.fs_kinds.specs.declared.placement.Entry.{Entry}
use Rattle.fs_kinds.specs.Placement.{slots_of, with_kind}
use Rattle.fs_kinds.specs.PriceTable.{PriceTable, price_of, are_offered}
use Rattle.fs_model.specs.declared.test.Test.{Test}
use Rattle.fs_model.specs.Allows.{no_fences}
use Rattle.fs_model.specs.Placed.{fits}
use Rattle.fs_model.specs.Slots.{slots}
use Rattle.fs_app_place_and_order.proofs.Placements.{and_left, offered-all_with, offered-with_kind}
use Rattle.fs_app_place_and_order.proofs.Placements.{slots_of-all_with, slots_of-with_kind}
use Rattle.fs_app_audit.specs.Audit.{fits_one, with_one, taken_up, all_fit}

module _ (prices : PriceTable) where
  slots-put : (p : List Entry) (fence : Slot × Kind) (b : Bool)
      → slots_of (if b then with_kind fence.0 (Some fence.1) p else p) ≡ slots_of p
  slots-put p fence true = slots_of-with_kind fence.0 (Some fence.1) p
  slots-put p fence false = refl

  slots-one : (p : List Entry) (fence : Option (Slot × Kind)) → slots_of (with_one prices p fence) ≡ slots_of p
  slots-one p None = refl
  slots-one p (Some fence) = slots-put p fence (fits (Some prices) p fence)

  pub slots-taken : (p : List Entry) (fences : List (Option (Slot × Kind))) → slots_of (taken_up prices p fences) ≡ slots_of p
  slots-taken p [] = refl
  slots-taken p (fence ∷ fences) = slots-taken (with_one prices p fence) fences ∙ slots-one p fence

  offered-put : (p : List Entry) (fence : Slot × Kind) (b : Bool) → fits (Some prices) p fence ≡ b → are_offered prices p ≡ true
      → are_offered prices (if b then with_kind fence.0 (Some fence.1) p else p) ≡ true
  offered-put p fence true e h =
      let priced : is_some (price_of prices fence.1) ≡ true = and_left _ _ e in offered-with_kind prices fence.0 fence.1 p priced h
  offered-put p fence false e h = h

  offered-one : (p : List Entry) (fence : Option (Slot × Kind)) → are_offered prices p ≡ true → are_offered prices (with_one prices p fence) ≡ true
  offered-one p None h = h
  offered-one p (Some fence) h = offered-put p fence (fits (Some prices) p fence) refl h

  pub offered-taken : (p : List Entry) (fences : List (Option (Slot × Kind))) → are_offered prices p ≡ true
      → are_offered prices (taken_up prices p fences) ≡ true
  offered-taken p [] h = h
  offered-taken p (fence ∷ fences) h = offered-taken (with_one prices p fence) fences (offered-one p fence h)

  -- the FENCEs of a test, over its slots
  pub slots-own : (t : Test) (p : List Entry) (fences : List (Option (Slot × Kind))) → p ≡ taken_up prices (no_fences t) fences
      → slots_of p ≡ slots t
  slots-own t p fences is = ap slots_of is ∙ slots-taken (no_fences t) fences ∙ slots_of-all_with (slots t)

  pub offered-own : (t : Test) (p : List Entry) (fences : List (Option (Slot × Kind))) → p ≡ taken_up prices (no_fences t) fences
      → are_offered prices p ≡ true
  offered-own t p fences is = ap (are_offered prices) is ∙ offered-taken (no_fences t) fences (offered-all_with prices (slots t))

-- ---- one more

pub at-same : {A : Type 0} (xs : List A) (i : ℕ) (d e : A) → i < length xs → get_or xs i d ≡ get_or xs i e
at-same [] i d e low = absurd (omega (arith, low))
at-same (x ∷ xs) zero d e low = refl
at-same (x ∷ xs) (suc i) d e low = at-same xs i d e (omega (arith, low))

drop_here : {A : Type 0} (xs : List A) (i : ℕ) (x : A) → i < length xs → x ≡ get_or xs i x → drop i xs ≡ x ∷ drop (suc i) xs
drop_here [] i x low at = absurd (omega (arith, low))
drop_here (y ∷ ys) zero x low at = ap (λ z. z ∷ ys) (sym at)
drop_here (y ∷ ys) (suc i) x low at = drop_here ys i x (omega (arith, low)) at

drop_at : {A : Type 0} (xs : List A) (i : ℕ) (x : A) → i < length xs → x ≡ get_or xs i x → drop i xs ≡ x ∷ drop (i + 1) xs
drop_at xs i x low at = let same : suc i ≡ i + 1 = omega arith in subst (λ m. drop i xs ≡ x ∷ drop m xs) same (drop_here xs i x low at)

module _ (prices : PriceTable) (p : List Entry) (fences : List (Option (Slot × Kind))) (i : ℕ) (fence : Option (Slot × Kind))
    (low : i < length fences) (at : fence ≡ get_or fences i fence) where
  pub fit-next : all_fit prices p (drop i fences) ≡ fits_one prices p fence && all_fit prices (with_one prices p fence) (drop (i + 1) fences)
  fit-next = ap (all_fit prices p) (drop_at fences i fence low at)

  pub taken-next : taken_up prices p (drop i fences) ≡ taken_up prices (with_one prices p fence) (drop (i + 1) fences)
  taken-next = ap (taken_up prices p) (drop_at fences i fence low at)

and_assoc : (a b c : Bool) → a && (b && c) ≡ (a && b) && c
and_assoc true b c = refl
and_assoc false b c = refl

-- a loop that takes up one more
pub fit-more : (prices : PriceTable) (p q : List Entry) (fences : List (Option (Slot × Kind))) (i : ℕ) (fence : Option (Slot × Kind))
    (whole was fits is : Bool) → i < length fences → fence ≡ get_or fences i fence → whole ≡ was && all_fit prices p (drop i fences)
    → fits ≡ fits_one prices p fence → q ≡ with_one prices p fence → is ≡ was && fits
    → whole ≡ is && all_fit prices q (drop (i + 1) fences)
fit-more prices p q fences i fence whole was fits is low at before own next both =
    before
    ∙ ap (λ b. was && b) (fit-next prices p fences i fence low at)
    ∙ and_assoc was (fits_one prices p fence) (all_fit prices (with_one prices p fence) (drop (i + 1) fences))
    ∙ ap (λ b. (was && b) && all_fit prices (with_one prices p fence) (drop (i + 1) fences)) (sym own)
    ∙ ap (λ r. (was && fits) && all_fit prices r (drop (i + 1) fences)) (sym next)
    ∙ ap (λ b. b && all_fit prices q (drop (i + 1) fences)) (sym both)

pub taken-more : (prices : PriceTable) (p q : List Entry) (fences : List (Option (Slot × Kind))) (i : ℕ) (fence : Option (Slot × Kind))
    (whole : List Entry) → i < length fences → fence ≡ get_or fences i fence → whole ≡ taken_up prices p (drop i fences)
    → q ≡ with_one prices p fence → whole ≡ taken_up prices q (drop (i + 1) fences)
taken-more prices p q fences i fence whole low at before next =
    before ∙ taken-next prices p fences i fence low at ∙ ap (λ r. taken_up prices r (drop (i + 1) fences)) (sym next)

end_of : {A : Type 0} (xs : List A) (i : ℕ) → length xs ≤ i → drop i xs ≡ []
end_of [] zero high = refl
end_of [] (suc i) high = refl
end_of (x ∷ xs) zero high = absurd (omega (arith, high))
end_of (x ∷ xs) (suc i) high = end_of xs i (omega (arith, high))

and_true : (b : Bool) → b && true ≡ b
and_true true = refl
and_true false = refl

pub fit-end : (prices : PriceTable) (p : List Entry) (fences : List (Option (Slot × Kind))) (i : ℕ) (b : Bool) → length fences ≤ i
    → b && all_fit prices p (drop i fences) ≡ b
fit-end prices p fences i b high = ap (λ fs. b && all_fit prices p fs) (end_of fences i high) ∙ and_true b

pub taken-end : (prices : PriceTable) (p : List Entry) (fences : List (Option (Slot × Kind))) (i : ℕ) → length fences ≤ i
    → taken_up prices p (drop i fences) ≡ p
taken-end prices p fences i high = ap (taken_up prices p) (end_of fences i high)
