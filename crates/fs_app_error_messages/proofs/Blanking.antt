-- Blanks over parts of a file.
use Rattle.std.proofs.Common.{◌<◌, inl, inr, ◌∙◌, ℕ, zero, suc, List, [], ◌∷◌, length, get_or, refl, arith}
use Rattle.std.proofs.Math.ListN.{set}
use Rattle.fs_app_error_messages.specs.Faults.{IsBlank, IsBlanked, end, byte}

pub IsBlanked-same : (bs : List ℕ) → IsBlanked bs bs
IsBlanked-same [] = end
IsBlanked-same (b ∷ bs) = byte (inl refl) (IsBlanked-same bs)

IsBlank-again : (a b c : ℕ) → IsBlank a b → IsBlank b c → IsBlank a c
IsBlank-again a b c (inl e) (inl f) = inl (f ∙ e)
IsBlank-again a b c (inl e) (inr f) = inr (rw (← e) f)
IsBlank-again a b c (inr e) (inl f) = inr (f ∙ e.0, e.1)
IsBlank-again a b c (inr e) (inr f) = inr (f.0, e.1)

pub IsBlanked-again : {bs cs ds : List ℕ} → IsBlanked bs cs → IsBlanked cs ds → IsBlanked bs ds
IsBlanked-again end end = end
IsBlanked-again (byte {b = p} {c = q} x xs) (byte {c = r} y ys) = byte (IsBlank-again p q r x y) (IsBlanked-again xs ys)

pub IsBlanked-set : (bs : List ℕ) (i c : ℕ) → i < length bs → IsBlank (get_or bs i 0) c → IsBlanked bs (set bs i c)
IsBlanked-set [] i c h b = end
IsBlanked-set (b ∷ bs) zero c h x = byte x (IsBlanked-same bs)
IsBlanked-set (b ∷ bs) (suc i) c h x = byte (inl refl) (IsBlanked-set bs i c (omega arith) x)

pub ruleset blanking = (IsBlanked-same, IsBlanked-again, IsBlanked-set)
