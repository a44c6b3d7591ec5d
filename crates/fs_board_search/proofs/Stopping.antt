-- When a search that may stop has stopped.
use Rattle.std.proofs.Common.{◌≡◌, ℕ, Bool, true, false, Option, Some, None, IfNone, sym, ◌∙◌}

-- one that may not stop doesn't
pub stopped : (most : Option ℕ) (stops : Bool) → IfNone most (stops ≡ false) → stops ≡ true → IfNone most (false ≡ true)
stopped None stops never is = sym never ∙ is
stopped (Some n) stops never is = tt
