-- What is in preserved program order is in program order.
use Rattle.std.proofs.Common.{◌≡◌, ℕ, Bool, true, false, ◌&&◌, Option, List, [], ◌∷◌, refl}
use Rattle.std.specs.List.{list_any}
use Rattle.std.proofs.lemmas.Bool.{false≢true}
use Rattle.fs_kinds.specs.declared.placement.Entry.{Entry}
use Rattle.fs_model.specs.Operations.{PreExecution, po}
use Rattle.fs_model.specs.Preserved.{Rule, case_of, all_rules, ppo}

-- where something is found by a test that asks c besides, c holds
any_asks : (c : Bool) (f : Rule → Bool) (rs : List Rule) → list_any (λ r. c && f r) rs ≡ true → c ≡ true
any_asks true f rs h = refl
any_asks false f [] h = absurd (false≢true h)
any_asks false f (r ∷ rs) h = any_asks false f rs h

pub ppo_in_po : (x : PreExecution) (p : List Entry) (rf : ℕ → Option ℕ) (a b : ℕ) → ppo x p rf a b ≡ true → po x a b ≡ true
ppo_in_po x p rf a b h = any_asks (po x a b) (case_of x p rf a b) all_rules h
