-- Which fault a search by many workers hands on.
use Rattle.std.proofs.Common.{◌≡◌, ℕ, subst}
use Rattle.fs_kinds.specs.declared.fault.Fault.{Fault}
use Rattle.fs_board_offers.specs.Questions.{Question}
use Rattle.fs_board_search.specs.Answers.{IsSolveFault}

-- a fault of what is equal
pub same-fault : (p q : Question) (n limit : ℕ) (f : Fault) → p ≡ q → n ≡ limit → IsSolveFault p n f → IsSolveFault q limit f
same-fault p q n limit f same most is =
    subst (λ (m : ℕ). IsSolveFault q m f) most (subst (λ (x : Question). IsSolveFault x n f) same is)
