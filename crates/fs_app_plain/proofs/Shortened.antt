-- A pre-execution without some operations of one hart, which come one after the other: what stays as it was.
use Rattle.std.proofs.Common.{◌≡◌, ℕ, ◌+◌, ◌<◌, ◌≤◌, nat_lt, true, List, length, if◌then◌else◌}
use Rattle.fs_instr.specs.Roles.{is_amo}
use Rattle.fs_kinds.specs.declared.placement.Entry.{Entry}
use Rattle.fs_model.specs.Operations.{PreExecution, accesses, operation, is_load, is_store, po, paired, address_dependency, data_dependency, control_dependency, address_between}
use Rattle.fs_model.specs.Fences.{fence_between}

-- the number in x of operation a of y, where `count` operations from number `from` on are gone
abbrev pub there : (from count : ℕ) → ℕ → ℕ
there from count a = if nat_lt a from then a else a + count

abbrev pub IsGone : (from count : ℕ) → ℕ → Type 0
IsGone from count g = (from ≤ g) × (g < from + count)

-- y is x without these operations, which store nothing or, AMOs, what they load
pub record Shortens (p : List Entry) (x y : PreExecution) (from count : ℕ) : Type 0 where
  pub words : x.words ≡ y.words
  pub long : length (accesses x) ≡ length (accesses y) + count
  pub inside : from ≤ length (accesses y)
  -- the operations that stay
  pub harts : (a : ℕ) → (operation y a).hart ≡ (operation x (there from count a)).hart
  pub instrs : (a : ℕ) → (operation y a).instr ≡ (operation x (there from count a)).instr
  pub addresses : (a : ℕ) → (operation y a).address ≡ (operation x (there from count a)).address
  pub loads : (a : ℕ) → (operation y a).loaded ≡ (operation x (there from count a)).loaded
  pub stores : (a : ℕ) → (operation y a).stored ≡ (operation x (there from count a)).stored
  pub before : (a b : ℕ) → po y a b ≡ po x (there from count a) (there from count b)
  -- those that are gone
  pub gone_stores : (g : ℕ) → IsGone from count g → is_store x g ≡ true
      → (is_amo (operation x g).instr ≡ true) × (is_load x g ≡ true) × ((operation x g).stored ≡ (operation x g).loaded)
  -- what rules ask of two that stay
  pub fences : (a b : ℕ) → po y a b ≡ true → fence_between y p a b ≡ true → fence_between x p (there from count a) (there from count b) ≡ true
  pub pairs : (a b : ℕ) → po y a b ≡ true → paired y a b ≡ true → paired x (there from count a) (there from count b) ≡ true
  pub by_address : (a b : ℕ) → po y a b ≡ true → address_dependency y a b ≡ true → address_dependency x (there from count a) (there from count b) ≡ true
  pub by_data : (a b : ℕ) → po y a b ≡ true → data_dependency y a b ≡ true → data_dependency x (there from count a) (there from count b) ≡ true
  pub by_control : (a b : ℕ) → po y a b ≡ true → control_dependency y a b ≡ true → control_dependency x (there from count a) (there from count b) ≡ true
  pub by_address_between : (a b : ℕ) → po y a b ≡ true → address_between y a b ≡ true → address_between x (there from count a) (there from count b) ≡ true
