-- Blocks with objects.
use Rattle.std.proofs.Common.{◌≡◌, ℕ, Bool, List, [], ◌∷◌, ◌++◌, sym, subst}
use Rattle.fs_app_io.specs.declared.status.Status.{Status}
use Rattle.fs_app_test.specs.declared.said.Kind.{Kind}
use Rattle.fs_app_audit.specs.declared.blocks.Block.{Block}
use Rattle.fs_app_audit_json_and_why.specs.Answered.{IsObjectBy}
use Rattle.fs_app_audit_json_and_why.specs.Files.{AreObjectBlocks, IsObjectBlock}

pub block_more : (is_anew : Bool) (prices : List ℕ) (blocks : List Block) (block : Block) → AreObjectBlocks is_anew prices blocks
    → IsObjectBlock is_anew prices block → AreObjectBlocks is_anew prices (blocks ++ block ∷ [])
block_more is_anew prices [] block are is = (is, tt)
block_more is_anew prices (b ∷ blocks) block are is = (are.0, block_more is_anew prices blocks block are.1 is)

-- the same is said where its parts are the same
pub said_same : (is_anew : Bool) (test prices : List ℕ) (a b : List ℕ) (t u : List ℕ) (s v : Status) (k j : Kind) (m n : ℕ)
    → b ≡ a → u ≡ t → v ≡ s → j ≡ k → n ≡ m → IsObjectBy is_anew a test prices t s k m → IsObjectBy is_anew b test prices u v j n
said_same is_anew test prices a b t u s v k j m n name text status kind saved h =
    subst (λ (x : ℕ). IsObjectBy is_anew b test prices u v j x) (sym saved)
    (subst (λ (x : Kind). IsObjectBy is_anew b test prices u v x m) (sym kind)
    (subst (λ (x : Status). IsObjectBy is_anew b test prices u x k m) (sym status)
    (subst (λ (x : List ℕ). IsObjectBy is_anew b test prices x s k m) (sym text)
    (subst (λ (x : List ℕ). IsObjectBy is_anew x test prices t s k m) (sym name) h))))
