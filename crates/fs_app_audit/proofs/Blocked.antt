-- Blocks of several files.
use Rattle.std.proofs.Common.{◌≡◌, ℕ, Bool, List, [], ◌∷◌, ◌++◌, sym, subst}
use Rattle.fs_app_io.specs.declared.status.Status.{Status}
use Rattle.fs_app_test.specs.declared.said.Kind.{Kind}
use Rattle.fs_app_audit.specs.Blocks.{AreBlocks, IsBlock, IsSaidBy}
use Rattle.fs_app_audit.specs.declared.blocks.Block.{Block}

pub block_more : (is_anew : Bool) (prices : List ℕ) (blocks : List Block) (block : Block) → AreBlocks is_anew prices blocks
    → IsBlock is_anew prices block → AreBlocks is_anew prices (blocks ++ block ∷ [])
block_more is_anew prices [] block are is = (is, tt)
block_more is_anew prices (b ∷ blocks) block are is = (are.0, block_more is_anew prices blocks block are.1 is)

-- the same is said where its parts are the same
pub said_same : (is_anew : Bool) (test prices : List ℕ) (t u : List ℕ) (s v : Status) (k j : Kind) (m n : ℕ) → u ≡ t → v ≡ s → j ≡ k
    → n ≡ m → IsSaidBy is_anew test prices t s k m → IsSaidBy is_anew test prices u v j n
said_same is_anew test prices t u s v k j m n text status kind saved h =
    subst (λ (x : ℕ). IsSaidBy is_anew test prices u v j x) (sym saved)
    (subst (λ (x : Kind). IsSaidBy is_anew test prices u v x m) (sym kind)
    (subst (λ (x : Status). IsSaidBy is_anew test prices u x k m) (sym status)
    (subst (λ (x : List ℕ). IsSaidBy is_anew test prices x s k m) (sym text) h)))
