-- What a picture is of.
use Rattle.std.specs.Prelude.{◌≡◌, ℕ, List}
use Rattle.fs_model.specs.declared.test.Test.{Test}
use Rattle.fs_app_why.specs.declared.chain.ChainLink.{ChainLink}
use Rattle.fs_app_dot.specs.declared.graph.Edge.{Edge}
use Rattle.fs_app_dot.specs.declared.graph.Node.{Node}
use Rattle.fs_app_dot.specs.Chains.{chain_edges}
use Rattle.fs_app_dot.specs.Dot.{dot_text}

-- some boxes and arrows below this title
abbrev pub IsPicture : (title text : List ℕ) → Type 0
IsPicture title text = (nodes : List Node) × (edges : List Edge) × (text ≡ dot_text title nodes edges)

-- some boxes, and as arrows the links of this chain
abbrev pub IsChainPicture : Test → (title : List ℕ) → List ChainLink → (text : List ℕ) → Type 0
IsChainPicture t title links text = (nodes : List Node) × (text ≡ dot_text title nodes (chain_edges t links))
