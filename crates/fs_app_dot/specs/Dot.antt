-- A picture in DOT, the language of Graphviz: a box for each operation, those of a hart in a cluster, the i-th of all
-- harts side by side; and arrows.
use Rattle.std.specs.Prelude.{ℕ, ◌+◌, ◌==◌, nat_lt, Bool, ◌&&◌, ◌||◌, List, [], ◌++◌, codes, if◌then◌else◌}
use Rattle.std.specs.Fmt.{decimal}
use Rattle.std.specs.List.{flat_map, list_any}
use Rattle.fs_kinds.specs.declared.reason.OperationName.{OperationName as Name}
use Rattle.fs_kinds.specs.ReasonText.{operation_name}
use Rattle.fs_app_dot.specs.declared.graph.Edge.{Edge}
use Rattle.fs_app_dot.specs.declared.graph.Ink.{Ink}
use Rattle.fs_app_dot.specs.declared.graph.Ink.TheVariants.{ReadsFrom, Coherence, FromReads, Fence, Rule, Turned}
use Rattle.fs_app_dot.specs.declared.graph.Node.{Node}
use Rattle.fs_app_dot.specs.Quoted.{quoted}

-- ---- which boxes are joined

abbrev pub same_name : Name → Name → Bool
same_name a b = (a.hart == b.hart) && (a.at == b.at)

-- the second is its hart's next one in the picture
abbrev pub is_next : Node → Node → Bool
is_next a b = (a.name.hart == b.name.hart) && (b.place == a.place + 1)

-- the arrow leads from this operation to that one
abbrev pub leads : (from to : Name) → Edge → Bool
leads from to edge = same_name edge.from from && same_name edge.to to

-- it joins them, in whichever direction
abbrev pub joins : (a b : Name) → Edge → Bool
joins a b edge = leads a b edge || leads b a edge

-- ---- boxes

abbrev pub grey : Bool → List ℕ
grey is_grey = if is_grey then codes ", color=\"#b0b0b0\", fontcolor=\"#808080\"" else []

abbrev pub node_text : Node → List ℕ
node_text node =
    codes "    \"" ++ (operation_name node.name ++ (codes "\" [label=\"" ++ (quoted node.label
    ++ (codes "\", group=P" ++ (decimal node.name.hart ++ (grey node.is_grey ++ codes "];\n"))))))

-- if it is of this hart
abbrev pub node_of : (hart : ℕ) → Node → List ℕ
node_of hart node = if node.name.hart == hart then node_text node else []

module _ (nodes : List Node) where
  abbrev pub cluster_text : (hart : ℕ) → List ℕ
  cluster_text hart =
      codes "  subgraph cluster_P" ++ (decimal hart ++ (codes " { label=P" ++ (decimal hart
      ++ (codes "; color=\"#c0c0c0\"; fontsize=12;\n" ++ (flat_map (node_of hart) nodes ++ codes "  }\n")))))

  -- where its first operation is
  abbrev pub cluster_at : Node → List ℕ
  cluster_at node = if node.place == 0 then cluster_text node.name.hart else []

-- ---- those side by side

abbrev pub name_in : (place : ℕ) → Node → List ℕ
name_in place node = if node.place == place then codes " \"" ++ (operation_name node.name ++ codes "\";") else []

-- the second has the same place in a hart before
abbrev pub is_behind : Node → Node → Bool
is_behind node other = (node.place == other.place) && nat_lt other.name.hart node.name.hart

module _ (nodes : List Node) where
  abbrev pub rank_text : (place : ℕ) → List ℕ
  rank_text place = codes "  { rank=same;" ++ (flat_map (name_in place) nodes ++ codes " }\n")

  -- where the first of them is
  abbrev pub rank_at : Node → List ℕ
  rank_at node = if list_any (is_behind node) nodes then [] else rank_text node.place

-- ---- program order: grey between neighbours, and invisible where an arrow joins them

abbrev pub order_style : (is_joined : Bool) → List ℕ
order_style is_joined =
    if is_joined then codes " [style=invis, weight=50];\n"
    else codes " [label=\"po\", color=\"#a0a0a0\", fontcolor=\"#a0a0a0\", arrowsize=0.6, weight=20];\n"

abbrev pub pair_text : (a b : Name) → List ℕ
pair_text a b = codes "  \"" ++ (operation_name a ++ (codes "\" -> \"" ++ (operation_name b ++ codes "\"")))

module _ (edges : List Edge) where
  abbrev pub order_text : (a b : Name) → List ℕ
  order_text a b = pair_text a b ++ order_style (list_any (joins a b) edges)

  abbrev pub order_between : Node → Node → List ℕ
  order_between a b = if is_next a b then order_text a.name b.name else []

  abbrev pub order_from : List Node → Node → List ℕ
  order_from nodes a = flat_map (order_between a) nodes

-- ---- arrows

abbrev pub color : Ink → List ℕ
color ReadsFrom = codes "#d01010"
color Coherence = codes "#2040c0"
color FromReads = codes "#d07000"
color Fence = codes "#007030"
color Rule = codes "#6a2090"
color Turned = codes "#c000c0"

abbrev pub dashes : Ink → List ℕ
dashes Turned = codes ", style=dashed"
dashes ink = []

-- an arrow between neighbours keeps them near, others move nothing
abbrev pub reach : (is_near : Bool) → List ℕ
reach is_near = if is_near then codes ", weight=20];\n" else codes ", constraint=false];\n"

-- Graphviz finds a place for what stands at an arrow; of those that move nothing it does so afterwards, since within a
-- rank it would fail
abbrev pub label_word : (is_near : Bool) → List ℕ
label_word is_near = if is_near then codes " [label=\" " else codes " [xlabel=\" "

abbrev pub are_ends : Edge → Node → Node → Bool
are_ends edge a b = is_next a b && leads a.name b.name edge

module _ (nodes : List Node) where
  abbrev pub starts_near : Edge → Node → Bool
  starts_near edge a = list_any (are_ends edge a) nodes

  abbrev pub is_near : Edge → Bool
  is_near edge = list_any (starts_near edge) nodes

  abbrev pub style_text : Edge → List ℕ
  style_text edge =
      codes "color=\"" ++ (color edge.ink ++ (codes "\", fontcolor=\"" ++ (color edge.ink ++ (codes "\", penwidth=1.6"
      ++ (dashes edge.ink ++ reach (is_near edge))))))

  abbrev pub edge_text : Edge → List ℕ
  edge_text edge =
      pair_text edge.from edge.to ++ (label_word (is_near edge) ++ (quoted edge.label ++ (codes " \", " ++ style_text edge)))

-- ---- all of it

abbrev pub head_text : (title : List ℕ) → List ℕ
head_text title =
    codes "digraph G {\n  label=\"" ++ (quoted title
    ++ (codes "\"; labelloc=t; fontname=Helvetica; fontsize=14;\n"
    ++ (codes "  newrank=true; splines=polyline; nodesep=0.9; ranksep=0.65;\n"
    ++ (codes "  node [shape=box, fontname=Courier, fontsize=11, margin=\"0.1,0.05\"];\n"
    ++ codes "  edge [fontname=Helvetica, fontsize=10];\n"))))

abbrev pub dot_text : (title : List ℕ) → List Node → List Edge → List ℕ
dot_text title nodes edges =
    head_text title ++ (flat_map (cluster_at nodes) nodes ++ (flat_map (rank_at nodes) nodes
    ++ (flat_map (order_from edges nodes) nodes ++ (flat_map (edge_text nodes) edges ++ codes "}\n"))))
