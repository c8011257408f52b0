-- What a reader borrows, as data.
use Rattle.std.specs.Prelude.{ℕ, ◌<◌, List, length}
use Rattle.vx_base.specs.declared.locations.SegmentLocation.{SegmentLocation}
use Rattle.vx_layout.specs.Nodes.{Node}
use Rattle.vx_layout.specs.Shape.{IsGoodTree}
use Rattle.vx_rows.specs.Heads.{Head}
use Rattle.vx_reads.specs.Readable.{tree_head, AreReadable}

-- the nodes of a tree, one of them, and where segments lie
pub record ReaderData : Type 0 where
  pub nodes : List Node
  pub node : ℕ
  pub locations : List SegmentLocation

-- The node is one of the tree, which keeps the rules of trees, and each node of it is readable.
pub record IsReader (r : ReaderData) : Type 0 where
  pub good : IsGoodTree r.nodes
  pub known : r.node < length r.nodes
  pub readable : AreReadable r.nodes

-- the number, the dtype and the rows of the reader's node
abbrev pub reader_head : ReaderData → Head
reader_head r = tree_head r.nodes r.node
