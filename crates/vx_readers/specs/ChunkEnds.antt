-- Where the chunks of a tree end.
use Rattle.std.specs.Prelude.{◌≡◌, ℕ, ◌+◌, List, [], ◌∷◌, ◌++◌, length, take}
use Rattle.vx_layout.specs.Trees.{Tree, missing, leaf, chunks, fields, dict, lists, zoned, Forest, no_trees, tree, head_of, subtree}
use Rattle.vx_readers.specs.ReaderData.{ReaderData}

-- In rows of the root, if the tree's first row is that row of the root: of chunks where each ends, behind where those
-- inside it do; of a dictionary those of its codes.
abbrev mutual
  pub ends_of : Tree → ℕ → List ℕ
  ends_of (missing head) from = []
  ends_of (leaf head segment coding) from = []
  ends_of (chunks head forest) from = ends_in forest from
  ends_of (fields head forest validity) from = []
  ends_of (dict head values codes) from = ends_of codes from
  ends_of (lists head elements offsets validity) from = []
  ends_of (zoned head zones content table) from = ends_of content from

  pub ends_in : Forest → ℕ → List ℕ
  ends_in no_trees from = []
  ends_in (tree first rest) from = ends_of first from ++ (from + (head_of first).rows) ∷ ends_in rest (from + (head_of first).rows)

-- those of a reader's node
abbrev pub reader_ends : ReaderData → ℕ → List ℕ
reader_ends r from = ends_of (subtree r.nodes r.node) from

-- the old rows are the first of the new ones
abbrev pub StandFirst : List ℕ → List ℕ → Type 0
StandFirst old new = take (length old) new ≡ old
