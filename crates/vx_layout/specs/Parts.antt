-- Trees one after another, by their places.
use Rattle.std.specs.Prelude.{◌≡◌, ℕ, zero, suc, ◌+◌, true, Option, Some, None}
use Rattle.vx_base.specs.Data.{Members, no_members, member}
use Rattle.vx_layout.specs.Trees.{Tree, Forest, no_trees, tree, head_of}
use Rattle.vx_layout.specs.Kept.{KeptFields, is_kept}

abbrev pub tree_at : Forest → ℕ → Option Tree
tree_at no_trees place = None
tree_at (tree first rest) zero = Some first
tree_at (tree first rest) (suc place) = tree_at rest place

-- the rows of the trees in front of a place
abbrev pub rows_before : Forest → ℕ → ℕ
rows_before no_trees place = 0
rows_before (tree first rest) zero = 0
rows_before (tree first rest) (suc place) = (head_of first).rows + rows_before rest place

-- the field at the place is kept
abbrev pub IsKeptField : KeptFields → Members → ℕ → Type 0
IsKeptField kept no_members place = ⊥
IsKeptField kept (member name t ms) zero = is_kept kept name ≡ true
IsKeptField kept (member name t ms) (suc place) = IsKeptField kept ms place
