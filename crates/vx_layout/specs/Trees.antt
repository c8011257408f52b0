-- The tree that a list of nodes stands for. The list is unfolded once, here; all meaning is by recursion
-- over the tree.
use Rattle.std.specs.Prelude.{ℕ, zero, suc, true, false, List, [], ◌∷◌, length, map, Option, Some, None}
use Rattle.std.specs.List.{slice_get}
use Rattle.vx_base.specs.declared.codings.Coding.{Coding}
use Rattle.vx_base.specs.declared.dtypes.Nullability.{Nullability}
use Rattle.vx_base.specs.declared.dtypes.Nullability.TheVariants.{NonNullable, Nullable}
use Rattle.vx_base.specs.Data.{bool_type}
use Rattle.vx_base.specs.Fits.{nullability_of}
use Rattle.vx_layout.specs.declared.nodes.LayoutKind.{LayoutKind}
use Rattle.vx_layout.specs.declared.nodes.LayoutKind.TheVariants as kinds
use Rattle.vx_layout.specs.Nodes.{Node}
use Rattle.vx_rows.specs.Heads.{Head}
use Rattle.vx_rows.specs.Zones.{Zones, zones_of}

-- A leaf names its segment and how that is coded. A dictionary has its values, then its codes; a list its elements, then its
-- offsets; zoned data the data, then the zones.
mutual
  pub data Tree : Type 0 where
    missing : Head → Tree
    leaf : Head → ℕ → Coding → Tree
    chunks : Head → Forest → Tree
    fields : Head → Forest → Validity → Tree
    dict : Head → Tree → Tree → Tree
    lists : Head → Tree → Tree → Validity → Tree
    zoned : Head → Zones → Tree → Tree → Tree

  pub data Forest : Type 0 where
    no_trees : Forest
    tree : Tree → Forest → Forest

  -- which rows are null: none of them, or those at which a tree of truth values is false
  pub data Validity : Type 0 where
    always : Validity
    valid_by : Tree → Validity

abbrev pub head_of : Tree → Head
head_of (missing head) = head
head_of (leaf head segment coding) = head
head_of (chunks head forest) = head
head_of (fields head forest validity) = head
head_of (dict head values codes) = head
head_of (lists head elements offsets validity) = head
head_of (zoned head zones content table) = head

-- ---- growing

abbrev pub head_at : ℕ → Node → Head
head_at number node = record { number = number; dtype = node.dtype; rows = node.rows }

-- the tree of a node that isn't there
abbrev pub gap : ℕ → Tree
gap number = missing (record { number = number; dtype = bool_type NonNullable; rows = 0 })

abbrev pub forest_from : List Tree → Forest
forest_from [] = no_trees
forest_from (t ∷ ts) = tree t (forest_from ts)

abbrev pub child_in : List Tree → ℕ → Tree
child_in [] place = gap 0
child_in (t ∷ ts) zero = t
child_in (t ∷ ts) (suc place) = child_in ts place

-- the validity at a place, where the dtype takes nulls
abbrev pub validity_in : Nullability → List Tree → ℕ → Validity
validity_in NonNullable ts place = always
validity_in Nullable ts place = valid_by (child_in ts place)

-- the fields, which stand behind the validity where the dtype takes nulls
abbrev pub field_trees : Nullability → List Tree → List Tree
field_trees NonNullable ts = ts
field_trees Nullable [] = []
field_trees Nullable (t ∷ ts) = ts

-- a node of a kind over the trees of its children
abbrev pub grown_as : Head → LayoutKind → List Tree → Tree
grown_as head (kinds.Flat segment coding) ts = leaf head segment coding
grown_as head kinds.Chunked ts = chunks head (forest_from ts)
grown_as head kinds.Struct ts =
    fields head (forest_from (field_trees (nullability_of head.dtype) ts)) (validity_in (nullability_of head.dtype) ts 0)
grown_as head kinds.Dict ts = dict head (child_in ts 0) (child_in ts 1)
grown_as head kinds.List ts = lists head (child_in ts 0) (child_in ts 1) (validity_in (nullability_of head.dtype) ts 2)
grown_as head (kinds.Zoned zone_len stats) ts = zoned head (zones_of false zone_len stats) (child_in ts 0) (child_in ts 1)
grown_as head (kinds.LegacyStats zone_len stats) ts = zoned head (zones_of true zone_len stats) (child_in ts 0) (child_in ts 1)

-- the tree of a node, and nothing where the list has no such node
abbrev pub grown : (ℕ → Tree) → ℕ → Option Node → Tree
grown below number None = gap number
grown below number (Some node) = grown_as (head_at number node) node.kind (map below node.children)

-- The tree of a node down to so many levels. Where each child has a greater number than its parent, no node
-- has more levels below it than the list has nodes.
unfoldable pub grow : ℕ → List Node → ℕ → Tree
grow zero nodes number = gap number
grow (suc levels) nodes number = grown (grow levels nodes) number (slice_get nodes number)

-- the tree that begins at a node
abbrev pub subtree : List Node → ℕ → Tree
subtree nodes number = grow (length nodes) nodes number
