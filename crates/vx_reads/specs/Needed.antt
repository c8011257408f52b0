-- Which segments the selected rows of a range need, in the order in which they are read.
use Rattle.std.specs.Prelude.{◌≡◌, ℕ, ◌-◌, Bool, true, if◌then◌else◌, List, [], ◌∷◌, ◌++◌, length, take, drop, replicate}
use Rattle.vx_base.specs.Data.{Members, no_members, member}
use Rattle.vx_layout.specs.Rows.{struct_members}
use Rattle.vx_layout.specs.Trees.{Tree, missing, leaf, chunks, fields, dict, lists, zoned, Forest, no_trees, tree, head_of}
use Rattle.vx_picking.specs.Rows.{selects_some}

-- a leaf is read whole, unless the range is empty
abbrev pub needed_of_leaf : ℕ → List Bool → List ℕ
needed_of_leaf segment [] = []
needed_of_leaf segment (bit ∷ bits) = segment ∷ []

-- A chunk of which no row is selected is skipped. A dictionary needs what its codes need, and all rows of its values,
-- where some row is selected. A struct needs what each of its fields needs; one that takes nulls is not read, so a validity
-- needs nothing here. Data in zones needs what the data needs, and nothing of the zones.
abbrev mutual
  pub needed : Tree → ℕ → List Bool → List ℕ
  needed (missing head) start bits = []
  needed (leaf head segment coding) start bits = needed_of_leaf segment bits
  needed (chunks head forest) start bits = needed_in forest start bits
  needed (fields head forest validity) start bits = needed_of_fields (struct_members head.dtype) forest start bits
  needed (dict head values codes) start bits =
      if selects_some bits then needed codes start bits ++ needed values 0 (replicate (head_of values).rows true) else []
  needed (lists head elements offsets validity) start bits = []
  needed (zoned head zones content table) start bits = needed content start bits

  -- of trees one after another
  pub needed_in : Forest → ℕ → List Bool → List ℕ
  needed_in no_trees start bits = []
  needed_in (tree first rest) start bits =
      (if selects_some (take ((head_of first).rows - start) bits) then needed first start (take ((head_of first).rows - start) bits) else [])
      ++ needed_in rest (start - (head_of first).rows) (drop ((head_of first).rows - start) bits)

  -- of a tree for each field
  pub needed_of_fields : Members → Forest → ℕ → List Bool → List ℕ
  needed_of_fields no_members forest start bits = []
  needed_of_fields (member name t ms) no_trees start bits = []
  needed_of_fields (member name t ms) (tree first rest) start bits = needed first start bits ++ needed_of_fields ms rest start bits

-- of trees beside each other, whatever their names: what the loop over the fields of a struct adds
abbrev pub needed_of_each : Forest → ℕ → List Bool → List ℕ
needed_of_each no_trees start bits = []
needed_of_each (tree first rest) start bits = needed first start bits ++ needed_of_each rest start bits

-- of a tree, where some row is selected
abbrev pub needed_of_range : Tree → ℕ → List Bool → List ℕ
needed_of_range t start bits = if selects_some bits then needed t start bits else []

-- what a list held stands at its front
abbrev pub BeginsWith : List ℕ → List ℕ → Type 0
BeginsWith held list = take (length held) list ≡ held
