-- Structs from the columns of a pack's children, of which the last is the validity where there is one.
use Rattle.std.specs.Prelude.{◌≡◌, ℕ, Bool, true, false, List, [], ◌∷◌, map, Option, Some, None}
use Rattle.std.specs.List.{range_with_len}
use Rattle.vx_base.specs.ColumnCalls.{packed_at, IsBool}
use Rattle.vx_base.specs.Columns.{ColumnData}
use Rattle.vx_base.specs.Data.{Datum}
use Rattle.vx_base.specs.Slots.{truth_in}
use Rattle.vx_plan.specs.Nodes.{Node}
use Rattle.vx_plan.specs.Rules.{node_at}

abbrev pub last_part : List ColumnData → Option ColumnData
last_part [] = None
last_part (part ∷ []) = Some part
last_part (part ∷ next ∷ parts) = last_part (next ∷ parts)

abbrev pub front_parts : List ColumnData → List ColumnData
front_parts [] = []
front_parts (part ∷ []) = []
front_parts (part ∷ next ∷ parts) = part ∷ front_parts (next ∷ parts)

-- the truth values of a column
abbrev pub truths_of : Option ColumnData → Option (List Bool)
truths_of None = None
truths_of (Some part) = Some (map truth_in part.values)

abbrev pub LastIsBool : List ColumnData → Type 0
LastIsBool [] = Unit {0}
LastIsBool (part ∷ []) = IsBool part.dtype
LastIsBool (part ∷ next ∷ parts) = LastIsBool (next ∷ parts)

abbrev pub validity_part : Bool → List ColumnData → Option (List Bool)
validity_part false parts = None
validity_part true parts = truths_of (last_part parts)

abbrev pub field_parts : Bool → List ColumnData → List ColumnData
field_parts false parts = parts
field_parts true parts = front_parts parts

-- so many structs
abbrev pub structs_at : Bool → List ColumnData → ℕ → List Datum
structs_at has_validity parts rows = map (packed_at (validity_part has_validity parts) (field_parts has_validity parts)) (range_with_len 0 rows)

-- each column has the dtype of its plan
abbrev pub HaveTypes : List Node → List ℕ → List ColumnData → Type 0
HaveTypes nodes [] [] = Unit {0}
HaveTypes nodes (n ∷ ns) (part ∷ parts) = (part.dtype ≡ (node_at nodes n).dtype) × HaveTypes nodes ns parts
HaveTypes nodes ns parts = ⊥
