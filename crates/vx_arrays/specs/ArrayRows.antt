-- Arrays as data, and structs of them row by row.
use Rattle.std.specs.Prelude.{◌≡◌, refl, ℕ, ◌+◌, ◌*◌, Bool, List, [], ◌∷◌, ◌++◌, length, replicate, slice_range}
use Rattle.std.specs.List.{AllByRecursion}
use Rattle.vx_types.specs.Data.{Members, no_members, member, Datum, null, Items, no_items, item}
use Rattle.vx_types.specs.Columns.{ColumnData}
use Rattle.vx_masks.specs.Masks.{chosen}
use Rattle.vx_types.specs.Sizes.{type_size, members_size}
use Rattle.vx_types.specs.Codes.{coded_members, coded_items}
use Rattle.std.specs.Coded.{Coded, code_by, coded×, coded_list}
use Rattle.vx_masks.specs.Rows.{taken}

-- a member for each array, without a name
abbrev pub members_in : List ColumnData → Members
members_in [] = no_members
members_in (array ∷ arrays) = member [] array.dtype (members_in arrays)

-- values before items, row by row
abbrev pub beside : List Datum → List Items → List Items
beside [] rows = []
beside (v ∷ values) [] = []
beside (v ∷ values) (vs ∷ rows) = item v vs ∷ beside values rows

-- the arrays' values, row by row, with that many rows, which no arrays have too
abbrev pub rows_of : ℕ → List ColumnData → List Items
rows_of rows [] = replicate rows no_items
rows_of rows (array ∷ arrays) = beside array.values (rows_of rows arrays)

-- the items of structs, row by row, and which members they are of
pub record StructRows : Type 0 where
  pub members : Members
  pub rows : List Items

-- the pair of both stands for it
abbrev pub coded_rows : Coded StructRows
coded_rows = code_by (Members × List Items) (coded× coded_members (coded_list coded_items)) (λ s. (s.members, s.rows)) (λ p. record { members = p.0; rows = p.1 }) (λ _. refl)

abbrev pub struct_rows : ℕ → List ColumnData → StructRows
struct_rows rows arrays = record { members = members_in arrays; rows = rows_of rows arrays }

abbrev pub HaveRows : ℕ → List ColumnData → Type 0
HaveRows rows arrays = AllByRecursion (λ array. length array.values ≡ rows) arrays

-- the rows of a range
abbrev pub sliced : ℕ → ℕ → ColumnData → ColumnData
sliced from to array = record { dtype = array.dtype; values = slice_range array.values from to }

-- the rows at the true bits
abbrev pub filtered : List Bool → ColumnData → ColumnData
filtered bits array = record { dtype = array.dtype; values = chosen bits array.values }

-- the rows at these places, and null at a place past the last row
abbrev pub picked_at : List ℕ → ColumnData → ColumnData
picked_at places array = record { dtype = array.dtype; values = taken null array.values places }

-- the rows of both
abbrev pub joined : ColumnData → ColumnData → ColumnData
joined one two = record { dtype = one.dtype; values = one.values ++ two.values }

abbrev pub joined_each : List ColumnData → List ColumnData → List ColumnData
joined_each [] others = []
joined_each (one ∷ ones) [] = []
joined_each (one ∷ ones) (two ∷ others) = joined one two ∷ joined_each ones others

-- how deep arrays nest, as a number that what they hold has less of
abbrev pub array_size : ColumnData → ℕ
array_size array = 3 * type_size array.dtype + 1

abbrev pub shared_size : ColumnData → ℕ
shared_size array = 3 * type_size array.dtype + 2

abbrev pub struct_size : StructRows → ℕ
struct_size structs = 3 * members_size structs.members + 3
