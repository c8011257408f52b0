-- The rows of a struct by the columns of its fields.
use Rattle.std.specs.Prelude.{ℕ, List, [], ◌∷◌, map, slice_index_or}
use Rattle.vx_base.specs.Data.{Members, no_members, member, Datum, null}
use Rattle.vx_expr.specs.Packs.{struct_row}
use Rattle.vx_rows.specs.Derivations.{Leaves, valid_value}
use Rattle.vx_layout.specs.Trees.{Forest, tree}
use Rattle.vx_layout.specs.Kept.{all}
use Rattle.vx_layout.specs.Rows.{AreTreeValues}

-- Each field has a column: the values of all rows of its tree.
abbrev pub AreColumns : Leaves → Members → Forest → List (List Datum) → Type 0
AreColumns leaves no_members forest [] = Unit {0}
AreColumns leaves (member name t ms) (tree first rest) (column ∷ columns) =
    AreTreeValues leaves first all column × AreColumns leaves ms rest columns
AreColumns leaves ms forest columns = ⊥

-- the struct of the columns' values at a row
abbrev pub row_of : List (List Datum) → ℕ → Datum
row_of columns row = struct_row (map (λ column. slice_index_or column row null) columns)

-- the same, and null where the validity's value is false
abbrev pub valid_row_of : List Datum → List (List Datum) → ℕ → Datum
valid_row_of validity columns row = valid_value (row_of columns row) (slice_index_or validity row null)
