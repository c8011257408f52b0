-- The data that a borrowed value stands for.
use Rattle.std.specs.Prelude.{ℕ, zero, suc, List, [], ◌∷◌}
use Rattle.vx_types.specs.Data.{Datum, null, truth, number, text, structure, Items}
use Rattle.vx_arrays.specs.declared.cells.Cell.{Cell}
use Rattle.vx_arrays.specs.declared.cells.Cell.TheVariants as variants

-- the struct of a row, and null past the last row
abbrev pub struct_at : List Items → ℕ → Datum
struct_at [] row = null
struct_at (vs ∷ rows) zero = structure vs
struct_at (vs ∷ rows) (suc row) = struct_at rows row

abbrev pub cell_datum : Cell → Datum
cell_datum variants.Null = null
cell_datum (variants.Bool b) = truth b
cell_datum (variants.Int z) = number z
cell_datum (variants.Text t) = text t.now
cell_datum (variants.Struct arrays row) = struct_at arrays.now.rows row
