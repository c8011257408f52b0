-- What an array holds is smaller than the array.
use Rattle.std.specs.Prelude.{ℕ, ◌≤◌, ◌+◌, Bool, List, [], ◌∷◌}
use Rattle.std.proofs.Common.{arith}
use denote.Param.Weighed.{most}
use Rattle.vx_types.specs.Columns.{ColumnData}
use Rattle.vx_arrays.specs.declared.arrays.Buffers.{Buffers}
use Rattle.vx_arrays.specs.declared.arrays.Buffers.TheVariants as variants
use Rattle.vx_arrays.specs.declared.arrays.Array.TheDeep.{deep-Buffers}
use Rattle.vx_arrays.specs.ArrayRows.{array_size, shared_size, struct_size, struct_rows}
use Rattle.vx_arrays.specs.Buffers.{array_column}

pub buffers_fall : (mask : List Bool) (buffers : Buffers) → deep-Buffers buffers ≤ array_size (array_column mask buffers)
buffers_fall mask (variants.Truths bits) = omega arith
buffers_fall mask (variants.Numbers numbers) = omega arith
buffers_fall mask (variants.Texts texts) = omega arith
buffers_fall mask (variants.Structs arrays) = omega arith
buffers_fall mask (variants.Lists bits) = omega arith

pub arrays_fall : (rows : ℕ) (arrays : List ColumnData) → most (λ array. shared_size array + 1) arrays ≤ struct_size (struct_rows rows arrays)
arrays_fall rows [] = omega arith
arrays_fall rows (array ∷ arrays) = omega (arith, arrays_fall rows arrays)
