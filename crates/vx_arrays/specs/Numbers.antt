-- Numbers of a kind as data.
use Rattle.std.specs.Prelude.{ℤ, List}
use Rattle.vx_types.specs.declared.dtypes.IntKind.{IntKind}
use Rattle.vx_types.specs.declared.dtypes.IntKind.TheVariants as kinds
use Rattle.vx_arrays.specs.declared.numbers.Numbers.{Numbers}
use Rattle.vx_arrays.specs.declared.numbers.Numbers.TheVariants as variants

-- which kind they are of
abbrev pub kind_in : Numbers → IntKind
kind_in (variants.U8 numbers) = kinds.U8
kind_in (variants.U16 numbers) = kinds.U16
kind_in (variants.U32 numbers) = kinds.U32
kind_in (variants.U64 numbers) = kinds.U64
kind_in (variants.I8 numbers) = kinds.I8
kind_in (variants.I16 numbers) = kinds.I16
kind_in (variants.I32 numbers) = kinds.I32
kind_in (variants.I64 numbers) = kinds.I64

-- the numbers, in order
abbrev pub numbers_in : Numbers → List ℤ
numbers_in (variants.U8 numbers) = numbers
numbers_in (variants.U16 numbers) = numbers
numbers_in (variants.U32 numbers) = numbers
numbers_in (variants.U64 numbers) = numbers
numbers_in (variants.I8 numbers) = numbers
numbers_in (variants.I16 numbers) = numbers
numbers_in (variants.I32 numbers) = numbers
numbers_in (variants.I64 numbers) = numbers
