-- The fields of a struct dtype, whoever has them.
use Rattle.std.specs.Arc.{arc_value}
use Rattle.vx_types.specs.Data.{Members}
use Rattle.vx_types.specs.declared.dtypes.FieldList.{FieldList}
use Rattle.vx_types.specs.declared.dtypes.FieldList.TheVariants as lists

-- the members that they are
abbrev pub listed : FieldList → Members
listed (lists.Alone fields) = fields
listed (lists.Shared fields) = arc_value fields
