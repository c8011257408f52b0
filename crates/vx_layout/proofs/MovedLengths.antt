-- A spelling that is short enough, or too long, by the length that was told of it.
use Rattle.std.proofs.Common.{◌≡◌, ℕ, ◌<◌, ◌≤◌, Some, None, length, arith}
use Rattle.vx_base.specs.declared.codings.Coding.{Coding}
use Rattle.vx_base.specs.Columns.{ColumnData}
use Rattle.vx_base.specs.Lengths.{HasLength}
use Rattle.vx_layout.specs.Nodes.{Node}
use Rattle.vx_layout.specs.Shape.{AreFewIn}
use Rattle.vx_layout.specs.Migrations.{most_bytes, CanWrite, IsLong}
use Rattle.vx_layout.proofs.MovedParts.{spelled_for}

pub can_write : (node : Node) (coding : Coding) (column : ColumnData) (len : ℕ) → column.dtype ≡ node.dtype → length column.values ≡ node.rows → AreFewIn coding node.rows → HasLength coding column.dtype column.values (Some len) → len ≤ most_bytes → CanWrite node coding column.values
can_write node coding column len typed count few has le = record {
  few = few;
  bytes = has.bytes;
  spelled = spelled_for coding node.dtype column.dtype node.rows (length column.values) has.bytes column.values typed count has.spelled;
  short = omega (arith, has.counted);
}

pub long_told : (node : Node) (coding : Coding) (column : ColumnData) (len : ℕ) → column.dtype ≡ node.dtype → length column.values ≡ node.rows → HasLength coding column.dtype column.values (Some len) → most_bytes < len → IsLong node coding column.values
long_told node coding column len typed count has lt = record {
  bytes = has.bytes;
  spelled = spelled_for coding node.dtype column.dtype node.rows (length column.values) has.bytes column.values typed count has.spelled;
  long = omega (arith, has.counted);
}

-- or 64 bits don't hold it
pub long_untold : (node : Node) (coding : Coding) (column : ColumnData) → column.dtype ≡ node.dtype → length column.values ≡ node.rows → HasLength coding column.dtype column.values None → IsLong node coding column.values
long_untold node coding column typed count has = record {
  bytes = has.bytes;
  spelled = spelled_for coding node.dtype column.dtype node.rows (length column.values) has.bytes column.values typed count has.spelled;
  long = omega (arith, has.counted);
}
