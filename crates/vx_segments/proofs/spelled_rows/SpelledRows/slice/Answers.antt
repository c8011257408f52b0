use Rattle.std.proofs.Common.{◌∙◌, Err, ap, length, arith}
use Rattle.std.specs.List.{slice_range}
use Rattle.vx_types.specs.Columns.{ColumnData}
use Rattle.vx_types.specs.Views.{data_type}
use Rattle.vx_segments.proofs.StillBytes.{still_rows, still_len, never_refused}
use Rattle.vx_segments.proofs.spelled_rows.SpelledRows.slice.Goals as goal

pub decode_rows-requires-clause-inside : goal.decode_rows-requires-clause-inside
decode_rows-requires-clause-inside c = omega (arith, c.requires.inside, ap (λ (a : ColumnData). length a.values) c.self.view_is, still_len (data_type c.self.inside.dtype) c.self.inside.coding c.self.inside.rows c.self.inside.bytes.items c.self.invariant)

pub unreachable-requires : goal.unreachable-requires
unreachable-requires c = never_refused (data_type c.self.inside.dtype) c.self.inside.coding c.self.inside.rows c.self.inside.bytes.items c.self.invariant (rw c.as_slice-bytes.ensures.value at (c.in-Err-BadSegment.ensures.unread (λ i. Err (c.in-Err-BadSegment.field-0-is i))))

pub returns-in-Ok-clause-values : goal.returns-in-Ok-clause-values
returns-in-Ok-clause-values c =
    still_rows (data_type c.self.inside.dtype) c.self.inside.coding c.self.inside.rows c.args.rows.start c.args.rows.end c.self.inside.bytes.items c.in-Ok.column.values c.self.invariant (rw c.as_slice-bytes.ensures.value at c.in-Ok.ensures.read)
    ∙ ap (λ (a : ColumnData). slice_range a.values c.args.rows.start c.args.rows.end) c.self.view_is
