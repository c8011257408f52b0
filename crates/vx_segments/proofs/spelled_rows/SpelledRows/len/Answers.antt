use Rattle.std.proofs.Common.{◌∙◌, ap, sym, length}
use Rattle.vx_types.specs.Columns.{ColumnData}
use Rattle.vx_types.specs.Views.{data_type}
use Rattle.vx_segments.proofs.StillBytes.{still_len}
use Rattle.vx_segments.proofs.spelled_rows.SpelledRows.len.Goals as goal

pub returns : goal.returns
returns c = sym (still_len (data_type c.self.inside.dtype) c.self.inside.coding c.self.inside.rows c.self.inside.bytes.items c.self.invariant) ∙ ap (λ (a : ColumnData). length a.values) c.self.view_is
