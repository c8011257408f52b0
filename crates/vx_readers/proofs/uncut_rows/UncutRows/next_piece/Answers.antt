use Rattle.std.proofs.Common.{◌+◌, ◌≤◌, length, ap, arith}
use Rattle.vx_base.specs.Columns.{ColumnData}
use Rattle.vx_readers.proofs.Uncut.{piece_long, piece_off}
use Rattle.vx_readers.proofs.uncut_rows.UncutRows.next_piece.Goals as goal

pub returns-clause-values : goal.returns-clause-values
returns-clause-values c =
    let inside = c.self.inside in
    let fits : c.place_of-place.result.1 + c.min-rows.result ≤ length c.index-part.result.now.values = (let long = piece_long c.self.inside.parts.items c.as_slice.result.now c.place_of-place.result.0 c.place_of-place.result.1 c.index-part.result.now c.as_slice.ensures.value c.place_of-place.ensures.there c.index-part.ensures in omega (arith, c.min-rows.ensures, c.len.ensures.rows)) in
    piece_off c.self.inside.parts.items c.as_slice.result.now inside.place inside.used c.place_of-place.result.0 c.place_of-place.result.1 c.min-rows.result c.index-part.result.now c.in_ok-piece.piece c.args.self.now.values c.as_slice.ensures.value c.place_of-place.ensures.there c.index-part.ensures c.place_of-place.ensures.same fits c.in_ok-piece.ensures.values (ap (λ (column : ColumnData). column.values) c.self.view_is)
