use Rattle.std.proofs.Common.{◌≡◌, ◌+◌, ◌∙◌, ap}
use Rattle.vx_arrays.specs.Cells.{cell_datum}
use Rattle.vx_types.specs.Data.{DataType}
use Rattle.vx_segments.specs.Lengths.{front_size}
use Rattle.vx_segments.proofs.Lengths.{one_has}
use Rattle.vx_segments.proofs.spelled_lens.constant_len.Goals as goal

pub returns-else-len-eq0 : goal.returns-else-len-eq0
returns-else-len-eq0 c =
    let t = c.args.column.now.dtype in
    let front : c.front_len.result ≡ front_size t 1 = c.front_len.ensures ∙ ap (λ (u : DataType). front_size u 1) c.dtype.ensures in
    one_has t c.args.column.now.values (cell_datum c.cell.result) (c.front_len.result + c.text_len.result) c.requires.leaf c.len.ensures.fit c.requires.short c.requires.alike c.cell.ensures (λ i. front i + c.text_len.ensures i)
