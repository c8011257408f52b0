use Rattle.std.proofs.Common.{◌∙◌, ◌++◌, ap, refl}
use Rattle.scan_output.specs.RowText.{line}
use Rattle.scan_output.proofs.ColumnLines.{line_more, none_yet, all_done}
use Rattle.scan_output.proofs.column_lines.append_cells.Goals as goal
use Rattle.vx_base.specs.Cells.{cell_datum}

pub loop-row-init : goal.loop-row-init
loop-row-init c = none_yet c.args.column.now.dtype c.args.column.now.values c.args.rows.start c.args.out.now.items c.args.out.now.items refl

pub loop-row-preserved : goal.loop-row-preserved
loop-row-preserved c =
    let v = cell_datum c.cell.result in
    line_more c.args.column.now.dtype c.args.column.now.values c.args.rows.start c.loop-row.row v c.loop-row.out.items c.append_cell_line.new.out.items c.args.out.now.items
    c.loop-row.auto.row c.cell.ensures (c.in_ok-append_cell_line.ensures ∙ ap (λ t. c.loop-row.out.items ++ line t v) c.dtype-dtype.ensures) c.loop-row.invariant

pub returns : goal.returns
returns c = all_done c.args.column.now.dtype c.args.column.now.values c.args.rows.start c.loop-row.row c.args.rows.end c.loop-row.out.items c.args.out.now.items c.loop-row-test.false (c.loop-row.auto.row-end c.requires.forwards) c.loop-row.invariant
