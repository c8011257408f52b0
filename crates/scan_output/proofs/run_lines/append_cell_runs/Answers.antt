use Rattle.std.proofs.Common.{◌∙◌, arith}
use Rattle.scan_output.proofs.RunLines.{still_there, run_next, run_more}
use Rattle.scan_output.proofs.run_lines.append_cell_runs.Goals as goal
use Rattle.vx_base.specs.Cells.{cell_datum}
use Rattle.vx_base.specs.Views.{data_type}

pub append_again-requires : goal.append_again-requires
append_again-requires c =
    let before = c.loop-row.out.ok in
    let after = c.append_cell_line.new.out.ok in
    omega (arith, before.0, after.0, c.len-from.ensures, still_there c.loop-row.out.items c.append_cell_line.new.out.items _ c.in_ok-append_cell_line.ensures)

pub loop-row-preserved : goal.loop-row-preserved
loop-row-preserved c =
    let at = c.loop-row.invariant.at in
    let ends = c.args.ends.now in
    let run = c.loop-row.run in
    record {
      at = run_next ends c.args.rows.start c.args.rows.end c.loop-row.row run c.min-end.result c.requires.range c.loop-row-test.true c.min-end.ensures at;
      written =
          run_more (data_type c.args.dtype.now) c.args.values.now.values ends c.args.rows.start c.args.rows.end c.loop-row.row run c.min-end.result c.len-from.result (cell_datum c.cell.result) c.loop-row.out.items c.append_cell_line.new.out.items c.append_again.new.out.items c.args.out.now.items
          c.requires.ends c.requires.range c.loop-row-test.true c.min-end.ensures (c.len-from.ensures ∙ c.loop-row.out.ok.0) at c.cell.ensures c.in_ok-append_cell_line.ensures c.in_ok-append_again.ensures c.loop-row.invariant.written;
    }
