use Rattle.scan_output.proofs.RunLines.{range_of_runs}
use Rattle.scan_output.proofs.column_lines.add_row_lines.Goals as goal

pub append_run_lines-requires-clause-range : goal.append_run_lines-requires-clause-range
append_run_lines-requires-clause-range c =
    let runs = c.in-Runs.ensures in
    range_of_runs c.in-Runs.values.now.values c.args.column.now.values c.in-Runs.ends.now c.args.rows.start c.args.rows.end runs.values runs.good.same runs.good.rise c.requires.forwards c.requires.inside
