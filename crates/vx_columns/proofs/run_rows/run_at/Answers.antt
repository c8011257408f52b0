use Rattle.std.proofs.Common.{length, refl, arith}
use Rattle.vx_columns.proofs.FoundRuns.{run_there, run_past}
use Rattle.vx_columns.proofs.run_rows.run_at.Goals as goal

pub returns-then-row-last_of : goal.returns-then-row-last_of
returns-then-row-last_of c = run_there c.args.ends.now c.args.row c.place_of.result c.requires c.place_of.ensures

pub returns-else-row-last_of : goal.returns-else-row-last_of
returns-else-row-last_of c = run_past c.args.ends.now c.args.row (length c.args.ends.now) c.requires (omega (arith, c.if-row-last_of.false, c.last_of.ensures)) refl
