use Rattle.std.proofs.Common.{◌-◌, arith}
use Rattle.vx_columns.proofs.RunEnds.{places_up}
use Rattle.vx_columns.proofs.run_rows.places_in.Goals as goal

pub returns-clause-order : goal.returns-clause-order
returns-clause-order c = places_up c.args.ends.now c.args.rows.start (c.args.rows.end - 1) c.place_of-first.result c.place_of-last.result c.requires.rise c.place_of-first.ensures c.place_of-last.ensures (omega (arith, c.requires.some))
