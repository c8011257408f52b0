use Rattle.vx_columns.proofs.SpreadRuns.{run_inside, run_row}
use Rattle.vx_columns.proofs.run_rows.Runs.value_of.Goals as goal

pub place_of-place-requires : goal.place_of-place-requires
place_of-place-requires c = run_inside c.self.inside.values c.args.self.now c.self.inside.ends.items c.as_slice.result.now c.args.row c.self.view_is c.as_slice.ensures.value c.self.invariant.same c.self.invariant.rise c.requires

pub returns-clause-value : goal.returns-clause-value
returns-clause-value c = run_row c.self.inside.values c.args.self.now c.self.inside.ends.items c.as_slice.result.now c.args.row c.place_of-place.result c.self.view_is c.as_slice.ensures.value c.self.invariant.same c.self.invariant.rise c.place_of-place.ensures
