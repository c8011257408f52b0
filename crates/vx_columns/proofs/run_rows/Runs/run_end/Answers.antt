use Rattle.std.proofs.Common.{refl}
use Rattle.vx_columns.proofs.RunEnds.{run_of_column}
use Rattle.vx_columns.proofs.SpreadRuns.{run_inside}
use Rattle.vx_columns.proofs.run_rows.Runs.run_end.Goals as goal

pub place_of-place-requires : goal.place_of-place-requires
place_of-place-requires c = run_inside c.parts.result.0.now c.args.self.now c.parts.result.1.now c.parts.result.1.now c.args.row c.parts.ensures.column refl c.parts.ensures.same c.parts.ensures.rise c.requires

pub returns : goal.returns
returns c = run_of_column c.parts.result.0.now c.args.self.now c.parts.result.1.now c.args.row c.place_of-place.result c.array_run_end-behind.result c.parts.ensures.column c.parts.ensures.same c.parts.ensures.rise c.place_of-place.ensures c.array_run_end-behind.ensures
