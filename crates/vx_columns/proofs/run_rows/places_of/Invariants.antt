use Rattle.vx_columns.proofs.RunRows.{PlacesSoFar}
use Rattle.vx_columns.proofs.run_rows.places_of.Given as goal

abbrev pub invariant-loop-run : goal.invariant-loop-run
invariant-loop-run l = PlacesSoFar l.ends l.places.items l.run
