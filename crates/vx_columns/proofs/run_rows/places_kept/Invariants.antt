use Rattle.vx_columns.proofs.KeptRuns.{PlacesKept}
use Rattle.vx_columns.proofs.run_rows.places_kept.Given as goal

abbrev pub invariant-loop-place : goal.invariant-loop-place
invariant-loop-place l = PlacesKept l.counts l.places.items l.place
