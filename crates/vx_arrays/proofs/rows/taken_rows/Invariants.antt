use Rattle.std.proofs.Common.{◌≡◌, take}
use Rattle.vx_masks.specs.Rows.{taken}
use Rattle.vx_arrays.proofs.rows.taken_rows.Given as goal

abbrev pub invariant-loop-place : goal.invariant-loop-place
invariant-loop-place g l = l.found.items ≡ taken l.blank l.rows (take l.place-index l.places)
