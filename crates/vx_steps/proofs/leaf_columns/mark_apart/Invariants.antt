use Rattle.std.proofs.Common.{map, take}
use Rattle.vx_steps.specs.Kept.{kept_data}
use Rattle.vx_steps.specs.LeafColumns.{MarksApart}
use Rattle.vx_steps.proofs.leaf_columns.mark_apart.Given as goal

abbrev pub invariant-loop-place : goal.invariant-loop-place
invariant-loop-place l = MarksApart l.apart (take l.place (map kept_data l.columns)) l.fn.gone l.gone
