use Rattle.std.proofs.Common.{map, take}
use Rattle.vx_steps.specs.Kept.{kept_data}
use Rattle.vx_steps.specs.PlanMarks.{HasRoom, KeepsMarks}
use Rattle.vx_steps.proofs.leaf_columns.reach_all.Given as goal

abbrev pub invariant-loop-place : goal.invariant-loop-place
invariant-loop-place l = record {
  room : HasRoom l.gone (take l.place (map kept_data l.columns));
  marks : KeepsMarks l.fn.gone l.gone;
}
