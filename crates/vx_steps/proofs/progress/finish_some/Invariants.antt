use Rattle.std.proofs.Common.{ℕ, ◌<◌}
use Rattle.vx_steps.specs.Jobs.{OnlyKeeps}
use Rattle.vx_steps.specs.Running.{IsHeldAt, IsRunning, IsSound}
use Rattle.vx_steps.specs.Standings.{standing_of}
use Rattle.vx_steps.proofs.progress.finish_some.Given as goal

abbrev pub invariant-loop-place : goal.invariant-loop-place
invariant-loop-place l = record {
  sound : IsSound l.table l.job l.progress;
  running : IsRunning l.table l.job l.progress;
  keeps : OnlyKeeps l.table l.job (standing_of l.fn.progress) (standing_of l.progress);
  held : (place : ℕ) → place < l.place → IsHeldAt l.table l.job l.fn.progress place;
}
