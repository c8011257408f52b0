use Rattle.std.proofs.Common.{◌<◌, length}
use Rattle.vx_steps.specs.LettingGo.{open_count, KeepsStanding}
use Rattle.vx_steps.specs.Running.{IsPassing, IsSound}
use Rattle.vx_steps.proofs.letting_go.pass_needs.Given as goal

abbrev pub invariant-needs : goal.invariant-needs
invariant-needs l = record {
  inside : l.place < length l.progress.active.items;
  sound : IsSound l.table l.job l.progress;
  passing : IsPassing l.table l.job l.place l.progress;
  keeps : KeepsStanding l.fn.progress l.progress;
}

abbrev pub decreases-needs : goal.decreases-needs
decreases-needs l = open_count l.place l.progress
