use Rattle.std.proofs.Common.{◌≡◌, ◌-◌, length}
use Rattle.vx_steps.specs.Jobs.{KeepsBound, KeepsTold, Starts}
use Rattle.vx_steps.specs.Running.{IsGoing, IsSound}
use Rattle.vx_steps.specs.Standings.{standing_of}
use Rattle.vx_steps.proofs.progress.start_splits.Given as goal

abbrev pub decreases-splits : goal.decreases-splits
decreases-splits l = length l.job.splits.items - l.progress.next

abbrev pub invariant-splits : goal.invariant-splits
invariant-splits l = record {
  sound : IsSound l.table l.job l.progress;
  going : IsGoing l.table l.job l.progress;
  told : KeepsTold l.table l.job (standing_of l.fn.progress) (standing_of l.progress);
  store : l.progress.store ≡ l.fn.progress.store;
  noted : l.progress.needed.noted ≡ l.fn.progress.needed.noted;
  wholes : l.progress.wholes ≡ l.fn.progress.wholes;
  bounded : KeepsBound l.job (standing_of l.fn.progress) (standing_of l.progress);
  starts : Starts l.table l.job (standing_of l.fn.progress) (standing_of l.progress);
}
