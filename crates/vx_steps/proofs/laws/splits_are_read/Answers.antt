use Rattle.vx_steps.proofs.SplitVisits.{split_cause, wanted_read}
use Rattle.vx_steps.proofs.laws.splits_are_read.Goals as goal

pub returns : goal.returns
returns c = record { wanted = wanted_read; causes = split_cause }
