use Rattle.vx_plan.proofs.SelectedReads.{reached_is_read, read_is_reached}
use Rattle.vx_plan.proofs.laws.reached_is_read.Goals as goal

pub returns : goal.returns
returns c = record { only = reached_is_read; each = read_is_reached }
