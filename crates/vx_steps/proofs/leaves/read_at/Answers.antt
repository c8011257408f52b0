use Rattle.vx_steps.proofs.Needing.{placed_at}
use Rattle.vx_steps.proofs.NextNeeds.{got_read}
use Rattle.vx_steps.proofs.PieceRows.{need_there}
use Rattle.vx_steps.proofs.leaves.read_at.Goals as goal

pub returns : goal.returns
returns c = got_read c.args.needs.now c.args.place (placed_at c.args.needs.now c.args.place) (need_there c.args.needs.now c.args.place c.requires)
