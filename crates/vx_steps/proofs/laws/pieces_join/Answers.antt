use Rattle.vx_steps.proofs.PieceRows.{pieces_are}
use Rattle.vx_steps.proofs.laws.pieces_join.Goals as goal

pub returns : goal.returns
returns c = pieces_are
