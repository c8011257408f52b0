use Rattle.vx_io.proofs.AskShapes.{tells_asks}
use Rattle.vx_io.proofs.sessions.requests_tell_asks.Goals as goal

pub returns : goal.returns
returns c = tells_asks
