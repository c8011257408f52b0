use Rattle.std.proofs.Common.{refl}
use Rattle.vx_scan.proofs.by_hand.pieces_by_hand.Goals as goal

pub returns-clause-threes : goal.returns-clause-threes
returns-clause-threes c = refl

pub returns-clause-cut : goal.returns-clause-cut
returns-clause-cut c = refl

pub returns-clause-none : goal.returns-clause-none
returns-clause-none c = refl
