use Rattle.std.proofs.Common.{drop}
use Rattle.vx_masks.proofs.Chosen.{Picked}
use Rattle.vx_masks.proofs.filters.push_chosen.Given as goal

abbrev pub invariant-loop-rest : goal.invariant-loop-rest
invariant-loop-rest g l = Picked g.row.T.Denot l.fn.kept.items l.kept.items l.word l.rest (drop l.start l.values) (drop l.place l.values)

abbrev pub decreases-loop-rest : goal.decreases-loop-rest
decreases-loop-rest g l = l.rest
