use Rattle.vx_masks.proofs.Chosen.{Filtered}
use Rattle.vx_masks.proofs.filters.filter_words.Given as goal

abbrev pub invariant-loop-index : goal.invariant-loop-index
invariant-loop-index g l = Filtered g.row.T.Denot l.mask l.values l.kept.items l.index
