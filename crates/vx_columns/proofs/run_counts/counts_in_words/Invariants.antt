use Rattle.vx_masks.specs.Words.{low_bits, number_of}
use Rattle.vx_columns.proofs.KeptRuns.{MaskCounted}
use Rattle.vx_columns.proofs.run_counts.counts_in_words.Given as goal

abbrev pub invariant-loop-end : goal.invariant-loop-end
invariant-loop-end l = MaskCounted (low_bits l.rows (number_of l.words)) l.ends l.counts.items l.before l.end-index
