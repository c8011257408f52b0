use Rattle.std.proofs.Common.{drop}
use Rattle.vx_masks.specs.Forms.{Within}
use Rattle.vx_masks.proofs.few_rows.are_within.Given as goal

abbrev pub invariant-loop-number : goal.invariant-loop-number
invariant-loop-number l = Within l.low l.rows (drop l.number-index l.numbers) → Within 0 l.rows l.numbers
