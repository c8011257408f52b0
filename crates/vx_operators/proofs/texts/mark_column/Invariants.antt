use Rattle.std.proofs.Common.{◌≡◌, length, map, take}
use Rattle.vx_operators.specs.Kernels.{compares_text}
use Rattle.vx_operators.proofs.texts.mark_column.Given as goal

abbrev pub invariant-loop-row : goal.invariant-loop-row
invariant-loop-row l = record {
  rows : length l.truths ≡ length l.texts;
  done : take l.row l.truths ≡ map (λ t. compares_text l.op t l.text) (take l.row l.texts);
}
