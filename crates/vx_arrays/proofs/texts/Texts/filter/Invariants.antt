use Rattle.vx_arrays.specs.Texts.{cut, AreTexts}
use Rattle.vx_arrays.proofs.PickedRows.{ChosenSoFar}
use Rattle.vx_arrays.proofs.texts.Texts.filter.Given as goal

abbrev pub invariant-loop-row : goal.invariant-loop-row
invariant-loop-row l = record {
  texts : AreTexts l.bytes.items l.ends.items;
  chosen : ChosenSoFar l.mask l.self (cut l.bytes.items 0 l.ends.items) l.row;
}
