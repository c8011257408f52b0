use Rattle.std.proofs.Common.{◌≡◌, [], take}
use Rattle.vx_masks.specs.Rows.{taken}
use Rattle.vx_arrays.specs.Texts.{cut, AreTexts}
use Rattle.vx_arrays.proofs.texts.Texts.take.Given as goal

abbrev pub invariant-loop-place : goal.invariant-loop-place
invariant-loop-place l = record {
  texts : AreTexts l.bytes.items l.ends.items;
  taken : cut l.bytes.items 0 l.ends.items ≡ taken [] l.self (take l.place-index l.places);
}
