use Rattle.std.proofs.Common.{◌≡◌, ◌+◌, ◌-◌, ◌≤◌, ◌++◌, take, vec_len, vec_capacity}
use Rattle.vx_masks.specs.Bytes.{packed}
use Rattle.vx_masks.proofs.word_masks.WordMask.append_bytes.Given as goal

abbrev pub invariant-loop-index : goal.invariant-loop-index
invariant-loop-index l = record {
  items : l.into.items ≡ l.fn.into.items ++ take l.index (packed l.self);
  room : vec_len l.into + (l.count - l.index) ≤ vec_capacity l.into;
}
