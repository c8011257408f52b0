use Rattle.std.proofs.Common.{◌≡◌, ◌++◌, map, take}
use Rattle.vx_arrays.specs.Texts.{moved}
use Rattle.vx_arrays.proofs.texts.push_ends.Given as goal

abbrev pub invariant-loop-end : goal.invariant-loop-end
invariant-loop-end l = l.ends.items ≡ l.fn.ends.items ++ map (moved l.base l.from) (take l.end-index l.more)
