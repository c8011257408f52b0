use Rattle.std.proofs.Common.{◌≡◌, ◌++◌, take}
use Rattle.vx_segments.specs.Codings.{end_bytes}
use Rattle.vx_segments.proofs.encoded_segments.push_ends.Given as goal

abbrev pub invariant-loop-end : goal.invariant-loop-end
invariant-loop-end l = l.bytes.items ≡ l.fn.bytes.items ++ end_bytes (take l.end-index l.ends)
