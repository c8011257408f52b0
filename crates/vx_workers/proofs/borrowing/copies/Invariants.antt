use Rattle.std.proofs.Common.{◌≡◌, map, take}
use Rattle.vx_steps.specs.Kept.{kept_data}
use Rattle.vx_chunks.specs.Outcomes.{data_of}
use Rattle.vx_workers.proofs.borrowing.copies.Given as goal

-- the copies so far
abbrev pub invariant-loop-value : goal.invariant-loop-value
invariant-loop-value l = data_of l.copied.items ≡ map kept_data (take l.value-index l.values)
