use Rattle.std.proofs.Common.{◌≡◌, ◌-◌, ◌^◌, min, take}
use Rattle.vx_steps.proofs.HeldBytes.{held_in}
use Rattle.vx_steps.proofs.reads.ReadTable.held_bytes.Given as goal

abbrev pub invariant-loop-wanted : goal.invariant-loop-wanted
invariant-loop-wanted l = l.held ≡ min (held_in (take l.wanted-index l.wanted-items)) (2 ^ 64 - 1)
