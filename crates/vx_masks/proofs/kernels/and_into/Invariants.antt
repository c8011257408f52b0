use Rattle.std.proofs.Common.{◌≡◌, ◌-◌, ◌≤◌, length}
use Rattle.vx_masks.specs.Words.{Small}
use Rattle.vx_masks.proofs.Numbers.{anded}
use Rattle.vx_masks.proofs.kernels.and_into.Given as goal

abbrev pub invariant-loop-into : goal.invariant-loop-into
invariant-loop-into l = record {
  inside : l.place ≤ length l.into;
  done : l.into ≡ anded l.fn.into l.other l.place;
  small : Small 64 l.fn.into;
}

abbrev pub decreases-loop-into : goal.decreases-loop-into
decreases-loop-into l = length l.initial.into - l.place

abbrev pub invariant-loop-place : goal.invariant-loop-place
invariant-loop-place l = record {
  inside : l.place ≤ length l.into;
  done : l.into ≡ anded l.fn.into l.other l.place;
  small : Small 64 l.fn.into;
}

abbrev pub decreases-loop-place : goal.decreases-loop-place
decreases-loop-place l = length l.initial.into - l.place
