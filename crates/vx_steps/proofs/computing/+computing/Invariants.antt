use Rattle.std.proofs.Common.{◌≡◌, ◌+◌, ◌*◌, ◌≤◌, ◌-◌, length, take}
use Rattle.std.specs.List.{AllByRecursion}
use Rattle.vx_base.specs.ColumnCalls.{IsFitting}
use Rattle.vx_base.specs.Masks.{true_count}
use Rattle.vx_plan.specs.Rules.{node_at}
use Rattle.vx_steps.specs.Computed.{AreChunkParts, AreParts}
use Rattle.vx_steps.specs.Held.{held}
use Rattle.vx_steps.proofs.computing.+computing.Given as goal

abbrev pub decreases-column_of : goal.decreases-column_of
decreases-column_of l = 5 * l.plan + 2

abbrev pub decreases-whole_of_plan : goal.decreases-whole_of_plan
decreases-whole_of_plan l = 5 * l.plan + 3

abbrev pub decreases-chunk_parts : goal.decreases-chunk_parts
decreases-chunk_parts l = 5 * l.plan

abbrev pub decreases-chunks_of : goal.decreases-chunks_of
decreases-chunks_of l = 5 * l.plan + 1

abbrev pub decreases-range_of : goal.decreases-range_of
decreases-range_of l = 5 * l.plan + 3

abbrev pub decreases-parts_of : goal.decreases-parts_of
decreases-parts_of l = 5 * l.plan

abbrev pub decreases-structs_of : goal.decreases-structs_of
decreases-structs_of l = 5 * l.plan + 1

abbrev pub decreases-take_of : goal.decreases-take_of
decreases-take_of l = 5 * l.plan

abbrev pub decreases-share_of : goal.decreases-share_of
decreases-share_of l = 5 * l.plan

abbrev pub decreases-prune_of : goal.decreases-prune_of
decreases-prune_of l = 5 * l.plan

abbrev pub decreases-eval_of : goal.decreases-eval_of
decreases-eval_of l = 5 * l.plan

abbrev pub invariant-chunk_parts-loop-done : goal.invariant-chunk_parts-loop-done
invariant-chunk_parts-loop-done l = record {
  inside : l.done ≤ length l.mask;
  parts : AreChunkParts (held l.from) l.plan l.start (take l.done l.mask) l.parts.items;
}

abbrev pub decreases-chunk_parts-loop-done : goal.decreases-chunk_parts-loop-done
decreases-chunk_parts-loop-done l = length l.mask - l.done

abbrev pub invariant-parts_of-loop-place : goal.invariant-parts_of-loop-place
invariant-parts_of-loop-place l = record {
  parts : AreParts (held l.from) l.start l.mask (take l.place (node_at l.from.table.now l.plan).children) l.parts.items;
  rows : AllByRecursion (λ part. length part.values ≡ true_count l.mask) l.parts.items;
  fit : AllByRecursion IsFitting l.parts.items;
}
