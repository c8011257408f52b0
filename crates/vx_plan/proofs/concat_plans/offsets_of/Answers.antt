use Rattle.std.proofs.Common.{◌+◌, ◌≤◌, List, map, subst, sym, arith}
use Rattle.std.specs.List.{sum_by}
use Rattle.std.proofs.Common.{ℕ}
use Rattle.vx_plan.specs.Nodes.{Node, node_data}
use Rattle.vx_plan.specs.Rules.{nodes_at, rows_of}
use Rattle.vx_plan.proofs.Offsets.{AreOffsetsSoFar, one_more, too_many}
use Rattle.vx_plan.proofs.concat_plans.offsets_of.Goals as goal

pub returns-then-more-rows : goal.returns-then-more-rows
returns-then-more-rows c =
    let below : List Node = nodes_at (map node_data c.args.nodes.now) c.args.children.now in
    let many : c.loop-place.rows + c.child_at.result.now.row_count ≤ sum_by rows_of below = too_many below c.loop-place.place c.loop-place.rows c.loop-place.offsets.items (node_data c.child_at.result.now) c.child_at.ensures c.loop-place.invariant in
    omega arith

pub loop-place-preserved : goal.loop-place-preserved
loop-place-preserved c =
    let below : List Node = nodes_at (map node_data c.args.nodes.now) c.args.children.now in
    let So : List ℕ → Type 0 = λ (offsets : List ℕ). AreOffsetsSoFar below (c.loop-place.place + 1) (c.loop-place.rows + c.child_at.result.now.row_count) offsets in
    subst So (sym c.in_ok-push.ensures.items) (one_more below c.loop-place.place c.loop-place.rows c.loop-place.offsets.items (node_data c.child_at.result.now) c.child_at.ensures c.loop-place.invariant)
