use Rattle.std.proofs.Common.{◌≡◌, ℕ, ◌+◌, ◌*◌, ◌<◌, ◌≤◌, Bool, List, length, map, sym, ap, ◌∙◌, subst, arith}
use Rattle.vx_base.specs.Data.{truth}
use Rattle.vx_plan.specs.Kinds.{zone_len_of}
use Rattle.vx_plan.specs.Nodes.{Node}
use Rattle.vx_plan.specs.Rules.{node_at}
use Rattle.vx_steps.proofs.PrunedRows.{proof_there, pruned_count, rows_zoned, told_of_rows}
use Rattle.vx_steps.proofs.pruned.pruned_of.Goals as goal

within : (a b c : ℕ) → a ≤ b → b ≤ c → a ≤ c
within a b c less more = omega arith

pub rows_pruned-requires-clause-some_rows : goal.rows_pruned-requires-clause-some_rows
rows_pruned-requires-clause-some_rows c =
    let nodes = c.args.table.now in
    let node : Node = node_at nodes c.args.plan in
    let is : c.zone_len-zone_len.result ≡ zone_len_of node.kind = c.zone_len-zone_len.ensures ∙ ap (λ (n : ℕ). zone_len_of (node_at nodes n).kind) c.pruning_at-zoned.ensures.number in
    let there = proof_there nodes c.args.plan c.requires.pruning in
    let zoned = rows_zoned node c.args.told c.in-Ok.pruned there.0 there.1 c.requires.told (c.in-Ok.ensures.pruned there.0 there.1) in
    subst (λ (k : ℕ). 0 < k) (sym is) zoned.0

pub rows_pruned-requires-clause-zoned : goal.rows_pruned-requires-clause-zoned
rows_pruned-requires-clause-zoned c =
    let nodes = c.args.table.now in
    let node : Node = node_at nodes c.args.plan in
    let is : c.zone_len-zone_len.result ≡ zone_len_of node.kind = c.zone_len-zone_len.ensures ∙ ap (λ (n : ℕ). zone_len_of (node_at nodes n).kind) c.pruning_at-zoned.ensures.number in
    let there = proof_there nodes c.args.plan c.requires.pruning in
    let zoned = rows_zoned node c.args.told c.in-Ok.pruned there.0 there.1 c.requires.told (c.in-Ok.ensures.pruned there.0 there.1) in
    subst (λ (k : ℕ). c.args.start + length c.args.mask.now ≤ length c.in-Ok.pruned * k) (sym is) (within (c.args.start + length c.args.mask.now) node.rows (length c.in-Ok.pruned * zone_len_of node.kind) c.requires.inside zoned.1)

pub rows_pruned-requires-clause-few : goal.rows_pruned-requires-clause-few
rows_pruned-requires-clause-few c = omega (arith, c.requires.inside, c.requires.few)

pub returns-in_ok-truth_column-in-Ok-clause-rows : goal.returns-in_ok-truth_column-in-Ok-clause-rows
returns-in_ok-truth_column-in-Ok-clause-rows c =
    ap length c.in_ok-truth_column-in-Ok.ensures.values
    ∙ ap (λ (rows : List Bool). length (map truth rows)) c.in_ok-rows-in-Ok.ensures
    ∙ pruned_count c.in-Ok.pruned c.zone_len-zone_len.result c.args.start c.args.mask.now

pub returns-in_ok-truth_column-in-Ok-clause-values : goal.returns-in_ok-truth_column-in-Ok-clause-values
returns-in_ok-truth_column-in-Ok-clause-values c =
    let nodes = c.args.table.now in
    let node : Node = node_at nodes c.args.plan in
    let is : c.zone_len-zone_len.result ≡ zone_len_of node.kind = c.zone_len-zone_len.ensures ∙ ap (λ (n : ℕ). zone_len_of (node_at nodes n).kind) c.pruning_at-zoned.ensures.number in
    told_of_rows node c.args.told.values c.in-Ok.pruned c.in_ok-rows-in-Ok.rows c.zone_len-zone_len.result c.args.start c.args.mask.now c.in_ok-truth_column-in-Ok.field-0.values c.in-Ok.ensures.pruned is c.in_ok-rows-in-Ok.ensures c.in_ok-truth_column-in-Ok.ensures.values
