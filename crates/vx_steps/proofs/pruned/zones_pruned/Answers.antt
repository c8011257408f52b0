use Rattle.std.proofs.Common.{◌≡◌, ℕ, Err, refl, sym, ap, ◌∙◌}
use Rattle.vx_base.specs.Views.{data_type}
use Rattle.vx_expr.specs.Bound.{Bound}
use Rattle.vx_plan.specs.Kinds.{stats_of, zone_len_of}
use Rattle.vx_plan.specs.Nodes.{Node}
use Rattle.vx_plan.specs.Rules.{node_at}
use Rattle.vx_zones.specs.Tables.{TableData}
use Rattle.vx_steps.proofs.PrunedRows.{pruned_by_proof, right_table, IsOfPlan}
use Rattle.vx_steps.proofs.pruned.zones_pruned.Goals as goal

pub unreachable-requires : goal.unreachable-requires
unreachable-requires c =
    let nodes = c.args.table.now in
    let node : Node = node_at nodes c.args.plan in
    let number = c.pruning_at-zoned.ensures.number in
    let of_plan : IsOfPlan node c.proof_at-proof.result.now (data_type c.root_dtype.result.now) c.stats.result.now c.zone_len.result c.row_count.result = record {
      proof_is = c.proof_at-proof.ensures;
      root = c.root_dtype.ensures ∙ ap (λ (b : Bound). b.root) c.predicate.ensures.predicate;
      stats_are = c.stats.ensures ∙ ap (λ (n : ℕ). stats_of (node_at nodes n).kind) number;
      length_is = c.zone_len.ensures ∙ ap (λ (n : ℕ). zone_len_of (node_at nodes n).kind) number;
      rows_are = c.row_count.ensures;
    } in
    c.in-Err-BadZones.ensures.refused (ap Err c.in-Err-BadZones.field-0-is) (right_table node c.proof_at-proof.result.now (data_type c.root_dtype.result.now) c.stats.result.now c.zone_len.result c.row_count.result c.args.told of_plan c.requires.told)

pub prune-pruned-requires : goal.prune-pruned-requires
prune-pruned-requires c =
    let root : data_type c.root_dtype.result.now ≡ c.proof_at-proof.result.now.root = c.root_dtype.ensures ∙ ap (λ (b : Bound). b.root) c.predicate.ensures.predicate in
    λ uses. sym (ap (λ (t : TableData). t.dtype) c.in-Ok.ensures.table ∙ root)

pub returns-in_ok-pruned-in-Ok-clause-pruned : goal.returns-in_ok-pruned-in-Ok-clause-pruned
returns-in_ok-pruned-in-Ok-clause-pruned c =
    let nodes = c.args.table.now in
    let node : Node = node_at nodes c.args.plan in
    let number = c.pruning_at-zoned.ensures.number in
    let of_plan : IsOfPlan node c.proof_at-proof.result.now (data_type c.root_dtype.result.now) c.stats.result.now c.zone_len.result c.row_count.result = record {
      proof_is = c.proof_at-proof.ensures;
      root = c.root_dtype.ensures ∙ ap (λ (b : Bound). b.root) c.predicate.ensures.predicate;
      stats_are = c.stats.ensures ∙ ap (λ (n : ℕ). stats_of (node_at nodes n).kind) number;
      length_is = c.zone_len.ensures ∙ ap (λ (n : ℕ). zone_len_of (node_at nodes n).kind) number;
      rows_are = c.row_count.ensures;
    } in
    pruned_by_proof node c.proof_at-proof.result.now (data_type c.root_dtype.result.now) c.stats.result.now c.zone_len.result c.row_count.result 18446744073709551615 c.args.told.values c.in-Ok.zones c.in_ok-pruned-in-Ok.field-0 of_plan c.in-Ok.ensures.table refl c.in_ok-pruned-in-Ok.ensures
