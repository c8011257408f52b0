use Rattle.std.proofs.Common.{◌≡◌, ℕ, true, length, replicate, ap, ◌∙◌, subst}
use Rattle.std.proofs.lemmas.List.{length-replicate}
use Rattle.vx_layout.specs.Kept.{all}
use Rattle.vx_layout.specs.Rows.{derivation}
use Rattle.vx_layout.specs.Trees.{subtree}
use Rattle.vx_reads.specs.Computed.{Fails}
use Rattle.vx_reads.specs.Readable.{tree_head}
use Rattle.vx_readers.proofs.ToldZones.{pruned_count, zones_pruned}
use Rattle.vx_readers.proofs.zone_masks.pruned_zones.Goals as goal

pub returns-in_ok-pruned-in-Ok-try_new-clause-rows : goal.returns-in_ok-pruned-in-Ok-try_new-clause-rows
returns-in_ok-pruned-in-Ok-try_new-clause-rows c =
    let whole : c.in_ok-all.all ≡ replicate (tree_head c.args.tree.now c.args.zones).rows true = c.in_ok-all.ensures ∙ ap (λ (k : ℕ). replicate k true) c.rows_at.ensures in
    pruned_count c.args.proof.now.term _ c.args.stats.now c.in-Ok.told.values c.args.zone_len c.rows_at-in-Ok.result (tree_head c.args.tree.now c.args.zones).rows c.in_ok-all.all c.in-Ok-try_new.table c.in_ok-pruned-in-Ok-try_new.field-0 c.in-Ok-try_new.ensures.table c.in_ok-pruned-in-Ok-try_new.ensures c.in-Ok.ensures.rows whole

pub returns-in_ok-pruned-in-Ok-try_new-clause-pruned : goal.returns-in_ok-pruned-in-Ok-try_new-clause-pruned
returns-in_ok-pruned-in-Ok-try_new-clause-pruned c =
    let whole : c.in_ok-all.all ≡ replicate (tree_head c.args.tree.now c.args.zones).rows true = c.in_ok-all.ensures ∙ ap (λ (k : ℕ). replicate k true) c.rows_at.ensures in
    zones_pruned c.args.reads.now (tree_head c.args.tree.now c.args.node) c.args.zone_len c.rows_at-in-Ok.result c.args.stats.now (subtree c.args.tree.now c.args.zones) _ c.args.proof.now.term c.in_ok-all.all c.in-Ok.told.values c.in-Ok-try_new.table c.in_ok-pruned-in-Ok-try_new.field-0 c.rows_at-in-Ok.ensures whole c.in-Ok.ensures.values c.in-Ok-try_new.ensures.table c.in_ok-pruned-in-Ok-try_new.ensures

pub returns-in-Err-clause-cause : goal.returns-in-Err-clause-cause
returns-in-Err-clause-cause c =
    let whole : c.in_ok-all.all ≡ replicate (tree_head c.args.tree.now c.args.zones).rows true = c.in_ok-all.ensures ∙ ap (λ (k : ℕ). replicate k true) c.rows_at.ensures in
    let many : length c.in_ok-all.all ≡ (tree_head c.args.tree.now c.args.zones).rows = ap length whole ∙ length-replicate (tree_head c.args.tree.now c.args.zones).rows true in
    subst (λ (k : ℕ). Fails c.args.reads.now (derivation (subtree c.args.tree.now c.args.zones) all) 0 k c.in-Err.error) many c.in-Err.ensures.cause
