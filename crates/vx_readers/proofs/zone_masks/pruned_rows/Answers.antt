use Rattle.std.proofs.Common.{◌+◌, length, ap, ◌∙◌}
use Rattle.vx_layout.specs.Trees.{subtree}
use Rattle.vx_reads.specs.Readable.{tree_head}
use Rattle.vx_readers.specs.ZoneRows.{zone_bit}
use Rattle.vx_readers.proofs.ToldZones.{bits_count, rows_pruned, zones_reach}
use Rattle.vx_readers.proofs.zone_masks.pruned_rows.Goals as goal

pub returns-in_ok-rows-in-Ok-clause-rows : goal.returns-in_ok-rows-in-Ok-clause-rows
returns-in_ok-rows-in-Ok-clause-rows c = ap length c.in_ok-rows-in-Ok.ensures ∙ bits_count (zone_bit c.in-Ok.pruned c.args.zone_len) c.args.start c.args.count

pub returns-in_ok-rows-in-Ok-clause-pruned : goal.returns-in_ok-rows-in-Ok-clause-pruned
returns-in_ok-rows-in-Ok-clause-pruned c =
    let reach = zones_reach (tree_head c.args.tree.now c.args.node) c.args.zone_len c.args.stats.now (subtree c.args.tree.now c.args.content) (subtree c.args.tree.now c.args.zones) (c.args.start + c.args.count) c.requires.some c.requires.zoned.sound c.requires.inside in
    rows_pruned c.args.reads.now (tree_head c.args.tree.now c.args.node) c.args.zone_len c.args.stats.now (subtree c.args.tree.now c.args.zones) c.args.proof.now.term c.args.start c.args.count (tree_head c.args.tree.now c.args.zones).rows c.in-Ok.pruned c.in_ok-rows-in-Ok.field-0 c.requires.some reach c.in_ok-rows-in-Ok.ensures c.in-Ok.ensures.pruned
