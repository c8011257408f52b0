use Rattle.vx_arrays.specs.Texts.{cut}
use Rattle.vx_arrays.proofs.PickedRows.{chosen_step}
use Rattle.vx_arrays.proofs.texts.Texts.filter.Goals as goal

pub loop-row-preserved : goal.loop-row-preserved
loop-row-preserved c = record {
  texts = c.in_ok-push_chosen.ensures.texts;
  chosen = chosen_step c.args.mask.now c.args.self.now (cut c.loop-row.bytes.items 0 c.loop-row.ends.items) (cut c.push_chosen.new.bytes.items 0 c.push_chosen.new.ends.items) c.loop-row.row c.value.result c.text.result.now c.requires c.value.ensures c.text.ensures c.in_ok-push_chosen.ensures.pushed c.loop-row.invariant.chosen;
}
