use Rattle.vx_masks.proofs.Bytes.{clear_is}
use Rattle.vx_masks.proofs.parts.is_clear_past.Goals as goal

pub returns : goal.returns
returns c = clear_is c.args.bytes.now c.args.rows c.byte_or_zero-last.result (record { small = λ i. (c.type_inv.bytes i).fits }) c.requires c.byte_or_zero-last.ensures
