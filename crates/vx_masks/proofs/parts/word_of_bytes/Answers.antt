use Rattle.vx_masks.proofs.Bytes.{byte_more, byte_fits}
use Rattle.vx_masks.proofs.parts.word_of_bytes.Goals as goal

pub overflow_add-word : goal.overflow_add-word
overflow_add-word c = record { fits = byte_fits c.args.bytes.now c.loop-place.place c.loop-place.word (record { small = λ i. (c.type_inv.bytes i).fits }) c.requires c.loop-place-test.true c.loop-place.invariant }

pub loop-place-preserved : goal.loop-place-preserved
loop-place-preserved c = byte_more c.args.bytes.now c.loop-place.place c.loop-place.word (record { small = λ i. (c.type_inv.bytes i).fits }) c.requires c.loop-place-test.true c.loop-place.invariant
