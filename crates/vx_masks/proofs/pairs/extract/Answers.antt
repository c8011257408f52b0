use Rattle.std.proofs.Common.{arith}
use Rattle.vx_masks.proofs.Extracted.{extracted_none, extracted_more, extracted_rows, extracted_small, extracted_fits, count_inside}
use Rattle.vx_masks.proofs.pairs.extract.Goals as goal

pub loop-rest-init : goal.loop-rest-init
loop-rest-init c = extracted_none c.args.mask c.args.value

pub overflow_shl-result : goal.overflow_shl-result
overflow_shl-result c = count_inside c.args.mask c.args.value c.loop-rest.result c.loop-rest.count c.loop-rest.rest c.loop-rest.left c.ranges.mask.fits (omega arith) c.loop-rest.auto.rest-fits.fits c.loop-rest.invariant

pub overflow_add-result : goal.overflow_add-result
overflow_add-result c = record { fits = extracted_fits c.args.mask c.args.value c.loop-rest.result c.loop-rest.count c.loop-rest.rest c.loop-rest.left c.ranges.mask.fits (omega arith) c.loop-rest.auto.rest-fits.fits c.loop-rest.invariant }

pub loop-rest-preserved : goal.loop-rest-preserved
loop-rest-preserved c = extracted_more c.args.mask c.args.value c.loop-rest.result c.loop-rest.count c.loop-rest.rest c.loop-rest.left c.ranges.mask.fits (omega arith) c.loop-rest.auto.rest-fits.fits c.loop-rest.invariant

pub returns-clause-rows : goal.returns-clause-rows
returns-clause-rows c = extracted_rows c.args.mask c.args.value c.loop-rest.result c.loop-rest.count c.loop-rest.rest c.loop-rest.left (omega arith) c.loop-rest.invariant

pub returns-clause-small : goal.returns-clause-small
returns-clause-small c = extracted_small c.args.mask c.args.value c.loop-rest.result c.loop-rest.count c.loop-rest.rest c.loop-rest.left (omega arith) c.loop-rest.invariant
