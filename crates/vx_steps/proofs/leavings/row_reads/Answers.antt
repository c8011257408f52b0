use Rattle.vx_steps.proofs.LeavingRows.{found_met, IsRowRead}
use Rattle.vx_steps.proofs.leavings.row_reads.Goals as goal

pub returns : goal.returns
returns c = found_met (IsRowRead c.args.table.now c.args.plan c.args.row) c.for_leaf-sieve.result c.meet_row.new.sieve c.args.leaf c.meet_row.ensures (c.for_leaf-sieve.ensures.places c.args.leaf) c.for_leaf-sieve.ensures.wanted c.for_leaf-sieve.ensures.found
