use Rattle.std.proofs.Common.{arith, get_or, ◌/◌, ◌%◌}
use Rattle.std.proofs.lemmas.Bool.{eqb-true, eq-eqb}
use Rattle.vx_masks.proofs.Bytes.{clear_below, below_clear}
use Rattle.vx_segments.proofs.validity.are_bits.Goals as goal

pub returns : goal.returns
returns c = (λ e. (omega (arith, c.if-bytes-div_ceil.false, c.div_ceil.ensures), clear_below (get_or c.args.bytes.now (c.args.rows / 8) 0) (c.args.rows % 8) (eqb-true _ _ e)), λ h. eq-eqb _ _ (below_clear (get_or c.args.bytes.now (c.args.rows / 8) 0) (c.args.rows % 8) h.1))
