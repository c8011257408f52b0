use Rattle.vx_operators.proofs.truth_operators.same_bit.Goals as goal

pub returns-then-bit : goal.returns-then-bit
returns-then-bit c = rw c.if-bit.true c.new_true.ensures

pub returns-else-bit : goal.returns-else-bit
returns-else-bit c = rw c.if-bit.false c.new_false.ensures
