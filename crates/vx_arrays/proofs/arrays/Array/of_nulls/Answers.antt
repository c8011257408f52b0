use Rattle.vx_arrays.proofs.ArrayRanges.{nulls_array, nulls_values}
use Rattle.vx_arrays.proofs.arrays.Array.of_nulls.Goals as goal

pub invariant_of-result : goal.invariant_of-result
invariant_of-result c = nulls_array c.in_ok-validity.validity c.in_ok-blanks.blanks c.args.rows c.in_ok-validity.ensures c.in_ok-blanks.ensures

pub returns-clause-values : goal.returns-clause-values
returns-clause-values c = nulls_values c.in_ok-validity.validity c.in_ok-blanks.blanks c.args.rows c.in_ok-validity.ensures c.in_ok-blanks.ensures
