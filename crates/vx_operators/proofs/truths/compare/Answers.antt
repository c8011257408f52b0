use Rattle.vx_types.specs.Data.{truth}
use Rattle.vx_operators.specs.Kernels.{compares_truth}
use Rattle.vx_operators.specs.Operators.{comparison_of}
use Rattle.vx_operators.specs.Rows.{along}
use Rattle.std.proofs.Common.{refl}
use Rattle.vx_operators.proofs.LiftedRows.{truth_comparison_lifts}
use Rattle.vx_operators.proofs.TestedRows.{tested_array}
use Rattle.vx_operators.proofs.truths.compare.Goals as goal

pub returns-clause-values : goal.returns-clause-values
returns-clause-values c =
    let left = c.args.left.now in
    let right = c.args.right.now in
    tested_array truth truth (compares_truth c.args.op) (comparison_of c.args.op) (truth_comparison_lifts c.args.op) left.validity right.validity c.in_ok-validity.validity (along (compares_truth c.args.op) left.values right.values) c.in_ok-values.values left.values right.values
    c.in_ok-validity.ensures refl c.in_ok-values.ensures c.requires.left c.requires.right
