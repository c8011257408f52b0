use Rattle.std.proofs.Common.{refl}
use Rattle.vx_masks.specs.Masks.{both}
use Rattle.vx_operators.specs.Kernels.{compares}
use Rattle.vx_operators.specs.Sides.{side_valid, side_numbers}
use Rattle.vx_operators.proofs.NumberRows.{tests_level, compared_array}
use Rattle.vx_operators.proofs.SideRows.{side_level, sides_level}
use Rattle.vx_operators.proofs.numbers.compare_numbers.Goals as goal

pub both_valid-requires : goal.both_valid-requires
both_valid-requires g c = sides_level g.T.Kind.number c.args.left c.args.right c.requires.left c.requires.right c.requires.rows

pub tested_array-requires : goal.tested_array-requires
tested_array-requires g c =
    let seen = g.T.Kind.number in
    let left = c.args.left in
    let right = c.args.right in
    tests_level (compares c.args.op) (side_valid left) (side_valid right) c.in_ok-validity.validity c.in_ok-tests.tests.items (side_numbers seen left) (side_numbers seen right) c.in_ok-validity.ensures c.in_ok-tests.ensures (side_level seen left c.requires.left)
    (sides_level seen left right c.requires.left c.requires.right c.requires.rows) c.requires.rows

pub returns-clause-values : goal.returns-clause-values
returns-clause-values g c =
    let seen = g.T.Kind.number in
    let left = c.args.left in
    let right = c.args.right in
    let validity = c.in_ok-validity.validity in
    let tests = c.in_ok-tests.tests.items in
    rw (compared_array c.args.op (side_valid left) (side_valid right) validity tests (both validity tests) (side_numbers seen left) (side_numbers seen right) c.in_ok-validity.ensures c.in_ok-tests.ensures refl
    (side_level seen left c.requires.left) (side_level seen right c.requires.right)) at c.tested_array.ensures.values
