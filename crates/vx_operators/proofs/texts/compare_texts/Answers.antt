use Rattle.std.proofs.Common.{refl}
use Rattle.vx_types.specs.Data.{text}
use Rattle.vx_masks.specs.Masks.{both}
use Rattle.vx_operators.specs.Kernels.{compares_text}
use Rattle.vx_operators.specs.Operators.{comparison_of}
use Rattle.vx_operators.specs.TextSides.{text_valid, side_texts}
use Rattle.vx_operators.proofs.LiftedRows.{text_comparison_lifts}
use Rattle.vx_operators.proofs.NumberRows.{tests_level}
use Rattle.vx_operators.proofs.SideRows.{text_level, texts_level}
use Rattle.vx_operators.proofs.TestedRows.{tested_array}
use Rattle.vx_operators.proofs.texts.compare_texts.Goals as goal

pub both_valid-requires : goal.both_valid-requires
both_valid-requires c = texts_level c.args.left c.args.right c.requires.left c.requires.right c.requires.rows

pub tested_array-requires : goal.tested_array-requires
tested_array-requires c =
    let left = c.args.left in
    let right = c.args.right in
    tests_level (compares_text c.args.op) (text_valid left) (text_valid right) c.in_ok-validity.validity c.in_ok-tests.tests.items (side_texts left) (side_texts right) c.in_ok-validity.ensures c.in_ok-tests.ensures (text_level left c.requires.left)
    (texts_level left right c.requires.left c.requires.right c.requires.rows) c.requires.rows

pub returns-clause-values : goal.returns-clause-values
returns-clause-values c =
    let left = c.args.left in
    let right = c.args.right in
    let validity = c.in_ok-validity.validity in
    let tests = c.in_ok-tests.tests.items in
    rw (tested_array text text (compares_text c.args.op) (comparison_of c.args.op) (text_comparison_lifts c.args.op) (text_valid left) (text_valid right) validity tests (both validity tests) (side_texts left) (side_texts right) c.in_ok-validity.ensures c.in_ok-tests.ensures refl
    (text_level left c.requires.left) (text_level right c.requires.right)) at c.tested_array.ensures.values
