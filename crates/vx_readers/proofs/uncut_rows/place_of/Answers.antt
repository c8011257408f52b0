use Rattle.std.proofs.Common.{◌≤◌, length, arith}
use Rattle.vx_readers.proofs.Uncut.{passes_by, piece_here}
use Rattle.vx_readers.proofs.uncut_rows.place_of.Goals as goal

pub passed-preserved : goal.passed-preserved
passed-preserved c =
    let le : length c.index-parts-place.result.values ≤ c.passed.used = omega (arith, c.len.ensures.rows, c.passed-test.true) in
    passes_by c.args.parts.now c.args.place c.args.used c.passed.place c.passed.used c.len-used.result c.index-parts-place.result c.index-parts-place-in-passed.result c.index-parts-place.is c.index-parts-place-in-passed.is le c.len-used.ensures.rows c.passed.invariant

pub returns-clause-there : goal.returns-clause-there
returns-clause-there c = piece_here c.args.parts.now c.args.place c.args.used c.passed.place c.passed.used c.len.result c.index-parts-place.result c.index-parts-place.is c.len.ensures.rows c.passed-test.false c.passed.invariant
