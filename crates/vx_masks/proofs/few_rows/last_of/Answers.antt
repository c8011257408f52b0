use Rattle.std.proofs.Common.{◌<◌, length, refl}
use Rattle.vx_masks.proofs.FewRows.{last_mark, some_numbers}
use Rattle.vx_masks.proofs.few_rows.last_of.Goals as goal

pub returns-else-is_empty : goal.returns-else-is_empty
returns-else-is_empty c =
    let some : 0 < length c.args.numbers.now = some_numbers (length c.args.numbers.now) c.is_empty.result c.is_empty.ensures c.if-is_empty.false in
    last_mark c.args.rows _ c.args.numbers.now some refl c.requires
