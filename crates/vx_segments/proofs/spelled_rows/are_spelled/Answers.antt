use Rattle.vx_types.specs.Views.{data_type}
use Rattle.vx_segments.proofs.StillBytes.{rows_are_spelled}
use Rattle.vx_segments.proofs.spelled_rows.are_spelled.Goals as goal

pub returns-in-Ok-clause-spelled : goal.returns-in-Ok-clause-spelled
returns-in-Ok-clause-spelled c = rows_are_spelled (data_type c.args.dtype.now) c.args.coding c.args.rows 0 0 c.args.bytes.now c.in-Ok.none.values c.requires.leaf c.in-Ok.ensures.spelled
