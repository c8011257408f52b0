use Rattle.vx_types.specs.Views.{data_type}
use Rattle.vx_segments.proofs.StillBytes.{still_values}
use Rattle.vx_segments.proofs.spelled_rows.SpelledRows.of.Goals as goal

pub returns-clause-values : goal.returns-clause-values
returns-clause-values c = still_values (data_type c.args.dtype) c.args.coding c.args.rows c.args.bytes.items c.requires
