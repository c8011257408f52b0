use Rattle.vx_base.specs.Views.{data_type}
use Rattle.vx_base.proofs.CodedValues.{spelled_short}
use Rattle.vx_base_cases.proofs.codings.write_decoded.Goals as goal

pub write_read-written-requires-clause-short : goal.write_read-written-requires-clause-short
write_read-written-requires-clause-short c = spelled_short c.args.coding (data_type c.args.dtype.now) c.args.rows c.args.bytes.now c.in-Ok.column.values c.in-Ok.ensures.spelled
