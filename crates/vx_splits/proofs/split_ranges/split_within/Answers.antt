use Rattle.std.proofs.Common.{arith}
use Rattle.vx_base.specs.Masks.{is_among}
use Rattle.vx_splits.proofs.SplitLaws.{rows_below}
use Rattle.vx_splits.proofs.split_ranges.split_within.Goals as goal

pub gather-requires : goal.gather-requires
gather-requires c = rows_below (is_among _) c.args.start c.args.end 18446744073709551615 c.within.result.now (omega arith) c.within.ensures
