use Rattle.std.proofs.Common.{refl, subst}
use Rattle.vx_io.specs.Ranges.{IsTableOf}
use Rattle.vx_scan.proofs.FilePlanning.{prepared_plans}
use Rattle.vx_scan.proofs.file_plans.plan_file.Goals as goal

pub returns : goal.returns
returns c =
    prepared_plans c.args.file c.args.settings.now
    (record { table = c.in_ok-table.field-0.table; projection = c.in_ok-table.field-0.root; locations = c.args.file.locations; ranges = c.in_ok-ranges.ranges; row_offset = c.counted_from-row_offset.result; idle_limit = c.args.settings.now.idle_limit })
    (c.in_ok-table.ensures {u = tt}) refl (subst (IsTableOf c.in_ok-ranges.ranges) c.deref.ensures.value (c.in_ok-ranges.ensures {u = tt})) c.counted_from-row_offset.ensures refl
