use Rattle.std.proofs.Common.{leb, rules}
use Rattle.std.proofs.lemmas.List.Sorted.{IsPartitionPoint-from_clause}
use Rattle.scan_output.proofs.RunLines.{ends_parted, run_found}
use Rattle.scan_output.proofs.run_lines.run_at.Goals as goal

pub returns : goal.returns
returns c = λ lt.
    run_found c.args.ends.now c.args.row c.partition_point.result c.partition_point.ensures.bound
    (IsPartitionPoint-from_clause (λ end. leb end c.args.row) _ _ c.partition_point.ensures.partitioned (ends_parted c.args.ends.now c.args.row c.requires) (λ a r q k. search rules)) lt
