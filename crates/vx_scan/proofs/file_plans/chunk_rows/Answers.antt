use Rattle.std.proofs.Common.{true, sym, ap, ◌∙◌}
use Rattle.vx_splits.specs.Chunks.{chunk_size}
use Rattle.vx_scan.proofs.FilePlanning.{size_told}
use Rattle.vx_scan.proofs.file_plans.chunk_rows.Goals as goal

pub returns-then-is_root-clause-size : goal.returns-then-is_root-clause-size
returns-then-is_root-clause-size c =
    size_told c.args.file.now c.args.settings.now c.row_count-row_count.result c.rows_per_chunk.result true c.row_count-row_count.ensures.good c.row_count-row_count.ensures.rows (sym c.if-is_root.true ∙ c.is_root.ensures)
    (c.rows_per_chunk.ensures.root ∙ ap (chunk_size true c.row_count-row_count.result) c.deref.ensures.value)
