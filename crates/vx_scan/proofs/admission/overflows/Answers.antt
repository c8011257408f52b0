use Rattle.std.proofs.Common.{sym, ◌∙◌, rules}
use Rattle.vx_scan.proofs.AdmittedRows.{overflow_told}
use Rattle.vx_scan.proofs.FilePlanning.{file_rows}
use Rattle.vx_scan.proofs.admission.overflows.Goals as goal

pub returns-then-uses_row_idx : goal.returns-then-uses_row_idx
returns-then-uses_row_idx c =
    overflow_told c.args.file.now c.args.settings.now c.row_count.result (sym c.uses_row_idx.ensures ∙ c.if-uses_row_idx.true)
    (file_rows c.args.file.now.layout c.row_count.result c.row_count.ensures.good c.row_count.ensures.rows) (search rules)
