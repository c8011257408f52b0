use Rattle.std.proofs.Common.{◌≡◌, rules}
use Rattle.vx_base.specs.Views.{data_type}
use Rattle.vx_layout.specs.Trees.{head_of, subtree}
use Rattle.vx_scan.specs.Answer.{row_count}
use Rattle.vx_scan.specs.Admission.{HasWork}
use Rattle.vx_scan.specs.Settings.{scan_by}
use Rattle.vx_scan.specs.Valid.{IsBound}
use Rattle.vx_scan.proofs.AdmittedRows.{begins_told, bound_told, fits_told, none_told, outside_told, unbound_told, work_told}
use Rattle.vx_scan.proofs.FilePlanning.{file_dtype, file_rows}
use Rattle.vx_scan.proofs.admission.begin.Goals as goal

pub returns-then-not-is_root_bound_to : goal.returns-then-not-is_root_bound_to
returns-then-not-is_root_bound_to c =
    let dtype : (head_of (subtree c.args.file.now.layout 0)).dtype ≡ data_type c.dtype.result.now = file_dtype c.args.file.now.layout (data_type c.dtype.result.now) c.row_count-row_count.ensures.good c.dtype.ensures in
    unbound_told c.is_root_bound_to.result c.args.settings.now.projection (head_of (subtree c.args.file.now.layout 0)).dtype (data_type c.dtype.result.now) dtype c.is_root_bound_to.ensures (search rules)

pub returns-then-rows : goal.returns-then-rows
returns-then-rows c =
    let dtype : (head_of (subtree c.args.file.now.layout 0)).dtype ≡ data_type c.dtype.result.now = file_dtype c.args.file.now.layout (data_type c.dtype.result.now) c.row_count-row_count.ensures.good c.dtype.ensures in
    let rows : row_count (scan_by c.args.file.now c.args.settings.now) ≡ c.row_count-row_count.result = file_rows c.args.file.now.layout c.row_count-row_count.result c.row_count-row_count.ensures.good c.row_count-row_count.ensures.rows in (
      bound_told c.is_root_bound_to.result c.args.settings.now.projection (head_of (subtree c.args.file.now.layout 0)).dtype (data_type c.dtype.result.now) dtype c.is_root_bound_to.ensures (search rules),
      none_told c.args.file.now c.args.settings.now c.row_count-row_count.result c.rows-rows.result rows c.rows-rows.ensures (search rules),
    )

pub returns-then-overflows : goal.returns-then-overflows
returns-then-overflows c =
    let dtype : (head_of (subtree c.args.file.now.layout 0)).dtype ≡ data_type c.dtype.result.now = file_dtype c.args.file.now.layout (data_type c.dtype.result.now) c.row_count-row_count.ensures.good c.dtype.ensures in
    let rows : row_count (scan_by c.args.file.now c.args.settings.now) ≡ c.row_count-row_count.result = file_rows c.args.file.now.layout c.row_count-row_count.result c.row_count-row_count.ensures.good c.row_count-row_count.ensures.rows in
    let bound : IsBound (scan_by c.args.file.now c.args.settings.now) = bound_told c.is_root_bound_to.result c.args.settings.now.projection (head_of (subtree c.args.file.now.layout 0)).dtype (data_type c.dtype.result.now) dtype c.is_root_bound_to.ensures (search rules) in (
      work_told c.args.file.now c.args.settings.now c.row_count-row_count.result c.rows-rows.result bound rows c.rows-rows.ensures (search rules),
      c.overflows.ensures.0 c.if-overflows.true,
    )

pub returns-then-reaches_past : goal.returns-then-reaches_past
returns-then-reaches_past c =
    let dtype : (head_of (subtree c.args.file.now.layout 0)).dtype ≡ data_type c.dtype.result.now = file_dtype c.args.file.now.layout (data_type c.dtype.result.now) c.row_count-row_count.ensures.good c.dtype.ensures in
    let rows : row_count (scan_by c.args.file.now c.args.settings.now) ≡ c.row_count-row_count.result = file_rows c.args.file.now.layout c.row_count-row_count.result c.row_count-row_count.ensures.good c.row_count-row_count.ensures.rows in
    let bound : IsBound (scan_by c.args.file.now c.args.settings.now) = bound_told c.is_root_bound_to.result c.args.settings.now.projection (head_of (subtree c.args.file.now.layout 0)).dtype (data_type c.dtype.result.now) dtype c.is_root_bound_to.ensures (search rules) in (
      work_told c.args.file.now c.args.settings.now c.row_count-row_count.result c.rows-rows.result bound rows c.rows-rows.ensures (search rules),
      fits_told (scan_by c.args.file.now c.args.settings.now) c.overflows.result c.overflows.ensures c.if-overflows.false,
      outside_told c.args.file.now c.args.settings.now c.row_count-row_count.result c.reaches_past.result rows c.reaches_past.ensures c.if-reaches_past.true,
    )

pub returns : goal.returns
returns c =
    let dtype : (head_of (subtree c.args.file.now.layout 0)).dtype ≡ data_type c.dtype.result.now = file_dtype c.args.file.now.layout (data_type c.dtype.result.now) c.row_count-row_count.ensures.good c.dtype.ensures in
    let rows : row_count (scan_by c.args.file.now c.args.settings.now) ≡ c.row_count-row_count.result = file_rows c.args.file.now.layout c.row_count-row_count.result c.row_count-row_count.ensures.good c.row_count-row_count.ensures.rows in
    let bound : IsBound (scan_by c.args.file.now c.args.settings.now) = bound_told c.is_root_bound_to.result c.args.settings.now.projection (head_of (subtree c.args.file.now.layout 0)).dtype (data_type c.dtype.result.now) dtype c.is_root_bound_to.ensures (search rules) in
    let work : HasWork (scan_by c.args.file.now c.args.settings.now) = work_told c.args.file.now c.args.settings.now c.row_count-row_count.result c.rows-rows.result bound rows c.rows-rows.ensures (search rules) in
    begins_told c.args.file.now c.args.settings.now c.row_count-row_count.result c.rows-rows.result.start c.min.result c.rows-rows.result c.overflows.result c.reaches_past.result work rows c.rows-rows.ensures
    c.overflows.ensures c.if-overflows.false c.reaches_past.ensures c.if-reaches_past.false (search rules) (search rules)
