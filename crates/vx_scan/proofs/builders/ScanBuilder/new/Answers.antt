use Rattle.std.proofs.Common.{◌∙◌, ap}
use Rattle.vx_base.specs.Views.{data_type}
use Rattle.vx_scan.specs.Settings.{new_settings}
use Rattle.vx_scan.proofs.FilePlanning.{file_dtype, new_told}
use Rattle.vx_scan.proofs.builders.ScanBuilder.new.Goals as goal

pub returns : goal.returns
returns c =
    new_told c.args.file c.in_ok-settings.settings (data_type c.dtype.result.now)
    (c.in_ok-settings.ensures {u = tt} ∙ ap new_settings (c.in_ok-dtype.ensures {u = tt}))
    (file_dtype c.args.file.layout (data_type c.dtype.result.now) c.keeps_rules.ensures.good c.dtype.ensures)
