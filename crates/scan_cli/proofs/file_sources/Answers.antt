use Rattle.std.proofs.Common.{◌∙◌, List, map, ap}
use Rattle.vx_base.specs.FileSources.{file_state}
use Rattle.vx_base.specs.declared.file_sources.FileSource.{FileSource}
use Rattle.scan_cli.proofs.Sources.{one_more, one_more_without}
use Rattle.scan_cli.proofs.file_sources.Goals as goal

pub loop-count-preserved : goal.loop-count-preserved
loop-count-preserved c = (
  ap (λ (sources : List FileSource). map file_state sources) c.in_ok-push.ensures.items
      ∙ one_more c.loop-count.sources.items c.in_ok-new.field-0 c.loop-count.count c.loop-count.invariant.0 c.in_ok-new.ensures.state,
  λ none. rw c.in_ok-push.ensures.items (one_more_without c.loop-count.sources.items c.in_ok-new.field-0 (c.loop-count.invariant.1 none) (c.in_ok-new.ensures.no_path none)),
)
