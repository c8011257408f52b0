use Rattle.std.proofs.Common.{List, map, subst}
use Rattle.vx_splits.specs.declared.selected_rows.SelectedRows.{SelectedRows}
use Rattle.vx_execute.specs.Executes.{Executes}
use Rattle.vx_scan.proofs.GivenBatches.{gives_batches}
use Rattle.vx_scan.proofs.builders.run_prepared.Goals as goal
use Rattle.vx_base.specs.Sources.{SourceState}

pub returns : goal.returns
returns g c =
    let befores : List SourceState = map g.S.SegmentSource.state c.args.sources.now in
    let afters : List SourceState = map g.S.SegmentSource.state c.execute-outcome.new.sources in
    gives_batches c.args.prepared.now.plans c.args.prepared.now.chunks.items c.execute-outcome.result c.batches_of.result befores afters
    (subst (λ (chunks : List SelectedRows). Executes c.args.prepared.now.plans chunks c.execute-outcome.result befores afters) c.deref.ensures.value c.execute-outcome.ensures) c.batches_of.ensures
