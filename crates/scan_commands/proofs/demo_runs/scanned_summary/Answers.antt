use Rattle.std.proofs.Common.{◌∙◌, List, map, ap, sym, subst, refl}
use Rattle.std.specs.List.{All}
use Rattle.vx_base.specs.Columns.{ColumnData}
use Rattle.vx_base.specs.declared.memory_sources.MemorySource.{MemorySource}
use Rattle.vx_scan.specs.Builders.{scan_of}
use Rattle.scan_demo.specs.DemoBytes.{demo_bytes}
use Rattle.scan_commands.specs.DemoRuns.{TellsBytes}
use Rattle.scan_commands.proofs.Demonstrating.{demo_batches, summed}
use Rattle.scan_commands.proofs.demo_runs.scanned_summary.Goals as goal

pub returns-in-Ok : goal.returns-in-Ok
returns-in-Ok g c =
    let bytes = demo_bytes c.args.number in
    let tell : All (TellsBytes bytes) c.deref_mut.result.now = subst (λ (sources : List MemorySource). All (TellsBytes bytes) sources) (sym c.deref_mut.ensures.value) c.in_ok-builder.ensures.sources.tell in
    let rows = demo_batches c.scans_give_demo_rows.ensures.answers c.args.number (scan_of c.in_ok-builder.field-0.builder) _ c.in-Ok.batches bytes c.deref_mut.result.now _ c.requires c.in_ok-builder.ensures.scan refl tell c.in-Ok.ensures.answers in
    summed c.summary_of-text.result _ _ (ap (λ (columns : List ColumnData). map (λ (batch : ColumnData). batch.values) columns) c.deref.ensures.value ∙ rows) c.summary_of-text.ensures.summary
