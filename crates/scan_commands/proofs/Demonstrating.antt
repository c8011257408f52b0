-- What a scan of the demo file gives.
use Rattle.std.proofs.Common.{◌≡◌, ℕ, ◌≤◌, List, [], ◌∷◌, map, Some, Result, Ok, Err, refl, sym, ap, ◌∙◌, subst, inr}
use Rattle.std.specs.Prelude.{IfOk, ⊤}
use Rattle.std.specs.Global.{Vec}
use Rattle.std.specs.List.{All}
use Rattle.std.proofs.lemmas.List.Elements.{All-head, All-tail}
use Rattle.vx_base.specs.Columns.{ColumnData}
use Rattle.vx_base.specs.MemorySources.{memory_state}
use Rattle.vx_base.specs.Sources.{SourceState}
use Rattle.vx_base.specs.Streams.{WriteState}
use Rattle.vx_base.specs.declared.outside.StreamError.{StreamError}
use Rattle.vx_base.specs.declared.outside.StreamError.TheVariants as stream
use Rattle.vx_base.specs.declared.locations.SegmentLocation.{SegmentLocation}
use Rattle.vx_base.specs.declared.memory_sources.MemorySource.{MemorySource}
use Rattle.vx_layout.specs.Nodes.{Node}
use Rattle.vx_layout.specs.Trees.{subtree}
use Rattle.vx_scan.specs.Answer.{FileScan}
use Rattle.vx_scan.specs.Builders.{Building, new_building, scan_of}
use Rattle.vx_scan.specs.Lent.{AllTell}
use Rattle.vx_scan.specs.Scanned.{AnswersScan}
use Rattle.scan_demo.specs.DemoBytes.{demo_bytes, demo_locations}
use Rattle.scan_demo.specs.DemoNodes.{demo_nodes}
use Rattle.scan_demo.specs.DemoRows.{demo_row}
use Rattle.scan_demo.specs.DemoScans.{AnswersAreDemo, IsDemoScan}
use Rattle.scan_demo.specs.Summary.{demo_pieces, summary}
use Rattle.scan_output.specs.Writing.{WritingGives}
use Rattle.scan_commands.specs.declared.endings.Ending.{Ending}
use Rattle.scan_commands.specs.DemoRuns.{Demonstrates, TellsBytes}
use Rattle.scan_commands.specs.Endings.{writing_ending}

-- the scan of a builder over the demo file's nodes and segments
pub demo_scan : (number : ℕ) (nodes : List Node) (locations : List SegmentLocation) (builder : Building) → builder ≡ new_building nodes locations → nodes ≡ demo_nodes number → locations ≡ demo_locations number
    → IsDemoScan number (scan_of builder)
demo_scan number nodes locations builder is layout segments =
    subst (λ (b : Building). IsDemoScan number (scan_of b)) (sym is)
    (record { layout = ap (λ (ns : List Node). subtree ns 0) layout; bare = refl; selection = refl; range = refl; limit = refl; locations = segments })

-- sources that each tell these bytes tell the file of them
all_tell : (bytes file : List ℕ) (sources : List MemorySource) → bytes ≡ file → All (TellsBytes bytes) sources → AllTell file (map memory_state sources)
all_tell bytes file [] is tell = tt
all_tell bytes file (source ∷ sources) is tell =
    (All-head (TellsBytes bytes) source sources tell ∙ ap Some is, all_tell bytes file sources is (All-tail (TellsBytes bytes) source sources tell))

-- where the sources tell the bytes of the demo file, the batches hold its rows
pub demo_batches : AnswersAreDemo → (number : ℕ) (scan : FileScan) (limit : ℕ) (batches : Vec ColumnData) (bytes : List ℕ) (sources : List MemorySource) (afters : List SourceState) → number ≤ 1000000 → IsDemoScan number scan
    → bytes ≡ demo_bytes number → All (TellsBytes bytes) sources → AnswersScan scan limit (Ok batches) (map memory_state sources) afters
    → map (λ (batch : ColumnData). batch.values) batches.items ≡ map (map (demo_row number)) (demo_pieces number)
demo_batches law number scan limit batches bytes sources afters few demo is tell answers =
    law number scan (map (λ (batch : ColumnData). batch.values) batches.items) few demo (answers.content (demo_bytes number) (all_tell bytes (demo_bytes number) sources is tell))

-- what a text is where something holds that does hold
pub summed : {E : Type 0} (result : Result (Vec ℕ) E) (text : List ℕ) (Q : Type 0) → Q → IfOk result (λ made. Q → made.items ≡ text) → IfOk result (λ made. made.items ≡ text)
summed (Ok made) text Q q is = is q
summed (Err error) text Q q is = tt

-- the summary was written, or as much of it as could be
pub summary_ends : (number : ℕ) (ending : Ending) (written : Result ⊤ StreamError) (text : List ℕ) (before after : WriteState) → ending ≡ writing_ending written → text ≡ summary number → WritingGives written text before after → Demonstrates number ending before after
summary_ends number ending written text before after ends same wrote =
    subst (λ (e : Ending). Demonstrates number e before after) (sym ends) (by written (subst (λ (t : List ℕ). WritingGives written t before after) same wrote))
  where
    by : (written : Result ⊤ StreamError) → WritingGives written (summary number) before after → Demonstrates number (writing_ending written) before after
    by (Ok done) wrote = wrote
    by (Err stream.Failed) wrote = wrote
    by (Err stream.Memory) wrote = inr wrote
