use Rattle.std.proofs.Common.{◌≤◌, ◌∙◌, List, ℕ, length, ap, sym, subst}
use Rattle.vx_base.specs.declared.locations.SegmentLocation.{SegmentLocation}
use Rattle.vx_scan.specs.Builders.{Building}
use Rattle.scan_commands.specs.DemoRuns.{AreSourcesOf}
use Rattle.scan_commands.proofs.Demonstrating.{demo_scan}
use Rattle.scan_commands.proofs.demo_runs.demo_scan.Goals as goal

pub returns-clause-scan : goal.returns-clause-scan
returns-clause-scan c = demo_scan c.args.number _ _ c.in_ok-builder.builder c.in_ok-builder.ensures c.in_ok-file.ensures.nodes c.in_ok-file.ensures.locations

pub returns-clause-few : goal.returns-clause-few
returns-clause-few c =
    let same = ap (λ (b : Building). b.locations) c.in_ok-builder.ensures in
    subst (λ (locations : List SegmentLocation). length locations ≤ 4294967295) (sym same) c.in_ok-file.ensures.few

pub returns-clause-sources : goal.returns-clause-sources
returns-clause-sources c =
    subst (λ (bytes : List ℕ). AreSourcesOf bytes c.in_ok-sources.sources.items) (c.deref.ensures.value ∙ c.in_ok-file.ensures.bytes) c.in_ok-sources.ensures
