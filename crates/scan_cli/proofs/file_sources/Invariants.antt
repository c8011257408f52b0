use Rattle.std.proofs.Common.{◌≡◌, map}
use Rattle.std.specs.List.{AllByRecursion}
use Rattle.std.specs.Prelude.{IsNone}
use Rattle.vx_base.specs.FileSources.{file_state}
use Rattle.scan_cli.specs.Files.{are_unasked, HasNoFile}
use Rattle.scan_cli.proofs.file_sources.Given as goal

abbrev pub invariant-loop-count : goal.invariant-loop-count
invariant-loop-count l = (map file_state l.sources.items ≡ are_unasked l.count) × (IsNone l.fn.name → AllByRecursion HasNoFile l.sources.items)
