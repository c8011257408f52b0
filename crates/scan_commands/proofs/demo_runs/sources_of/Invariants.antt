use Rattle.std.proofs.Common.{◌≡◌, length}
use Rattle.std.specs.List.{All}
use Rattle.scan_commands.specs.DemoRuns.{TellsBytes}
use Rattle.scan_commands.proofs.demo_runs.sources_of.Given as goal

abbrev pub invariant-loop-count : goal.invariant-loop-count
invariant-loop-count l = (length l.sources.items ≡ l._count) × All (TellsBytes l.bytes) l.sources.items
