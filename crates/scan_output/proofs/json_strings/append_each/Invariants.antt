use Rattle.std.proofs.Common.{◌++◌}
use Rattle.std.specs.List.{flat_map}
use Rattle.scan_output.specs.RowText.{escaped}
use Rattle.scan_output.proofs.Strings.{Escapes}
use Rattle.scan_output.proofs.json_strings.append_each.Given as goal

abbrev pub invariant-loop-place : goal.invariant-loop-place
invariant-loop-place l = Escapes l.bytes l.out.items (l.fn.out.items ++ flat_map escaped l.bytes) l.done l.place
