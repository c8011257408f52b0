use Rattle.std.proofs.Common.{◌≡◌, map, take}
use Rattle.vx_operators.specs.ColumnarValues.{scalar_datum}
use Rattle.vx_zones.specs.Prunes.{tells}
use Rattle.vx_zones.specs.Tellings.{told_values}
use Rattle.vx_zones.proofs.told.Told.tells_each.Given as goal

abbrev pub invariant-loop-zone : goal.invariant-loop-zone
invariant-loop-zone l = l.bits.items ≡ map (λ v. tells l.op v (scalar_datum l.scalar)) (take l.zone (told_values l.self))
