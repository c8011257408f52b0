use Rattle.vx_types.specs.Fits.{IsInside}
use Rattle.vx_types.specs.Slots.{number_in}
use Rattle.vx_arrays.proofs.ValueRows.{all_seen_at}
use Rattle.vx_arrays.proofs.of_values.kind_numbers_of.Goals as goal

pub kind_number_of-requires : goal.kind_number_of-requires
kind_number_of-requires g c = all_seen_at (IsInside g.T.Kind.kind) number_in c.args.values.now c.loop-value.value-index c.value-item.result c.loop-value-test.true c.value-item.is c.requires
