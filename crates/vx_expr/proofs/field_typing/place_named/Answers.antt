use Rattle.vx_expr.proofs.FieldPlaces.{place_there}
use Rattle.vx_expr.proofs.field_typing.place_named.Goals as goal

pub returns-in-Struct : goal.returns-in-Struct
returns-in-Struct c = place_there c.args.dtype.now c.in-Struct.fields c.in-Struct.field-1 c.args.name.now c.as_str.result.now c.find-in-Struct.result c.in-Struct.is c.as_str.ensures.value c.find-in-Struct.ensures
