use Rattle.vx_expr.proofs.IndexedNames.{struct_places}
use Rattle.vx_expr.proofs.indexed_roots.places_in.Goals as goal

pub returns-in-Struct : goal.returns-in-Struct
returns-in-Struct c = struct_places c.places_of.result c.args.dtype.now c.in-Struct.fields c.in-Struct.field-1 c.in-Struct.is c.places_of.ensures
