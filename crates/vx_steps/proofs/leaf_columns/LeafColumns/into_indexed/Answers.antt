use Rattle.std.proofs.Common.{map, ◌++◌}
use Rattle.vx_steps.specs.Kept.{kept_data}
use Rattle.vx_steps.specs.LeafColumns.{seen_data}
use Rattle.vx_steps.proofs.Storing.{into_stands}
use Rattle.vx_steps.proofs.leaf_columns.LeafColumns.into_indexed.Goals as goal

pub returns : goal.returns
returns c =
    let inside = c.self.inside in
    into_stands inside.gone (map kept_data inside.handed.value.items ++ map seen_data inside.decoded.items) inside.kept inside.ready c.args.self c.self.view_is c.self.invariant.stored c.into_indexed.result c.into_indexed.ensures
