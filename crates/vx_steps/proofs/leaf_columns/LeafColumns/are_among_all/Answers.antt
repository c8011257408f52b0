use Rattle.std.proofs.Common.{map, subst, ◌++◌}
use Rattle.vx_steps.specs.Kept.{kept_data}
use Rattle.vx_steps.specs.LeafColumns.{seen_data, AreAmongAll}
use Rattle.vx_steps.proofs.Storing.{among_all}
use Rattle.vx_steps.proofs.leaf_columns.LeafColumns.are_among_all.Goals as goal

pub returns : goal.returns
returns c =
    let inside = c.self.inside in
    subst AreAmongAll c.self.view_is (among_all inside.gone (map kept_data inside.handed.value.items ++ map seen_data inside.decoded.items) inside.kept c.self.invariant.stored)
